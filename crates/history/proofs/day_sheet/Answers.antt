use Rattle.history.proofs.DaySheet.{day-sheet}
use Rattle.history.proofs.day_sheet.Goals as goal

pub returns : goal.returns
returns c = day-sheet
