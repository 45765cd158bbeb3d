use Rattle.history.proofs.SheetCases.{sheet-cases-hold}
use Rattle.history.proofs.sheet_cases.Goals as goal

pub returns : goal.returns
returns c = sheet-cases-hold
