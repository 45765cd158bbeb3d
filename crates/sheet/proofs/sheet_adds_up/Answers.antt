use Rattle.sheet.proofs.Signed.{sheet-adds-up}
use Rattle.sheet.proofs.sheet_adds_up.Goals as goal

pub returns : goal.returns
returns c = sheet-adds-up
