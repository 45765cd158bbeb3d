use Rattle.sheet.proofs.Cuts.{sheet-of-pieces}
use Rattle.sheet.proofs.sheet_of_pieces.Goals as goal

pub returns : goal.returns
returns c = sheet-of-pieces
