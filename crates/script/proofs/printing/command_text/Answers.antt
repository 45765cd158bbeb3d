use Rattle.text.proofs.Capped.{capped-capped}
use Rattle.script.proofs.Texts.{number-capped}
use Rattle.script.proofs.printing.command_text.Goals as goal

pub returns : goal.returns
returns c = simp (c.decimal.ensures, c.byte-2.ensures, c.byte.ensures, c.empty.ensures, capped-capped) (number-capped _ _)
