use Rattle.text.proofs.Capped.{capped-capped}
use Rattle.script.proofs.printing.refusal_text.Goals as goal

pub returns : goal.returns
returns c = simp (c.decimal.ensures, c.byte-2.ensures, c.byte.ensures, c.empty.ensures, capped-capped)
