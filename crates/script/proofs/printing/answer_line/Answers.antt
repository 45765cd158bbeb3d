use Rattle.text.proofs.Capped.{capped-capped}
use Rattle.script.proofs.printing.answer_line.Goals as goal

pub returns : goal.returns
returns c = simp (c.byte.ensures, c.answer_text.ensures, capped-capped)
