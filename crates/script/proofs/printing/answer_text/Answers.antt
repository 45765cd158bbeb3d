use Rattle.script.specs.Printing.{answer_text}
use Rattle.script.proofs.printing.answer_text.Goals as goal

pub returns-in-Err : goal.returns-in-Err
unfolding answer_text
returns-in-Err c = rw c.in-Err.is (simp (c.refusal_text.ensures, c.number.ensures))
