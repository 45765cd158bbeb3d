use Rattle.text.proofs.Capped.{capped-capped}
use Rattle.script.proofs.Texts.{refusal-capped}
use Rattle.script.proofs.printing.malformed_line.Goals as goal

pub returns : goal.returns
returns c = simp (c.byte.ensures, c.refusal_text.ensures, capped-capped) (refusal-capped 8)
