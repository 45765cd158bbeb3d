use Rattle.std.proofs.Common.{append_assoc}
use Rattle.text.proofs.Capped.{capped-capped}
use Rattle.script.specs.Printing.{answer_text}
use Rattle.script.proofs.printing.outcome_text.Goals as goal

pub returns : goal.returns
unfolding answer_text
returns c =
    simp (c.message_text.ensures, c.byte-3.ensures, c.decimal-named.ensures, c.byte-2.ensures, c.decimal-guard.ensures, c.byte.ensures, capped-capped, append_assoc)
