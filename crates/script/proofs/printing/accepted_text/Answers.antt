use Rattle.std.proofs.Common.{◌≡◌, length, sym, ◌∙◌, append_assoc, append-nil, rules}
use Rattle.text.specs.Writing.{line_length}
use Rattle.text.proofs.Capped.{capped-capped, capped-shown}
use Rattle.script.specs.Printing.{answer_text}
use Rattle.script.proofs.printing.accepted_text.Goals as goal

pub returns-in-Made : goal.returns-in-Made
unfolding answer_text
returns-in-Made c =
    let t = c.args.command in
    let h : length t.bytes ≡ line_length = search rules in
    rw c.in-Made.is (sym (capped-shown t h) ∙ simp append-nil)

pub returns-in-Offered : goal.returns-in-Offered
unfolding answer_text
returns-in-Offered c = rw c.in-Offered.is (simp (c.decimal.ensures, c.byte-in-Offered.ensures, c.byte.ensures, capped-capped, append_assoc))

pub returns-in-Unchanged : goal.returns-in-Unchanged
unfolding answer_text
returns-in-Unchanged c = rw c.in-Unchanged.is (simp (c.byte-in-Unchanged-2.ensures, c.byte-in-Unchanged.ensures, capped-capped, append_assoc))

pub returns-in-Withdrawn : goal.returns-in-Withdrawn
unfolding answer_text
returns-in-Withdrawn c = rw c.in-Withdrawn.is (simp (c.byte-in-Withdrawn-3.ensures, c.byte-in-Withdrawn-2.ensures, c.byte-in-Withdrawn.ensures, capped-capped, append_assoc))

pub returns-in-TooLate : goal.returns-in-TooLate
unfolding answer_text
returns-in-TooLate c =
    rw c.in-TooLate.is
    (simp (c.byte-in-TooLate-5.ensures, c.byte-in-TooLate-4.ensures, c.byte-in-TooLate-3.ensures, c.byte-in-TooLate-2.ensures, c.byte-in-TooLate.ensures, capped-capped, append_assoc))

pub returns-in-Runnable : goal.returns-in-Runnable
unfolding answer_text
returns-in-Runnable c = rw c.in-Runnable.is (simp (c.hex.ensures, c.byte-in-Runnable.ensures, capped-capped, append_assoc))
