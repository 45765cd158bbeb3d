use Rattle.std.proofs.Common.{◌≡◌, append_assoc, rules, to_z, w32}
use mir.Val.{of_z}
use Rattle.text.proofs.Capped.{capped-capped}
use Rattle.script.specs.Printing.{message_text}
use Rattle.script.proofs.printing.message_text.Goals as goal

pub returns-in-Whole : goal.returns-in-Whole
unfolding message_text
returns-in-Whole c =
    let x = c.in-Whole.x in
    let e : to_z w32 (of_z w32 x) ≡ x = search rules in
    rw c.in-Whole.is (simp (c.whole.ensures, e, c.byte-in-Whole.ensures, capped-capped, append_assoc))

pub returns-in-Reading : goal.returns-in-Reading
unfolding message_text
returns-in-Reading c = rw c.in-Reading.is (simp (c.hex.ensures, c.bits_of.ensures, c.byte-in-Reading.ensures, capped-capped, append_assoc))

pub returns-in-Limit : goal.returns-in-Limit
unfolding message_text
returns-in-Limit c =
    rw c.in-Limit.is
    (simp (c.hex-in-Limit-2.ensures, c.bits_of-in-Limit-2.ensures, c.hex-in-Limit.ensures, c.bits_of-in-Limit.ensures, c.byte-in-Limit.ensures, capped-capped, append_assoc))
