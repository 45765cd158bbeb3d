use Rattle.std.proofs.Common.{ℕ, ◌+◌, ◌*◌, sym, ap, ◌∙◌, take, drop}
use Rattle.wire.specs.Reading.{message_of}
use Rattle.records.proofs.Cuts.{lent-count}
use Rattle.records.proofs.Records.{receives-nothing, sends-nine}
use Rattle.records.proofs.messages.sent_bytes.Goals as goal

pub returns-then-r-at-ne0 : goal.returns-then-r-at-ne0
returns-then-r-at-ne0 c =
    let a = c.args in
    let o = a.at + 32 + 9 * a.k in
    ap message_of (c.copy_from_slice.ensures.after ∙ ap (λ (n : ℕ). take n (drop o a.r.now)) (lent-count o 9)) ∙ sends-nine a.r.now a.at a.k c.requires.0 c.requires.1 c.if-r-at-ne0.true

pub returns-else-r-at-ne0 : goal.returns-else-r-at-ne0
unfolding message_of
returns-else-r-at-ne0 c = sym (receives-nothing c.args.r.now c.args.at c.args.k c.requires.0 c.requires.1 c.if-r-at-ne0.false)
