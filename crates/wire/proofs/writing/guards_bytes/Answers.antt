use Rattle.std.proofs.Common.{◌≡◌, ◌*◌, ◌∙◌, refl, arith, rules, length, get_or}
use Rattle.alternative.specs.Guards.{most_guards, blank}
use Rattle.wire.specs.Layout.{guard_length}
use Rattle.wire.specs.Writing.{each_bytes, guard_bytes, guards_bytes}
use Rattle.wire.proofs.Lists.{written-more, written-end, sets-whole}
use Rattle.wire.proofs.Lengths.{guard-length}
use Rattle.wire.proofs.writing.guards_bytes.Goals as goal

pub loop-k-init : goal.loop-k-init
unfolding each_bytes
loop-k-init c = (omega arith, refl, refl, refl)

pub loop-k-preserved : goal.loop-k-preserved
loop-k-preserved c =
    let k = c.loop-k.k in
    let gs = c.args.guards.now in
    let n : length gs ≡ most_guards = search rules in
    rw (c.put_bytes.ensures, c.guard_bytes.ensures)
    (written-more guard_bytes guard_length most_guards gs blank 0 _ k c.loop-k.out (guard_length * k) n (omega arith) (guard-length (get_or gs k blank)) (omega arith) c.loop-k.invariant)

pub returns : goal.returns
unfolding guards_bytes
returns c =
    let gs = c.args.guards.now in
    let n : length gs ≡ most_guards = search rules in
    let end = written-end guard_bytes guard_length most_guards gs 0 _ c.loop-k.k c.loop-k.out n (omega arith) c.loop-k.invariant in
    end.1 ∙ sets-whole _ (each_bytes guard_bytes gs) end.0
