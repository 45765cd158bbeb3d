use Rattle.std.proofs.Common.{◌≤◌, refl, arith, add-one, length, drop-cons}
use lib.ListN.{drop_of_length-le}
use Rattle.alternative.specs.Guards.{blank, first_from, next_enabled}
use Rattle.alternative.proofs.matching.next_enabled.Goals as goal

pub loop-k-init : goal.loop-k-init
unfolding next_enabled
loop-k-init c = refl

pub returns-then-searched-k : goal.returns-then-searched-k
unfolding first_from
returns-then-searched-k c = rw (← c.first_eight-searched.ensures, c.loop-k.invariant, drop-cons c.first_eight-searched.result.now c.loop-k.k blank (omega arith), c.if-searched-k.true)

pub loop-k-preserved : goal.loop-k-preserved
unfolding first_from
loop-k-preserved c = rw (c.loop-k.invariant, add-one, drop-cons c.first_eight-searched.result.now c.loop-k.k blank (omega arith), c.if-searched-k.false)

pub returns : goal.returns
unfolding first_from
returns c =
    let end : length c.first_eight-searched.result.now ≤ c.loop-k.k = omega arith in
    rw (← c.first_eight-searched.ensures, c.loop-k.invariant, drop_of_length-le c.first_eight-searched.result.now end)
