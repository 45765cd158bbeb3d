use Rattle.std.proofs.Common.{◌<◌, ◌≢◌, ◌∙◌, arith, length, length-set, below_more, get_or-set_same, get_or-set_other}
use Rattle.alternative.specs.Guards.{most_guards, blank}
use Rattle.wire.specs.Layout.{guard_length}
use Rattle.wire.specs.Reading.{guard_of, guards_of}
use Rattle.wire.proofs.Lists.{each-is}
use Rattle.wire.proofs.reading.guards_of.Goals as goal

pub loop-k-preserved : goal.loop-k-preserved
loop-k-preserved c =
    let read = c.loop-k.invariant in
    rw (c.guard_of.ensures, c.from.ensures) (
      length-set _ _ _ ∙ read.0,
      below_more _ _
          (λ i h. let ne : i ≢ c.loop-k.k = omega arith in rw get_or-set_other (read.1 i h))
          (let lt : c.loop-k.k < length c.loop-k.g-items = omega (arith, read.0) in rw get_or-set_same),
    )

pub returns : goal.returns
unfolding guards_of
returns c = each-is guard_of guard_length most_guards c.args.bytes.now c.loop-k.g-items blank c.loop-k.invariant.0 (λ i h. c.loop-k.invariant.1 i (omega arith))
