use Rattle.std.proofs.Common.{◌/◌, length}
use Rattle.alternative.specs.Guards.{lent}
use Rattle.wire.specs.Layout.{guard_length}
use Rattle.wire.specs.Reading.{offer_of, guard_of}
use Rattle.wire.proofs.Offers.{same-slots}
use Rattle.wire.proofs.Lists.{each-count}
use Rattle.wire.proofs.reading.offer_of.Goals as goal

pub returns : goal.returns
unfolding lent offer_of
returns c =
    let s = c.args.bytes.now in
    rw (
      c.blanked.ensures,
      c.guards_of.ensures,
      same-slots s (length s / guard_length),
      each-count guard_of guard_length (length s / guard_length) s,
    )
