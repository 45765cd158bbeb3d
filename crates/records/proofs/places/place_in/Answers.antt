use Rattle.std.proofs.Common.{◌≤◌, sym, arith}
use Rattle.wire.specs.Layout.{message_length}
use Rattle.wire.specs.Reading.{byte, message_of}
use Rattle.records.specs.Layout.{part, place_at, outcome_at}
use Rattle.records.specs.Reading.{place_of}
use Rattle.records.proofs.Tags.{last_place}
use Rattle.records.proofs.places.place_in.Goals as goal

pub returns-in_default : goal.returns-in_default
unfolding place_of
returns-in_default c =
    let r = c.args.r.now in
    let h : 10 ≤ byte r place_at = omega arith in
    rw c.message_of.ensures (sym (last_place _ _ _ (message_of (part r outcome_at message_length)) h))
