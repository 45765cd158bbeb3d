-- By computation.
use mathlib.Core.Path.{refl}
use Rattle.wire.specs.Reading.{word_of, message_of}
use Rattle.records.specs.Reading.{values, action_of, guard_of, guards_of, place_of, signal_of, process_of}
use Rattle.records.proofs.record_as_bytes.Goals as goal

pub returns : goal.returns
unfolding word_of message_of values action_of guard_of guards_of place_of signal_of process_of
returns c = refl
