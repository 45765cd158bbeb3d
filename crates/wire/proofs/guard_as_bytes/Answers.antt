-- By computation.
use mathlib.Core.Path.{refl}
use Rattle.wire.specs.Reading.{word_of, message_of, action_of, guard_of}
use Rattle.wire.specs.Writing.{word_bytes, message_bytes, action_bytes, guard_bytes}
use Rattle.wire.proofs.guard_as_bytes.Goals as goal

pub returns : goal.returns
unfolding word_of message_of action_of guard_of word_bytes message_bytes action_bytes guard_bytes
returns c = (refl, refl)
