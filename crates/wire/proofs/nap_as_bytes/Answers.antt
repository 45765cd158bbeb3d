-- By computation.
use mathlib.Core.Path.{refl}
use Rattle.wire.specs.Reading.{place_of}
use Rattle.wire.specs.Writing.{word_bytes, message_bytes, place_bytes}
use Rattle.wire.proofs.nap_as_bytes.Goals as goal

pub returns : goal.returns
unfolding place_of word_bytes message_bytes place_bytes
returns c = (refl, refl)
