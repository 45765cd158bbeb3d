-- By computation.
use mathlib.Core.Path.{refl}
use Rattle.wire.specs.Reading.{word_of, long_of, head_of}
use Rattle.wire.specs.Writing.{word_bytes, long_bytes, head_bytes}
use Rattle.wire.proofs.head_as_bytes.Goals as goal

pub returns : goal.returns
unfolding word_of long_of head_of word_bytes long_bytes head_bytes
returns c = (refl, refl)
