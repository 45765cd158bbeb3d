-- By computation.
use mathlib.Core.Path.{refl}
use Rattle.wire.specs.Reading.{word_of, long_of}
use Rattle.inplace.specs.Reading.{head_of}
use Rattle.inplace.proofs.head_as_bytes.Goals as goal

pub returns : goal.returns
unfolding word_of long_of head_of
returns c = refl
