use Rattle.std.proofs.Common.{sym}
use Rattle.std.specs.Float.{binary32}
use lib.Ieee.Bits.{nan_bits_above}
use Rattle.alternative.proofs.floats.is_nan_pattern.Goals as goal

pub returns : goal.returns
returns c = sym (nan_bits_above binary32 c.args.bits)
