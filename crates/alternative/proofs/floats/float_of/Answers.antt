use Rattle.std.proofs.Common.{sym, ◌∙◌}
use Rattle.std.specs.Float.{binary32}
use Rattle.std.specs.Float.Ieee.{of_bits}
use lib.Ieee.{div}
use lib.Ieee.Bits.{nan_bits_is}
use Rattle.alternative.proofs.Nan.{is-nan}
use Rattle.alternative.proofs.floats.float_of.Goals as goal

pub returns-then-is_nan_pattern : goal.returns-then-is_nan_pattern
unfolding div of_bits
returns-then-is_nan_pattern c =
    let b = c.args.bits in
    sym (is-nan (of_bits binary32 b) (sym (nan_bits_is binary32 b) ∙ sym c.is_nan_pattern.ensures ∙ c.if-is_nan_pattern.true))
