use Rattle.std.proofs.Common.{sym, ap, ◌∙◌}
use Rattle.std.specs.Float.{binary32}
use Rattle.std.specs.Float.Ieee.{to_bits}
use Rattle.alternative.proofs.Nan.{is-nan}
use Rattle.alternative.proofs.floats.bits_of.Goals as goal

pub returns-then-is_nan : goal.returns-then-is_nan
unfolding to_bits
returns-then-is_nan c = sym (ap (to_bits binary32) (is-nan _ (sym c.is_nan.ensures.value ∙ c.if-is_nan.true)))
