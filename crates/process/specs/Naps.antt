-- To be believed. CR 3 of document 02, as a claim about the rules: "The comparison with the step table is against this rule 2; d = 1 gives the old one".
use Rattle.std.specs.Prelude.{◌≡◌}
use Rattle.process.specs.Types.{ℕ, false, Place, Process}
use Rattle.process.specs.Process.{is_at}
use Rattle.process.specs.Rules.{rule_at}

pub record OldRule2 : Type 0 where
  -- document 01's rule 2, "S: the same as rule 1, with the same ticket.", whatever count a sleeper has
  pub one : (p : ℕ) (x : Process) (q : ℕ) (y : Process) (s : ℕ) → rule_at 1 p x q y (Place.Asleep s) ≡ rule_at 1 p x q y Place.Entering
  -- at every other place the rule is the same for all d
  pub others : (d p : ℕ) (x : Process) (q : ℕ) (y : Process) (place : Place) → is_at "S" place ≡ false → rule_at d p x q y place ≡ rule_at 1 p x q y place
