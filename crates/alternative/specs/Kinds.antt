-- To be believed. CR 2 of document 02: what kinds change of "match". The function `kinds_refine` carries these claims.
use Rattle.std.specs.Prelude.{◌≡◌}
use Rattle.alternative.specs.Types.{ℕ, true, Guard}
use Rattle.alternative.specs.Guards.{plain_match, guards_match}

pub record KindsRefine : Type 0 where
  -- "two guards match only if their kinds are equal as well",
  pub only_equal : (p q : ℕ) (g h : Guard) → guards_match p g q h ≡ true → g.kind ≡ h.kind
  -- and if they are, they match as document 01 says
  pub as_before : (p q : ℕ) (g h : Guard) → g.kind ≡ h.kind → guards_match p g q h ≡ plain_match p g q h
