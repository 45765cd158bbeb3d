-- Guards match only within a kind, and there as document 01 says.
use Prim.Native.Nat.{ℕ}
use mathlib.Core.Path.{◌≡◌, refl}
use mathlib.Core.Bool.{Bool, true, false, and-true, and-false, false≢true}
use lib.Dec.{eqb}
use borrow.Author.Tests.{eqb-true, eq-eqb}
use Rattle.alternative.specs.Types.{Guard}
use Rattle.alternative.specs.Guards.{plain_match, guards_match}
use Rattle.alternative.specs.Kinds.{KindsRefine}

only_equal : (p q : ℕ) (g h : Guard) → guards_match p g q h ≡ true → g.kind ≡ h.kind
unfolding guards_match
only_equal p q g h e = go (eqb g.kind h.kind) refl
  where
    go : (same : Bool) → eqb g.kind h.kind ≡ same → g.kind ≡ h.kind
    go true f = eqb-true _ _ f
    go false f = absurd (false≢true (simp and-false at (rw f at e)))

pub kinds-refine : KindsRefine
unfolding guards_match
kinds-refine = record { only_equal = only_equal; as_before = λ p q g h e. rw (eq-eqb g.kind h.kind e) (and-true (plain_match p g q h)) }
