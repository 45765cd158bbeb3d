-- Laws of values that are read at numbers from a first one on.
use Prim.Native.Nat.{ℕ, zero, suc, ◌+◌, ◌<◌}
use mathlib.Core.Path.{◌≡◌, refl, sym, ap, ◌∙◌}
use mathlib.Core.Bool.{Bool, true, false}
use native.Mathlib.Nat.{not-suc-le-zero, le_of_suc-le-suc}
use native.Mathlib.Omega.{arith}
use lib.ListN.{length, get_or, set, length-set}
use lib.Seq.{ext_get_or, get_or-set_same, get_or-set_other}
use lib.Dec.{eqb}
use borrow.Author.Tests.{eqb-true, eqb-false}
use Rattle.records.specs.Reading.{values}

module _ {A : Type 0} (f : ℕ → A) where
  pub values_length : (from count : ℕ) → length (values f from count) ≡ count
  unfolding values
  values_length from zero = refl
  values_length from (suc count) = ap suc (values_length (suc from) count)

  pub values-at : (from count i : ℕ) (d : A) → i < count → get_or (values f from count) i d ≡ f (from + i)
  unfolding values
  values-at from zero i d h = absurd (not-suc-le-zero h)
  values-at from (suc count) zero d h = ap f (omega arith)
  values-at from (suc count) (suc i) d h = values-at (suc from) count i d (le_of_suc-le-suc h) ∙ ap f (omega arith)

  pub value-at : (count i : ℕ) (d : A) → i < count → get_or (values f 0 count) i d ≡ f i
  value-at count i d h = values-at 0 count i d h ∙ ap f (omega arith)

-- values that differ at one number
pub values-set : {A : Type 0} (f g : ℕ → A) (d : A) (count p : ℕ) (x : A) → p < count → f p ≡ x → ((q : ℕ) → q < count → (q ≡ p → ⊥) → f q ≡ g q) → values f 0 count ≡ set (values g 0 count) p x
values-set f g d count p x h e other =
    ext_get_or d (values f 0 count) (set (values g 0 count) p x) (values_length f 0 count ∙ sym (length-set (values g 0 count) p x ∙ values_length g 0 count)) each
  where
    each : (q : ℕ) → q < length (values f 0 count) → get_or (values f 0 count) q d ≡ get_or (set (values g 0 count) p x) q d
    each q i = value-at f count q d (omega (arith, values_length f 0 count)) ∙ go (eqb q p) refl
      where
        go : (b : Bool) → eqb q p ≡ b → f q ≡ get_or (set (values g 0 count) p x) q d
        go true s = let j : q ≡ p = eqb-true q p s in rw (j, get_or-set_same (values g 0 count) p x d (omega (arith, values_length g 0 count))) e
        go false s =
            let j : q < count = omega (arith, values_length f 0 count) in
            rw (get_or-set_other (values g 0 count) p q x d (eqb-false q p s), value-at g count q d j) (other q j (eqb-false q p s))
