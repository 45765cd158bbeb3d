-- Where a magnitude meets its sign.
use Rattle.std.specs.Prelude.{Option, Some, None, Result, Ok, Err, neg_ℤ, cond, leb}
use Rattle.std.specs.Option.{SomeIff}
use Rattle.std.specs.Result.{OkIff, result_ok}
use Rattle.std.proofs.Common.{ℕ, zero, suc, ◌≡◌, ◌<◌, ◌≤◌, ℤ, pos, ◌-ℤ◌, FitsSigned, w32, Bool, true, false, refl, sym, ◌∙◌, ap, subst, arith}
use lib.IntN.{+ℤ_idl}
use borrow.Author.Tests.{lt-ltb, le-ltb, le-leb, leb-true}
use Rattle.text.specs.Private.{positive_of, negative_of}

minus : (n : ℕ) → pos 0 -ℤ pos n ≡ neg_ℤ (pos n)
minus n = +ℤ_idl (neg_ℤ (pos n))

minus-fits : (n : ℕ) → n ≤ 2147483648 → FitsSigned w32 (neg_ℤ (pos n))
minus-fits zero h = record { sfits = omega arith }
minus-fits (suc n) h = record { sfits = omega arith }

minus-small : (n : ℕ) → FitsSigned w32 (neg_ℤ (pos n)) → n ≤ 2147483648
minus-small zero f = omega arith
minus-small (suc n) f = omega (arith, f.sfits)

pub negative-zero : (n : ℕ) → n ≡ 0 → negative_of n ≡ None
unfolding negative_of
negative-zero n e = rw (le-ltb 0 n (omega arith))

pub negative-checked : (n : ℕ) (r : Option ℤ) → 0 < n → SomeIff r (FitsSigned w32 (pos 0 -ℤ pos n)) (pos 0 -ℤ pos n) → r ≡ negative_of n
unfolding negative_of
negative-checked n None p h = rw (lt-ltb 0 n p) (at (leb n 2147483648) refl)
  where
    at : (t : Bool) → leb n 2147483648 ≡ t → None ≡ cond t (Some (neg_ℤ (pos n))) None
    at true e = absurd (h (subst (λ (z : ℤ). FitsSigned w32 z) (sym (minus n)) (minus-fits n (leb-true n 2147483648 e))))
    at false e = refl
negative-checked n (Some x) p h =
    rw (lt-ltb 0 n p, le-leb n 2147483648 (minus-small n (subst (λ (z : ℤ). FitsSigned w32 z) (minus n) h.0))) (ap Some (h.1 ∙ minus n))

pub ruleset negatives = (negative-zero, negative-checked)

pub positive-checked : {E : Type 0} (n : ℕ) (r : Result ℤ E) → OkIff r (FitsSigned w32 (pos n)) (pos n) → result_ok r ≡ positive_of n
unfolding positive_of
positive-checked n (Ok x) h = rw (le-leb n 2147483647 (omega (arith, h.0.sfits))) (ap Some h.1)
positive-checked n (Err x) h = at (leb n 2147483647) refl
  where
    at : (t : Bool) → leb n 2147483647 ≡ t → None ≡ cond t (Some (pos n)) None
    at true e = let k = leb-true n 2147483647 e in absurd (h (record { sfits = omega (arith, k) }))
    at false e = refl
