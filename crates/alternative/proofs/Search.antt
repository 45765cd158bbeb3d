-- What a search for the first guard that passes a test finds, and whether one passes it.
use Rattle.std.specs.Prelude.{Option, Some, None}
use Prim.Native.Nat.{ℕ, zero, suc, ◌+◌, ◌<◌}
use mathlib.Core.Path.{◌≡◌, refl, sym, ◌∙◌, ap, subst}
use mathlib.Core.Bool.{Bool, true, false, cond, false≢true, or-true}
use mathlib.Core.List.{List, [], ◌∷◌}
use native.Mathlib.Nat.{add-zero}
use native.Mathlib.Omega.{arith}
use lib.ListN.{get_or}
use Rattle.alternative.specs.Types.{Guard}
use Rattle.alternative.specs.Guards.{blank, any_guard, first_from}

-- by the two values of a test
test-elim : {A : Type 0} (P : A → Type 0) (b : Bool) {x y : A} → (b ≡ true → P x) → (b ≡ false → P y) → P (cond b x y)
test-elim P true f g = f refl
test-elim P false f g = g refl

-- what fails at a list's head and at each index of the rest, or at each below one, fails in the list
all : (test : Guard → Bool) (g : Guard) (gs : List Guard) → test g ≡ false → ((k : ℕ) → test (get_or gs k blank) ≡ true → ⊥)
    → (k : ℕ) → test (get_or (g ∷ gs) k blank) ≡ true → ⊥
all test g gs e n zero c = false≢true (sym e ∙ c)
all test g gs e n (suc j) c = n j c

later : (test : Guard → Bool) (g : Guard) (gs : List Guard) (i : ℕ) → test g ≡ false → ((k : ℕ) → k < i → test (get_or gs k blank) ≡ true → ⊥)
    → (k : ℕ) → k < suc i → test (get_or (g ∷ gs) k blank) ≡ true → ⊥
later test g gs i e n zero l c = false≢true (sym e ∙ c)
later test g gs i e n (suc j) l c = n j (omega arith) c

-- A search stops at a guard that passes the test with none before it, or finds none.
pub first-view : (P : Option ℕ → Type 0) (test : Guard → Bool) (hs : List Guard) (s : ℕ) → (test blank ≡ true → ⊥)
    → ((i : ℕ) → test (get_or hs i blank) ≡ true → ((k : ℕ) → k < i → test (get_or hs k blank) ≡ true → ⊥) → P (Some (s + i)))
    → (((k : ℕ) → test (get_or hs k blank) ≡ true → ⊥) → P None)
    → P (first_from test hs s)
unfolding first_from
first-view P test [] s off a b = b (λ k. off)
first-view P test (g ∷ gs) s off a b = test-elim P (test g)
    (λ e. rw add-zero at (a 0 e (λ k l. absurd (omega arith))))
    (λ e. first-view P test gs (suc s) off
    (λ i o n. subst P (ap Some (omega arith)) (a (suc i) o (later test g gs i e n)))
    (λ n. b (all test g gs e n)))

-- the first index at which a test passes is found
pub first-at : (test : Guard → Bool) (hs : List Guard) (s i : ℕ) → (test blank ≡ true → ⊥) → test (get_or hs i blank) ≡ true → ((k : ℕ) → k < i → test (get_or hs k blank) ≡ true → ⊥) → first_from test hs s ≡ Some (s + i)
unfolding first_from
first-at test [] s i off e n = absurd (off e)
first-at test (g ∷ gs) s zero off e n = rw (e, add-zero)
first-at test (g ∷ gs) s (suc i) off e n =
    test-elim (λ (f : Option ℕ). f ≡ Some (s + suc i)) (test g) (λ t. absurd (n 0 (omega arith) t)) (λ t. first-at test gs (suc s) i off e (λ k l. n (suc k) (omega arith)) ∙ ap Some (omega arith))

-- a guard of the list passes a test if the one at some index does, and only then
pub any_some : (test : Guard → Bool) (gs : List Guard) (k : ℕ) → (test blank ≡ true → ⊥) → test (get_or gs k blank) ≡ true → any_guard test gs ≡ true
unfolding any_guard
any_some test [] k off e = absurd (off e)
any_some test (g ∷ gs) zero off e = rw e
any_some test (g ∷ gs) (suc k) off e = rw (any_some test gs k off e) (or-true (test g))

pub any_none : (test : Guard → Bool) (gs : List Guard) → ((k : ℕ) → test (get_or gs k blank) ≡ false) → any_guard test gs ≡ false
unfolding any_guard
any_none test [] h = refl
any_none test (g ∷ gs) h = rw (h 0) (any_none test gs (λ k. h (suc k)))
