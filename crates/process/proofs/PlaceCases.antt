-- By what a place carries: what holds of what is said of each case holds of what is said of the place.
use Rattle.std.specs.Prelude.{Some}
use Prim.Native.Nat.{ℕ}
use mathlib.Core.Path.{◌≡◌, refl}
use Rattle.alternative.specs.declared.Message.{Message}
use Rattle.process.specs.declared.Place.{Place}
use Rattle.process.specs.Process.{carried, index_of, if_met, if_committed}

-- of two readings of one place
module _ {ℓ κ} {A : Type ℓ} {B : Type κ} (R : A → B → Type 0) (other : A) (other' : B) where
  pub both-carried : (index : ℕ → A) (index' : ℕ → B) (kept : ℕ → ℕ → A) (kept' : ℕ → ℕ → B) (steps : ℕ → A) (steps' : ℕ → B) (outcome : ℕ → Message → A) (outcome' : ℕ → Message → B) (place : Place)
      → R other other' → ((i : ℕ) → index_of place ≡ Some i → R (index i) (index' i)) → ((i j : ℕ) → place ≡ Place.Committed i j → R (kept i j) (kept' i j))
      → ((s : ℕ) → place ≡ Place.Asleep s → R (steps s) (steps' s)) → ((i : ℕ) (m : Message) → place ≡ Place.Met i m → R (outcome i m) (outcome' i m))
      → R (carried other index kept steps outcome place) (carried other' index' kept' steps' outcome' place)
  both-carried a a' b b' c c' d d' Place.Idle o h k n q = o
  both-carried a a' b b' c c' d d' Place.Entering o h k n q = o
  both-carried a a' b b' c c' d d' (Place.Scanning i) o h k n q = h i refl
  both-carried a a' b b' c c' d d' (Place.Trying i) o h k n q = h i refl
  both-carried a a' b b' c c' d d' (Place.Committed i j) o h k n q = k i j refl
  both-carried a a' b b' c c' d d' Place.Posting o h k n q = o
  both-carried a a' b b' c c' d d' Place.Opening o h k n q = o
  both-carried a a' b b' c c' d d' Place.Showing o h k n q = o
  both-carried a a' b b' c c' d d' (Place.Asleep s) o h k n q = n s refl
  both-carried a a' b b' c c' d d' Place.Waiting o h k n q = o
  both-carried a a' b b' c c' d d' (Place.Met i m) o h k n q = q i m refl

module _ {ℓ} {A : Type ℓ} (P : A → Type 0) (other : A) where
  pub by-carried : (index : ℕ → A) (kept : ℕ → ℕ → A) (steps : ℕ → A) (outcome : ℕ → Message → A) (place : Place) → P other → ((i : ℕ) → index_of place ≡ Some i → P (index i))
      → ((i j : ℕ) → place ≡ Place.Committed i j → P (kept i j)) → ((s : ℕ) → place ≡ Place.Asleep s → P (steps s)) → ((i : ℕ) (m : Message) → place ≡ Place.Met i m → P (outcome i m))
      → P (carried other index kept steps outcome place)
  by-carried index kept steps outcome place o h k n q = both-carried {B = A} (λ a b. P a) other other index index kept kept steps steps outcome outcome place o h k n q

  pub if-met : (met : ℕ → Message → A) (place : Place) → ((i : ℕ) (m : Message) → place ≡ Place.Met i m → P (met i m)) → P other → P (if_met other met place)
  if-met met place h o = by-carried (λ i. other) (λ i j. other) (λ s. other) met place o (λ i e. o) (λ i j e. o) (λ s e. o) h

  pub if-committed : (committed : ℕ → ℕ → A) (place : Place) → ((i j : ℕ) → place ≡ Place.Committed i j → P (committed i j)) → P other → P (if_committed other committed place)
  if-committed committed place h o = by-carried (λ i. other) committed (λ s. other) (λ i m. other) place o (λ i e. o) h (λ s e. o) (λ i m e. o)
