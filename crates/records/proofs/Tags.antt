-- A place and a signal, by their tags.
use Prim.Native.Nat.{ℕ, zero, suc, ◌≤◌}
use mathlib.Core.Path.{◌≡◌, refl, sym}
use mathlib.Core.Bool.{Bool, true, false, ◌&&◌, ◌||◌, not}
use mathlib.Core.List.{List, [], ◌∷◌}
use native.Mathlib.Omega.{arith}
use lib.ListN.{get_or-eq_default}
use lib.Dec.{ltb, eqb}
use borrow.Author.Tests.{le-leb, lt-leb, ne_eqb, eqb-true}
use Rattle.wire.specs.Reading.{byte}
use Rattle.process.specs.Process.{open_at}
use Rattle.process.specs.Fits.{signal_fits, place_fits}
use Rattle.records.specs.Types.{Message, Place}
use Rattle.records.specs.Reading.{place_by, signal_by}
use Rattle.records.specs.Private.{indexed, open_by, indexes_fit}

-- by tags
pub by-tag : (P : ℕ → Type 0) → P 0 → P 1 → P 2 → P 3 → P 4 → P 5 → P 6 → P 7 → P 8 → P 9 → ((k : ℕ) → 10 ≤ k → P k) → (k : ℕ) → P k
by-tag P a b c d e f g h i j last zero = a
by-tag P a b c d e f g h i j last (suc zero) = b
by-tag P a b c d e f g h i j last (suc (suc zero)) = c
by-tag P a b c d e f g h i j last (suc (suc (suc zero))) = d
by-tag P a b c d e f g h i j last (suc (suc (suc (suc zero)))) = e
by-tag P a b c d e f g h i j last (suc (suc (suc (suc (suc zero))))) = f
by-tag P a b c d e f g h i j last (suc (suc (suc (suc (suc (suc zero)))))) = g
by-tag P a b c d e f g h i j last (suc (suc (suc (suc (suc (suc (suc zero))))))) = h
by-tag P a b c d e f g h i j last (suc (suc (suc (suc (suc (suc (suc (suc zero)))))))) = i
by-tag P a b c d e f g h i j last (suc (suc (suc (suc (suc (suc (suc (suc (suc zero))))))))) = j
by-tag P a b c d e f g h i j last (suc (suc (suc (suc (suc (suc (suc (suc (suc (suc k)))))))))) = last (suc (suc (suc (suc (suc (suc (suc (suc (suc (suc k)))))))))) (omega arith)

pub and-true : (a : Bool) → (a && true) ≡ a
and-true true = refl
and-true false = refl

pub last_place : (tag i j : ℕ) (m : Message) → 10 ≤ tag → place_by tag i j m ≡ Place.Met i m
last_place tag i j m h = get_or-eq_default (Place.Idle ∷ Place.Entering ∷ Place.Scanning i ∷ Place.Trying i ∷ Place.Committed i j ∷ Place.Posting ∷ Place.Opening ∷ Place.Showing ∷ Place.Asleep i ∷ Place.Waiting ∷ []) (Place.Met i m) h

module _ (nap i j : ℕ) (m : Message) (count posted : ℕ) where
  abbrev Parted : ℕ → Type 0
  Parted tag = place_fits nap count posted (place_by tag i j m) ≡ ((not (indexed tag) || ltb i count) && ((not (eqb tag 8) || ltb i nap) && (not (eqb tag 4) || ltb j posted)))

  -- the test of a place in three: its index, the steps at S, and the kept index
  pub place-fits : (tag : ℕ) → Parted tag
  place-fits tag = by-tag Parted refl refl (sym (and-true (ltb i count))) (sym (and-true (ltb i count))) refl refl refl refl (sym (and-true (ltb i nap))) refl last tag
    where
      last : (k : ℕ) → 10 ≤ k → Parted k
      last k h = rw (last_place k i j m h, le-leb 10 k h, lt-leb k 4 (omega arith), le-leb 2 k (omega arith), ne_eqb k 8 (λ e. omega arith), ne_eqb k 4 (λ e. omega arith)) (sym (and-true (ltb i count)))

pub signal-fits : (tag i : ℕ) (m : Message) (count : ℕ) → signal_fits count (signal_by tag i m) ≡ (eqb tag 0 || ltb i count)
signal-fits zero i m count = refl
signal-fits (suc k) i m count = rw (ne_eqb (suc k) 0 (λ e. omega arith))

-- where an offer is open
pub open_at-by : (i j : ℕ) (m : Message) (accepting : Bool) (tag : ℕ) → open_at (place_by tag i j m) accepting ≡ open_by tag accepting
open_at-by i j m accepting tag = by-tag (λ k. open_at (place_by k i j m) accepting ≡ open_by k accepting) refl refl refl refl refl refl refl refl refl refl last tag
  where
    last : (k : ℕ) → 10 ≤ k → open_at (place_by k i j m) accepting ≡ open_by k accepting
    last k h = rw (last_place k i j m h, le-leb 1 k (omega arith), lt-leb k 3 (omega arith), le-leb 5 k (omega arith), lt-leb k 6 (omega arith), ne_eqb k 8 (λ e. omega arith), ne_eqb k 7 (λ e. omega arith), ne_eqb k 9 (λ e. omega arith))

-- at W and I no index but the signal's is tested
pub resting_fits : (nap : ℕ) (r : List ℕ) → (eqb (byte r 0) 9 || eqb (byte r 0) 0) ≡ true → indexes_fit nap r ≡ (eqb (byte r 3) 0 || ltb (byte r 4) (byte r 5))
unfolding indexes_fit
resting_fits nap r e = go (eqb (byte r 0) 9) refl e
  where
    go : (b : Bool) → eqb (byte r 0) 9 ≡ b → (b || eqb (byte r 0) 0) ≡ true → indexes_fit nap r ≡ (eqb (byte r 3) 0 || ltb (byte r 4) (byte r 5))
    go true f h = rw (eqb-true (byte r 0) 9 f)
    go false f h = rw (eqb-true (byte r 0) 0 h)
