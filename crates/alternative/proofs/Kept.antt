-- Which guard rule 7's search keeps: of those that match, none ranks higher, and none before it as high.
use Rattle.std.specs.Prelude.{Option, Some, None}
use Prim.Native.Nat.{ℕ, zero, suc, ◌+◌, ◌≤◌, ◌<◌}
use mathlib.Core.Path.{◌≡◌, refl, sym, ◌∙◌, ap, subst, subst⁻¹}
use mathlib.Core.Bool.{Bool, true, false, not, ◌&&◌, false≢true}
use mathlib.Core.List.{List}
use mathlib.Core.Logic.{⊎_elim}
use native.Mathlib.Nat.{le_of_suc-le-suc, eq-or-lt_of_le}
use native.Mathlib.Numerals.{add-one}
use native.Mathlib.Omega.{arith}
use lib.ListN.{get_or, length, get_or-eq_default}
use lib.Dec.{ltb, leb}
use borrow.Author.Tests.{ltb-true, ltb-false, leb-true, leb-false, lt-ltb, le-ltb, not-true}
use Rattle.alternative.specs.Types.{Guard}
use Rattle.alternative.specs.Guards.{blank, plain_match, guards_match, outranked, kept_match}
use Rattle.alternative.proofs.Search.{first-view, first-at, any_some, any_none}
use Rattle.alternative.proofs.Tests.{and_parts}

abbrev pub rank_at : List Guard → ℕ → ℕ
rank_at hs k = (get_or hs k blank).rank

module _ (test : Guard → Bool) (hs : List Guard) where
  -- of the first n guards that pass the test the one at j ranks highest, and is the first that does
  pub record Best (n j : ℕ) : Type 0 where
    pub below : j < n
    pub passes : test (get_or hs j blank) ≡ true
    pub greatest : (k : ℕ) → k < n → test (get_or hs k blank) ≡ true → rank_at hs k ≤ rank_at hs j
    pub first : (k : ℕ) → k < j → test (get_or hs k blank) ≡ true → rank_at hs k < rank_at hs j

  -- what a search has kept of the first n guards, and the least rank that takes its place
  abbrev pub SoFar : ℕ → Option ℕ → ℕ → Type 0
  SoFar n None least = (least ≡ 0) × ((k : ℕ) → k < n → test (get_or hs k blank) ≡ true → ⊥)
  SoFar n (Some j) least = (least ≡ suc (rank_at hs j)) × Best n j

  -- what stands below n + 1 stands below n, or at n
  below-or-at : {P : ℕ → Type 0} (n : ℕ) → ((k : ℕ) → k < n → P k) → P n → (k : ℕ) → k < suc n → P k
  below-or-at {P} n below at k h = ⊎_elim (λ e. subst P (sym e) at) (below k) (eq-or-lt_of_le (le_of_suc-le-suc h))

  -- guard n takes the place of the kept one
  taken : (n : ℕ) (kept : Option ℕ) (least : ℕ) → SoFar n kept least → test (get_or hs n blank) ≡ true → least ≤ rank_at hs n → SoFar (suc n) (Some n) (suc (rank_at hs n))
  taken n None least s e l = (refl, record { below = omega arith; passes = e; greatest = below-or-at n (λ k b c. absurd (s.1 k b c)) (λ c. omega arith); first = λ k b c. absurd (s.1 k b c) })
  taken n (Some j) least s e l =
      let lower : (k : ℕ) → k < n → test (get_or hs k blank) ≡ true → rank_at hs k < rank_at hs n = λ k b c. omega (arith, s.0, s.1.greatest k b c) in
      (refl, record { below = omega arith; passes = e; greatest = below-or-at n (λ k b c. omega (arith, lower k b c)) (λ c. omega arith); first = lower })

  -- guard n is passed over
  left : (n : ℕ) (kept : Option ℕ) (least : ℕ) → SoFar n kept least → (test (get_or hs n blank) ≡ true → rank_at hs n < least) → SoFar (suc n) kept least
  left n None least s h = (s.0, below-or-at n s.1 (λ c. omega (arith, s.0, h c)))
  left n (Some j) least s h =
      let b = s.1 in
      (s.0, record { below = omega (arith, b.below); passes = b.passes; greatest = below-or-at n b.greatest (λ c. omega (arith, s.0, h c)); first = b.first })

  -- a turn of the search: h, which is guard n, takes the place of the kept one if it passes the test and its rank is high enough
  pub takes : (n : ℕ) (kept : Option ℕ) (least : ℕ) (h : Guard) → get_or hs n blank ≡ h → SoFar n kept least → (test h && leb least h.rank) ≡ true → SoFar (n + 1) (Some n) (h.rank + 1)
  takes n kept least h is s e = rw (add-one, add-one) (subst (λ (h : Guard). (test h && leb least h.rank) ≡ true → SoFar (suc n) (Some n) (suc h.rank)) is
      (λ e. let both = and_parts (test (get_or hs n blank)) _ e in taken n kept least s both.0 (leb-true _ _ both.1)) e)

  pub leaves : (n : ℕ) (kept : Option ℕ) (least : ℕ) (h : Guard) → get_or hs n blank ≡ h → SoFar n kept least → (test h && leb least h.rank) ≡ false → SoFar (n + 1) kept least
  leaves n kept least h is s e = rw add-one (subst (λ (h : Guard). (test h && leb least h.rank) ≡ false → SoFar (suc n) kept least) is (λ e. left n kept least s (λ c. leb-false _ _ (rw c at e))) e)

  -- a search through the first n guards keeps one or none
  so_far : (n : ℕ) → (kept : Option ℕ) × (least : ℕ) × SoFar n kept least
  so_far zero = (None, 0, (refl, λ k l. absurd (omega arith)))
  so_far (suc n) = let s = so_far n in rw (← add-one) (by s.0 s.1 s.2 (test (get_or hs n blank) && leb s.1 (rank_at hs n)) refl)
    where
      by : (kept : Option ℕ) (least : ℕ) → SoFar n kept least → (e : Bool) → (test (get_or hs n blank) && leb least (rank_at hs n)) ≡ e → (kept : Option ℕ) × (least : ℕ) × SoFar (n + 1) kept least
      by kept least s true e = (Some n, rank_at hs n + 1, takes n kept least _ refl s e)
      by kept least s false e = (kept, least, leaves n kept least _ refl s e)

-- of q's list hs the guards that match p's guard g
module _ (p : ℕ) (g : Guard) (q : ℕ) (hs : List Guard) where
  abbrev matches : Guard → Bool
  matches h = guards_match p g q h

  abbrev keeps : Guard → Bool
  keeps h = matches h && not (outranked p g q hs h)

  pub blank-unmatched : matches blank ≡ true → ⊥
  unfolding guards_match
  blank-unmatched e = false≢true (and_parts g.enabled _ (and_parts (plain_match p g q blank) _ e).0).1

  pub matching-below : (k : ℕ) → matches (get_or hs k blank) ≡ true → k < length hs
  matching-below k e = below (ltb k (length hs)) refl
    where
      below : (b : Bool) → ltb k (length hs) ≡ b → k < length hs
      below true l = ltb-true _ _ l
      below false l = absurd (blank-unmatched (rw (get_or-eq_default hs blank {n = k} (ltb-false _ _ l)) at e))

  -- the best is found
  pub best-kept : (j : ℕ) → Best matches hs (length hs) j → kept_match p g q hs ≡ Some j
  unfolding kept_match outranked
  best-kept j b = first-at keeps hs 0 j (λ e. blank-unmatched (and_parts _ _ e).0) (rw (b.passes, unranked)) before ∙ ap Some (omega arith)
    where
      not-above : (m : Bool) (r : ℕ) → (m ≡ true → r ≤ rank_at hs j) → (m && ltb (rank_at hs j) r) ≡ false
      not-above true r h = le-ltb _ _ (h refl)
      not-above false r h = refl

      unranked : outranked p g q hs (get_or hs j blank) ≡ false
      unranked = any_none _ hs (λ k. not-above (matches (get_or hs k blank)) (rank_at hs k) (λ e. b.greatest k (matching-below k e) e))

      before : (k : ℕ) → k < j → keeps (get_or hs k blank) ≡ true → ⊥
      before k l e =
          let parts = and_parts (matches (get_or hs k blank)) _ e in
          let above : outranked p g q hs (get_or hs k blank) ≡ true = any_some _ hs j (λ c. blank-unmatched (and_parts _ _ c).0) (rw (b.passes, lt-ltb _ _ (b.first k l parts.0))) in
          false≢true (sym (not-true _ parts.1) ∙ above)

  -- where none matches, none is found
  pub none_kept : ((k : ℕ) → matches (get_or hs k blank) ≡ true → ⊥) → kept_match p g q hs ≡ None
  unfolding kept_match
  none_kept n = first-view (λ (f : Option ℕ). f ≡ None) keeps hs 0 (λ e. blank-unmatched (and_parts _ _ e).0) (λ i e m. absurd (n i (and_parts _ _ e).0)) (λ m. refl)

  -- a search through the whole list keeps what is found
  pub searched-all : (kept : Option ℕ) (least : ℕ) → SoFar matches hs (length hs) kept least → kept_match p g q hs ≡ kept
  searched-all None least s = none_kept (λ k e. s.1 k (matching-below k e) e)
  searched-all (Some j) least s = best-kept j s.1

  -- What is found is the best of those that match, and where none is found none matches.
  pub kept-view : (P : Option ℕ → Type 0) → ((j : ℕ) → Best matches hs (length hs) j → P (Some j)) → (((k : ℕ) → matches (get_or hs k blank) ≡ true → ⊥) → P None) → P (kept_match p g q hs)
  kept-view P a b = let s = so_far matches hs (length hs) in subst⁻¹ P (searched-all s.0 s.1 s.2) (by s.0 s.1 s.2)
    where
      by : (kept : Option ℕ) (least : ℕ) → SoFar matches hs (length hs) kept least → P kept
      by None least s = b (λ k e. s.1 k (matching-below k e) e)
      by (Some j) least s = a j s.1
