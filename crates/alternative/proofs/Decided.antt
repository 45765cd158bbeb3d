-- Which guard rule 7 keeps, in the words of CR 5: the laws of the search for guards that stand in the list.
use Rattle.std.specs.Prelude.{Option, Some, None, slice_get}
use Prim.Native.Nat.{ℕ, zero, suc, ◌≤◌, ◌<◌}
use mathlib.Core.Path.{◌≡◌, refl, ◌∙◌, ap, subst, subst⁻¹}
use mathlib.Core.Bool.{true, false≢true}
use mathlib.Core.List.{List, [], ◌∷◌}
use native.Mathlib.Omega.{arith}
use lib.ListN.{get_or, length}
use Rattle.alternative.specs.Types.{Guard}
use Rattle.alternative.specs.Guards.{blank, guards_match, kept_match}
use Rattle.alternative.specs.Ranks.{Matches, Kept, AllOfRank, first_match, RanksDecide}
use Rattle.alternative.proofs.Search.{first-view}
use Rattle.alternative.proofs.Kept.{rank_at, Best, blank-unmatched, matching-below, best-kept, none_kept, kept-view}

-- a guard that stands in a list is what is read there
pub standing : (hs : List Guard) (k : ℕ) (h : Guard) → slice_get hs k ≡ Some h → get_or hs k blank ≡ h
standing [] k h e = cc
standing (g ∷ gs) zero h e = cc
standing (g ∷ gs) (suc k) h e = standing gs k h e

module _ (p : ℕ) (g : Guard) (q : ℕ) where
  -- one that matches stands in it
  stands : (hs : List Guard) (k : ℕ) → guards_match p g q (get_or hs k blank) ≡ true → Matches p g q hs k (get_or hs k blank)
  stands [] k e = absurd (blank-unmatched p g q [] e)
  stands (h ∷ hs) zero e = (refl, e)
  stands (h ∷ hs) (suc k) e = stands hs k e

  module _ (hs : List Guard) where
    matched : (k : ℕ) (h : Guard) → Matches p g q hs k h → guards_match p g q (get_or hs k blank) ≡ true
    matched k h m = rw (standing hs k h m.0) m.1

    kept_of : (j : ℕ) → Best (guards_match p g q) hs (length hs) j → Kept p g q hs j
    kept_of j b = record {
      kept = get_or hs j blank;
      matches = stands hs j b.passes;
      greatest = λ k h m. subst (λ (h : Guard). h.rank ≤ rank_at hs j) (standing hs k h m.0) (b.greatest k (matching-below p g q hs k (matched k h m)) (matched k h m));
      first = λ k h m l. subst (λ (h : Guard). h.rank < rank_at hs j) (standing hs k h m.0) (b.first k l (matched k h m));
    }

    best_of : (j : ℕ) → Kept p g q hs j → Best (guards_match p g q) hs (length hs) j
    best_of j k =
        let e = matched j k.kept k.matches in
        let is = standing hs j k.kept k.matches.0 in
        record {
          below = matching-below p g q hs j e;
          passes = e;
          greatest = λ i l m. subst⁻¹ (λ (h : Guard). rank_at hs i ≤ h.rank) is (k.greatest i _ (stands hs i m));
          first = λ i l m. subst⁻¹ (λ (h : Guard). rank_at hs i < h.rank) is (k.first i _ (stands hs i m) l);
        }

    found : (j : ℕ) → kept_match p g q hs ≡ Some j → Kept p g q hs j
    found j = kept-view p g q hs (λ (f : Option ℕ). f ≡ Some j → Kept p g q hs j) (λ i b e. subst (Kept p g q hs) (same i e) (kept_of i b)) (λ n e. absurd (false≢true cc))
      where
        same : (i : ℕ) → Some i ≡ Some j → i ≡ j
        same i e = cc

    missing : kept_match p g q hs ≡ None → (k : ℕ) (h : Guard) → Matches p g q hs k h → ⊥
    missing = kept-view p g q hs (λ (f : Option ℕ). f ≡ None → (k : ℕ) (h : Guard) → Matches p g q hs k h → ⊥) (λ j b e. absurd (false≢true cc)) (λ n e k h m. n k (matched k h m))

    -- of guards of one rank the first that matches is the best
    as_before : (r : ℕ) → AllOfRank r hs → kept_match p g q hs ≡ first_match p g q hs
    as_before r one = first-view (λ (f : Option ℕ). kept_match p g q hs ≡ f) (guards_match p g q) hs 0 (blank-unmatched p g q hs)
        (λ j e n. best-kept p g q hs j (best j e n) ∙ ap Some (omega arith)) (none_kept p g q hs)
      where
        rank-of : (k : ℕ) → guards_match p g q (get_or hs k blank) ≡ true → rank_at hs k ≡ r
        rank-of k e = one k _ (stands hs k e).0

        best : (j : ℕ) → guards_match p g q (get_or hs j blank) ≡ true → ((k : ℕ) → k < j → guards_match p g q (get_or hs k blank) ≡ true → ⊥) → Best (guards_match p g q) hs (length hs) j
        best j e n = record { below = matching-below p g q hs j e; passes = e; greatest = λ k l m. omega (arith, rank-of k m, rank-of j e); first = λ k l m. absurd (n k l m) }

pub ranks-decide : RanksDecide
ranks-decide = record {
  kept = found;
  only = λ p g q hs j k. best-kept p g q hs j (best_of p g q hs j k);
  missing = missing;
  none = λ p g q hs n. none_kept p g q hs (λ k e. n k _ (stands p g q hs k e));
  as_before = as_before;
}
