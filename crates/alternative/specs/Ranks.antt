-- To be believed. CR 5 of document 02: which guard rule 7 keeps. The function `ranks_decide` carries these claims; they say all that there is to say of the search.
use Rattle.std.specs.Prelude.{◌≤◌, ◌<◌, ◌≡◌, Option, Some, None, slice_get}
use Rattle.alternative.specs.Types.{ℕ, true, List, Guard}
use Rattle.alternative.specs.Guards.{guards_match, first_from, kept_match}

-- guard h stands at index k of the list hs and matches p's guard g
abbrev pub Matches : ℕ → Guard → ℕ → List Guard → ℕ → Guard → Type 0
Matches p g q hs k h = (slice_get hs k ≡ Some h) × (guards_match p g q h ≡ true)

-- "the kept guard is, of all matching ones in the partner's posted list, the one of greatest rank, the first among equals": guard j of hs
pub record Kept (p : ℕ) (g : Guard) (q : ℕ) (hs : List Guard) (j : ℕ) : Type 0 where
  pub kept : Guard
  pub matches : Matches p g q hs j kept
  pub greatest : (k : ℕ) (h : Guard) → Matches p g q hs k h → h.rank ≤ kept.rank
  pub first : (k : ℕ) (h : Guard) → Matches p g q hs k h → k < j → h.rank < kept.rank

-- all guards of the list have rank r
abbrev pub AllOfRank : ℕ → List Guard → Type 0
AllOfRank r hs = (k : ℕ) (h : Guard) → slice_get hs k ≡ Some h → h.rank ≡ r

-- document 01's rule 7, without ranks: of the guards that match, "the first such index is kept"
abbrev pub first_match : ℕ → Guard → ℕ → List Guard → Option ℕ
first_match p g q hs = first_from (guards_match p g q) hs 0

pub record RanksDecide : Type 0 where
  -- the guard that the search finds is the kept one, and it finds the kept one;
  pub kept : (p : ℕ) (g : Guard) (q : ℕ) (hs : List Guard) (j : ℕ) → kept_match p g q hs ≡ Some j → Kept p g q hs j
  pub only : (p : ℕ) (g : Guard) (q : ℕ) (hs : List Guard) (j : ℕ) → Kept p g q hs j → kept_match p g q hs ≡ Some j
  -- it finds none just if none matches;
  pub missing : (p : ℕ) (g : Guard) (q : ℕ) (hs : List Guard) → kept_match p g q hs ≡ None → (k : ℕ) (h : Guard) → Matches p g q hs k h → ⊥
  pub none : (p : ℕ) (g : Guard) (q : ℕ) (hs : List Guard) → ((k : ℕ) (h : Guard) → Matches p g q hs k h → ⊥) → kept_match p g q hs ≡ None
  -- and where all guards have one rank, "0 if left out", it is document 01's
  pub as_before : (p : ℕ) (g : Guard) (q : ℕ) (hs : List Guard) (r : ℕ) → AllOfRank r hs → kept_match p g q hs ≡ first_match p g q hs
