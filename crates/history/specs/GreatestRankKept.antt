-- To be believed. CR 5 of document 02: "the kept guard is, of all matching ones in the partner's posted list, the one of greatest rank, the first among equals." So it is in every list of
-- calls: each rendezvous joins guard i of the process that commits with the guard that is kept of its partner's offer.
-- (It is said of what the book enters; by demand 3 the book is never stuck, and its run is what the tables show.)
use Rattle.std.specs.Prelude.{◌≤◌, ◌≡◌, ◌∷◌, ◌++◌, Some, slice_get}
use Rattle.alternative.specs.Ranks.{Kept}
use Rattle.rendezvous.specs.Table.{most_processes, fresh_table}
use Rattle.rendezvous.specs.Numbers.{Said}
use Rattle.rendezvous.specs.Run.{Call}
use Rattle.history.specs.Types.{ℕ, List, [], Guard}
use Rattle.history.specs.Book.{Transaction, Rendezvous, Joined, History, empty_history}
use Rattle.history.specs.Machine.{EachCall}
use Rattle.history.specs.Tables.{tables}

-- guard i of p's open offer, and in q's open offer guard j, which is the one to be kept
pub record JoinsGreatest (b : History) (r : Rendezvous) : Type 0 where
  pub mine : Transaction
  pub theirs : Transaction
  pub g : Guard
  pub mine_open : b.opened r.p ≡ Some mine
  pub theirs_open : b.opened r.q ≡ Some theirs
  pub mine_guard : slice_get mine.guards r.i ≡ Some g
  pub kept : Kept r.p g r.q theirs.guards r.j

-- each rendezvous that a call enters
abbrev pub EntryOfGreatestRank : History → Call → Said → History → Type 0
EntryOfGreatestRank b c says after = (r : Rendezvous) → after.run ≡ b.run ++ (Joined r ∷ []) → JoinsGreatest b r

abbrev pub GreatestRankKept : Type 0
GreatestRankKept = (n d : ℕ) → 2 ≤ n → n ≤ most_processes → 1 ≤ d → (calls : List Call) → EachCall tables EntryOfGreatestRank (fresh_table n d) empty_history calls
