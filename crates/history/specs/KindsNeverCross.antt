-- To be believed. CR 2 of document 02: "two guards match only if their kinds are equal as well." So no list of calls crosses kinds: each rendezvous joins guards of one kind.
-- (It is said of what the book enters; by demand 3 the book is never stuck, and its run is what the tables show.)
use Rattle.std.specs.Prelude.{◌≤◌, ◌≡◌, ◌∷◌, ◌++◌, Option, Some, slice_get}
use Rattle.rendezvous.specs.Table.{most_processes, fresh_table}
use Rattle.rendezvous.specs.Numbers.{Said}
use Rattle.rendezvous.specs.Run.{Call}
use Rattle.history.specs.Types.{ℕ, List, []}
use Rattle.history.specs.Book.{Transaction, Rendezvous, Joined, History, empty_history, ◌>>=◌}
use Rattle.history.specs.Machine.{EachCall}
use Rattle.history.specs.Tables.{tables}

-- the kind of guard i of an open offer, if there are both
abbrev pub kind_at : Option Transaction → ℕ → Option ℕ
kind_at opened i = do
  offer ← opened
  g ← slice_get offer.guards i
  Some g.kind

-- a rendezvous that a call enters joins guard i of p's open offer and guard j of q's, which have the same kind
abbrev pub OfOneKind : History → Call → Said → History → Type 0
OfOneKind b c says after = (r : Rendezvous) → after.run ≡ b.run ++ (Joined r ∷ [])
    → (kind : ℕ) × (kind_at (b.opened r.p) r.i ≡ Some kind) × (kind_at (b.opened r.q) r.j ≡ Some kind)

abbrev pub KindsNeverCross : Type 0
KindsNeverCross = (n d : ℕ) → 2 ≤ n → n ≤ most_processes → 1 ≤ d → (calls : List Call) → EachCall tables OfOneKind (fresh_table n d) empty_history calls
