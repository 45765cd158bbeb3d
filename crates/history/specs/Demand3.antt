-- To be believed. Demand 3 of document 00, with the withdrawals of CR 1 of document 02: one claim about every list of offers, steps, collections and withdrawals, stated over any machine; `Demand3` is that of the tables.
use Rattle.std.specs.Prelude.{◌≤◌, ◌≡◌, ◌∷◌, ◌++◌, ◌⊎◌, Some, slice_get}
use Rattle.alternative.specs.Guards.{guards_match, offers_match}
use Rattle.rendezvous.specs.Table.{most_processes, fresh_table}
use Rattle.rendezvous.specs.Numbers.{Said, ticket, outcome, refusal}
use Rattle.rendezvous.specs.Run.{Call, Offer, Step, Collect, Withdraw, after_all}
use Rattle.history.specs.Types.{ℕ, true, false, List, [], Guard}
use Rattle.history.specs.Book.{Transaction, Due, Rendezvous, Moment, Joined, Withdrew, History, empty_history}
use Rattle.history.specs.Machine.{Machine, book_after_all, made_by_all, EachCall}
use Rattle.history.specs.Tables.{tables}

-- A rendezvous joins two processes whose offers are open in the book, on guards of theirs that match (by CR 2 they are of one kind, too); each one that a call enters does.
pub record Joins (b : History) (r : Rendezvous) : Type 0 where
  pub mine : Transaction
  pub theirs : Transaction
  pub g : Guard
  pub h : Guard
  pub mine_open : b.opened r.p ≡ Some mine
  pub theirs_open : b.opened r.q ≡ Some theirs
  pub mine_id : mine.id ≡ r.id_p
  pub theirs_id : theirs.id ≡ r.id_q
  pub mine_guard : slice_get mine.guards r.i ≡ Some g
  pub theirs_guard : slice_get theirs.guards r.j ≡ Some h
  pub two : r.p ≡ r.q → ⊥
  pub match : guards_match r.p g r.q h ≡ true

abbrev pub EntryJoins : History → Call → Said → History → Type 0
EntryJoins b c says after = (r : Rendezvous) → after.run ≡ b.run ++ (Joined r ∷ []) → Joins b r

-- an offer is refused, or gets the book's ticket
abbrev pub TicketIsNext : History → Call → Said → History → Type 0
TicketIsNext b (Offer p gs) says after = ((number : ℕ) × (says ≡ refusal number)) ⊎ (says ≡ ticket b.next)
TicketIsNext b (Step p) says after = Unit {0}
TicketIsNext b (Collect p) says after = Unit {0}
TicketIsNext b (Withdraw p) says after = Unit {0}

-- a collection is refused, or gives what was due. "f32 values are compared by their bits": ≡ on messages does so, for the logic's floats are bits but for the one NaN, and refusal 5 keeps NaNs out of every accepted offer.
abbrev pub OutcomeWasDue : History → Call → Said → History → Type 0
OutcomeWasDue b (Collect p) says after =
    ((number : ℕ) × (says ≡ refusal number)) ⊎ ((d : Due) × (b.due p ≡ Some d) × (says ≡ outcome d.index d.partner d.message))
OutcomeWasDue b (Offer p gs) says after = Unit {0}
OutcomeWasDue b (Step p) says after = Unit {0}
OutcomeWasDue b (Withdraw p) says after = Unit {0}

-- "no ticket stands in two meetings", nor in a meeting and a withdrawal, nor in two withdrawals: the tickets of all moments
abbrev pub ids_of : List Moment → List ℕ
ids_of [] = []
ids_of (Joined r ∷ ms) = r.id_p ∷ r.id_q ∷ ids_of ms
ids_of (Withdrew w ∷ ms) = w.id ∷ ids_of ms

abbrev pub NotIn : ℕ → List ℕ → Type 0
NotIn t [] = Unit {0}
NotIn t (u ∷ us) = (t ≡ u → ⊥) × NotIn t us

abbrev pub AllDiffer : List ℕ → Type 0
AllDiffer [] = Unit {0}
AllDiffer (t ∷ ts) = NotIn t ts × AllDiffer ts

-- The claim for one list of calls on a machine, from state s and book b. "Each call was refused or answered as 1 and 2 say.", a withdrawal as CR 1 says, is no
-- field: every reply of the tables is that of the call's definition (reply_to), which the code is proved to give; "by demands 1 and 2 the calls' definitions may stand for the calls in it".
pub record Claim (m : Machine) (s : m.State) (b : History) (calls : List Call) : Type 0 where
  -- "The meetings, in the order of their commits, form a run of whole meetings one after another, as document 01's plain book enters them." The book is never stuck.
  pub book : History
  pub never_stuck : book_after_all m s b calls ≡ Some book
  pub run : book.run ≡ b.run ++ made_by_all m s calls
  -- "Each joins two tasks whose offers are both open at that moment, on enabled guards that name each other, one sending and one receiving."
  pub joins : EachCall m EntryJoins s b calls
  -- "No offer meets twice.", one that was withdrawn never meets, and one that met is never withdrawn.
  pub once : AllDiffer (ids_of book.run)
  -- "Every accepted offer got the book's ticket, every accepted collection gave exactly the guard, partner and message that the book had due for that task, and the
  -- desk's open offers are the book's, alike in party, ticket and list."
  pub tickets : EachCall m TicketIsNext s b calls
  pub collections : EachCall m OutcomeWasDue s b calls
  pub opens : (p : ℕ) → m.opened (after_all m.after s calls) p ≡ book.opened p
  -- "Whenever no task's step would change the desk, no two open offers match."
  pub rests : m.Rests (after_all m.after s calls) → (p q : ℕ) (o r : Transaction) → (p ≡ q → ⊥)
      → m.opened (after_all m.after s calls) p ≡ Some o → m.opened (after_all m.after s calls) q ≡ Some r → offers_match p o.guards q r.guards ≡ false

-- "For every list of offers, steps and collections, in any order and with refused ones among them, from any fresh desk, where each call gets the desk that the last one
-- handed back, the following holds after the list." And CR 1: "Withdrawals join demand 3's list"; CR 3: a desk is "made with a nap length d, 1 to 255" (of d only 1 ≤ d is needed).
abbrev pub Demand3 : Type 0
Demand3 = (n d : ℕ) → 2 ≤ n → n ≤ most_processes → 1 ≤ d → (calls : List Call) → Claim tables (fresh_table n d) empty_history calls
