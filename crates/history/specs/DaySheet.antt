-- To be believed. CR 6 of document 02: "Offers are the accepted offers of the history, meetings its commits. Users check that offers = 2 × meetings + withdrawn + open, which must hold after
-- any calls from a fresh desk." Of every list of calls, withdrawals and refused ones among them.
use Rattle.std.specs.Prelude.{◌+◌, ◌≤◌, ◌≡◌, ◌∷◌}
use Rattle.rendezvous.specs.Table.{most_processes, accounted_for, fresh_table}
use Rattle.rendezvous.specs.Numbers.{Said, made, ticket, place, same, outcome, withdrawn, too_late, movers, refusal}
use Rattle.rendezvous.specs.Run.{Call, said_to, table_after, table_after_all}
use Rattle.history.specs.Types.{ℕ, List, [], ProcessTable}
use Rattle.history.specs.Book.{Moment, Joined, Withdrew}
use Rattle.history.specs.Machine.{made_by_all}
use Rattle.history.specs.Tables.{tables}

-- how many moments of a run are meetings, and how many are withdrawals
abbrev pub meetings_in : List Moment → ℕ
meetings_in [] = 0
meetings_in (Joined r ∷ ms) = 1 + meetings_in ms
meetings_in (Withdrew w ∷ ms) = meetings_in ms

abbrev pub withdrawals_in : List Moment → ℕ
withdrawals_in [] = 0
withdrawals_in (Joined r ∷ ms) = withdrawals_in ms
withdrawals_in (Withdrew w ∷ ms) = 1 + withdrawals_in ms

-- an accepted offer is answered with its ticket; how many a list of calls has, from table t
abbrev pub offers_in : Said → ℕ
offers_in (ticket t) = 1
offers_in made = 0
offers_in (place letter index) = 0
offers_in same = 0
offers_in (outcome i q m) = 0
offers_in withdrawn = 0
offers_in too_late = 0
offers_in (movers set) = 0
offers_in (refusal number) = 0

unfoldable pub accepted_offers : ProcessTable → List Call → ℕ
accepted_offers t [] = 0
accepted_offers t (c ∷ cs) = offers_in (said_to t c) + accepted_offers (table_after t c) cs

-- the table after the calls, and the moments that they make: by demand 3 these are the run of whole meetings in the book
pub record SheetOf (t : ProcessTable) (calls : List Call) (after : ProcessTable) (run : List Moment) : Type 0 where
  -- "offers = 2 × meetings + withdrawn + open"
  pub adds_up : after.head.next.0 ≡ accounted_for after
  -- "Offers are the accepted offers of the history, meetings its commits.", and "of withdrawals"
  pub offers : after.head.next.0 ≡ accepted_offers t calls
  pub meetings : after.head.meetings ≡ meetings_in run
  pub withdrawn : after.head.withdrawn ≡ withdrawals_in run

abbrev pub DaySheet : Type 0
DaySheet = (n d : ℕ) → 2 ≤ n → n ≤ most_processes → 1 ≤ d → (calls : List Call) → let t = fresh_table n d in SheetOf t calls (table_after_all t calls) (made_by_all tables t calls)
