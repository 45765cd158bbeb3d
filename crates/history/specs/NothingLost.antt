-- To be believed. Nothing committed is lost: after every list of calls from any fresh table the book has an outcome due for exactly those processes that the table shows to
-- have one, and when nothing can move, all that is due can be collected. (The clause on collections of demand 3 speaks of accepted ones alone.)
use Rattle.std.specs.Prelude.{◌≤◌, ◌≡◌, ◌||◌, Option, Some, None}
use Rattle.process.specs.Process.{is_at, own_guard}
use Rattle.rendezvous.specs.Table.{most_processes, process, fresh_table}
use Rattle.rendezvous.specs.Calls.{commit_came_first, Quiescent}
use Rattle.rendezvous.specs.Numbers.{outcome}
use Rattle.rendezvous.specs.Run.{Call, Collect, said_to, table_after_all}
use Rattle.history.specs.Types.{ℕ, Bool, true, false, List, Message, Place, ProcessTable}
use Rattle.history.specs.Book.{Due, History, empty_history}
use Rattle.history.specs.Machine.{book_after_all}
use Rattle.history.specs.Tables.{tables}

-- a process has an outcome due from the commit that it made or that names it until its collection: it is at C, at H or W with wake count 1, or at M
abbrev pub is_owed : Place → Bool → Bool
is_owed place accepting = is_at "M" place || commit_came_first place accepting

-- the book has "a due outcome .. or none"
abbrev pub is_due : Option Due → Bool
is_due None = false
is_due (Some d) = true

-- of a table and the book that goes with it
pub record NoneLost (t : ProcessTable) (b : History) : Type 0 where
  -- the book has an outcome due for exactly those processes,
  pub owed : (p : ℕ) → is_due (b.due p) ≡ is_owed (process t p).place (process t p).accepting
  -- at M it is the "outcome's guard index, the partner that this guard of its list names, and the outcome's message",
  pub met : (p i : ℕ) (m : Message) → (process t p).place ≡ Place.Met i m → b.due p ≡ Some (record { index = i; partner = (own_guard (process t p) i).partner; message = m })
  -- and when nothing can move, a collection gives what is due, the message bit for bit
  pub given : Quiescent t → (p : ℕ) (d : Due) → b.due p ≡ Some d → said_to t (Collect p) ≡ outcome d.index d.partner d.message

abbrev pub NothingLost : Type 0
NothingLost = (n d : ℕ) → 2 ≤ n → n ≤ most_processes → 1 ≤ d → (calls : List Call)
    → (b : History) × (book_after_all tables (fresh_table n d) empty_history calls ≡ Some b) × NoneLost (table_after_all (fresh_table n d) calls) b
