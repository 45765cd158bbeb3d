-- To be believed. The table of documents 01 and 02 as a machine: the moments that its calls make, and its open offers, told from the tables alone.
use Rattle.std.specs.Prelude.{◌&&◌, ◌∷◌, Option, Some, None}
use Rattle.process.specs.Process.{is_at, if_committed, own_list, own_guard, posted_guard}
use Rattle.rendezvous.specs.Table.{process, has_open_offer}
use Rattle.rendezvous.specs.Calls.{Quiescent}
use Rattle.rendezvous.specs.Run.{Call, Offer, Step, Collect, Withdraw, said_to, table_after}
use Rattle.history.specs.Types.{ℕ, not, cond, List, [], Place, Process, ProcessTable}
use Rattle.history.specs.Book.{Transaction, Moment, Joined, Withdrew, senders_message}
use Rattle.history.specs.Machine.{Machine}

-- The rendezvous of a step of p on table t to this place, if it is C: of the guard that p is at and the one whose index p keeps.
abbrev pub commit_at : ProcessTable → ℕ → Place → List Moment
commit_at t p place = if_committed []
    (λ i j.
    let x = process t p in
    let g = own_guard x i in
    let y = process t g.partner in
    let m = senders_message g.action (posted_guard y j).action in
    Joined (record { id_p = x.transaction.0; id_q = y.transaction.0; p = p; i = i; q = g.partner; j = j; message = m }) ∷ [])
    place

-- A step from T to C makes one; a withdrawal by which p's offer is open no more makes a moment of its own. By the tables before and after the call.
abbrev pub made_by : ProcessTable → Call → ProcessTable → List Moment
made_by t (Offer p gs) after = []
made_by t (Step p) after = cond (is_at "T" (process t p).place) (commit_at t p (process after p).place) []
made_by t (Collect p) after = []
made_by t (Withdraw p) after = cond (has_open_offer t p && not (has_open_offer after p)) (Withdrew (record { p = p; id = (process t p).transaction.0 }) ∷ []) []

-- the offer of a process with record x; the open offer of process p
abbrev pub offer_by : Process → Transaction
offer_by x = record { id = x.transaction.0; guards = own_list x }

abbrev pub open_offer : ProcessTable → ℕ → Option Transaction
open_offer t p = cond (has_open_offer t p) (Some (offer_by (process t p))) None

abbrev pub tables : Machine
tables = record { State = ProcessTable; says = said_to; after = table_after; makes = λ t c. made_by t c (table_after t c); opened = open_offer; Rests = Quiescent }
