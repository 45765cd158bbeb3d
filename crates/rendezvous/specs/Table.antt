-- To be believed. Document 01, "The desk and its tasks", and CRs 3 and 6 of document 02: the head and the records of a table, a fresh one; and from "Calls": open offers, and how many there are.
use Rattle.std.specs.Prelude.{◌+◌, ◌*◌, ◌&&◌}
use Rattle.process.specs.Process.{nobody, fresh_process, is_open}
use Rattle.rendezvous.specs.Types.{ℕ, zero, suc, Bool, cond, replicate, get_or, set, ltb, Process, Head, ProcessTable}

-- the most processes, and the ticket that is never given out
abbrev pub most_processes : ℕ
most_processes = 32

abbrev pub last_transaction : ℕ
last_transaction = 4294967295

-- the record of process p, and the table with another record there, or with another head
abbrev pub process : ProcessTable → ℕ → Process
process t p = get_or t.processes p nobody

abbrev pub put : ProcessTable → ℕ → Process → ProcessTable
put t p x = record { head = t.head; processes = set t.processes p x }

abbrev pub with_head : ProcessTable → Head → ProcessTable
with_head t h = record { head = h; processes = t.processes }

-- a head with another next ticket; CR 6, "The desk keeps the number of meetings and of withdrawals": with one meeting more, with one withdrawal more
abbrev pub with_next : Head → ℕ → Head
with_next h next = record { n = h.n; nap = h.nap; next = record { 0 = next }; meetings = h.meetings; withdrawn = h.withdrawn }

abbrev pub with_meeting : Head → Head
with_meeting h = record { n = h.n; nap = h.nap; next = h.next; meetings = h.meetings + 1; withdrawn = h.withdrawn }

abbrev pub with_withdrawal : Head → Head
with_withdrawal h = record { n = h.n; nap = h.nap; next = h.next; meetings = h.meetings; withdrawn = h.withdrawn + 1 }

-- "A fresh desk has every party at I, .. every party's ticket and the next ticket 0."; CR 3: "A desk is now made with a nap length d"; CR 6: nothing has met or been withdrawn yet
abbrev pub fresh_head : ℕ → ℕ → Head
fresh_head n d = record { n = n; nap = d; next = record { 0 = 0 }; meetings = 0; withdrawn = 0 }

abbrev pub fresh_table : ℕ → ℕ → ProcessTable
fresh_table n d = record { head = fresh_head n d; processes = replicate most_processes fresh_process }

-- "the open offers are those of parties at E, .."
abbrev pub has_open_offer : ProcessTable → ℕ → Bool
has_open_offer t p = ltb p t.head.n && is_open (process t p)

-- how many numbers below n pass a test
unfoldable pub count_below : (ℕ → Bool) → ℕ → ℕ
count_below test zero = 0
count_below test (suc n) = count_below test n + cond (test n) 1 0

-- CR 6, "open": how many open offers there are
abbrev pub open_offers : ProcessTable → ℕ
open_offers t = count_below (λ p. is_open (process t p)) t.head.n

-- "2 × meetings + withdrawn + open"
abbrev pub accounted_for : ProcessTable → ℕ
accounted_for t = 2 * t.head.meetings + t.head.withdrawn + open_offers t
