-- To be believed. CR 6 of document 02, by cases: where its part of refusal 7 begins, what counts as open, which calls count, and what a commit on a damaged table may leave.
use Rattle.std.specs.Prelude.{map, ◌≡◌, ◌∷◌, ◌++◌, Some, None}
use Rattle.process.specs.Process.{fresh_process}
use Rattle.rendezvous.specs.Table.{with_head, fresh_table, open_offers}
use Rattle.rendezvous.specs.Numbers.{refusal}
use Rattle.rendezvous.specs.Run.{Call, Offer, Step, Collect, Withdraw, table_after_all}
use Rattle.history.specs.Types.{ℕ, Bool, true, false, List, [], replicate, Message, Place, ProcessTable}
use Rattle.history.specs.Cases.{Case, Hold, collects, steps, receive, send, reading, at, session_calls}
use Rattle.history.specs.Further.{by_hand, table}

-- a table with these totals
abbrev totalled : ℕ → ℕ → ProcessTable → ProcessTable
totalled meetings withdrawn t = let h = t.head in with_head t (record { n = h.n; nap = h.nap; next = h.next; meetings = meetings; withdrawn = withdrawn })

-- two processes at I, the next ticket and the totals
abbrev idle : ℕ → ℕ → ℕ → ProcessTable
idle next meetings withdrawn = totalled meetings withdrawn (table 2 next [])

-- 7 comes before 2: a call of process 9, which the table does not have, tells which of them it is
abbrev formed : ProcessTable → Case
formed t = record { start = t; commands = collects 9 ∷ []; says = refusal 2 ∷ [] }

abbrev damaged : ProcessTable → Case
damaged t = record { start = t; commands = collects 9 ∷ []; says = refusal 7 ∷ [] }

-- "2 × meetings + withdrawn + open above the next ticket": at the next ticket, one above and one below it; and as numbers, not as 64 bits hold them
unfoldable pub sums : List Case
sums =
    formed (idle 0 0 0) ∷ damaged (idle 0 0 1) ∷ damaged (idle 0 1 0)
    ∷ formed (idle 7 3 1) ∷ damaged (idle 7 3 2) ∷ damaged (idle 7 4 0) ∷ formed (idle 7 3 0) ∷ formed (idle 7 0 7) ∷ damaged (idle 7 0 8)
    ∷ formed (idle 4294967295 2147483647 1) ∷ damaged (idle 4294967295 2147483647 2) ∷ damaged (idle 4294967295 2147483648 0)
    ∷ damaged (idle 0 9223372036854775808 0) ∷ damaged (idle 4294967295 9223372036854775808 0) ∷ damaged (idle 4294967295 9223372036854775807 2)
    ∷ damaged (idle 4294967295 9223372036854775809 4294967293) ∷ damaged (idle 4294967295 18446744073709551615 0)
    ∷ damaged (idle 4294967295 0 18446744073709551615) ∷ damaged (idle 4294967295 1 18446744073709551615) ∷ damaged (idle 4294967295 18446744073709551615 18446744073709551615)
    ∷ []

-- process 0 at a place, with wake count 0 where `accepting` is true; process 1 has a guard posted, for the kept index at C
abbrev placed : ℕ → Place → Bool → ProcessTable
placed next place accepting = table 2 next (by_hand 0 place None accepting (receive 1 ∷ []) [] ∷ by_hand 1 Place.Idle None false [] (receive 0 ∷ []) ∷ [])

-- an offer counts as open there, so that it needs a ticket, or it does not
abbrev open_at : Bool → Place → List Case
open_at accepting place = damaged (placed 0 place accepting) ∷ formed (placed 1 place accepting) ∷ []

abbrev closed_at : Bool → Place → List Case
closed_at accepting place = formed (placed 0 place accepting) ∷ []

-- three records of which two are processes: the third, at E, is nobody's
abbrev past : ℕ → ProcessTable
past n = table n 0 (fresh_process ∷ fresh_process ∷ by_hand 0 Place.Entering None false (receive 1 ∷ []) [] ∷ [])

-- "the open offers are those of parties at E, A, T, P, O or S, or at H or W with wake count 0": by the place and the wake count
unfoldable pub opens : List Case
opens =
    open_at true Place.Entering ++ open_at false Place.Entering ++ open_at false (Place.Scanning 0) ++ open_at false (Place.Trying 0) ++ open_at false Place.Posting
    ++ open_at false Place.Opening ++ open_at false (Place.Asleep 0) ++ open_at true Place.Showing ++ open_at true Place.Waiting
    ++ closed_at false Place.Showing ++ closed_at false Place.Waiting ++ closed_at true (Place.Committed 0 0) ++ closed_at true Place.Idle ++ closed_at true (Place.Met 0 Message.Nothing)
    ++ formed (past 2) ∷ damaged (past 3) ∷ []

-- offers, meetings, withdrawn, open after calls on a fresh table of two
abbrev sheet_after : List Call → List ℕ
sheet_after calls = let t = table_after_all (fresh_table 2 1) calls in t.head.next.0 ∷ t.head.meetings ∷ t.head.withdrawn ∷ open_offers t ∷ []

-- process 0 has waited, and 1 is at T on it
abbrev tried : List Call
tried = Offer 0 (receive 1 ∷ []) ∷ replicate 5 (Step 0) ++ Offer 1 (send 0 0x40970a3d ∷ []) ∷ Step 1 ∷ Step 1 ∷ []

abbrev lists : List (List Call)
lists =
    -- nothing yet; one offer; refused calls, which count for nothing
    [] ∷ (Offer 0 (receive 1 ∷ []) ∷ []) ∷ (Offer 0 (receive 1 ∷ []) ∷ Offer 0 (receive 1 ∷ []) ∷ Offer 1 [] ∷ Step 2 ∷ Collect 0 ∷ Withdraw 1 ∷ [])
    -- before the commit, at it, too late for both, rules 9 and 13, the collections
    ∷ tried ∷ (tried ++ Step 1 ∷ []) ∷ (tried ++ Step 1 ∷ Withdraw 0 ∷ Withdraw 1 ∷ [])
    ∷ (tried ++ Step 1 ∷ Step 1 ∷ Step 0 ∷ []) ∷ (tried ++ Step 1 ∷ Step 1 ∷ Step 0 ∷ Collect 0 ∷ Collect 1 ∷ [])
    -- withdrawn before the commit, and once more, which is refused; then the other
    ∷ (tried ++ Withdraw 0 ∷ []) ∷ (tried ++ Withdraw 0 ∷ Withdraw 0 ∷ Step 1 ∷ []) ∷ (tried ++ Withdraw 0 ∷ Withdraw 1 ∷ [])
    -- two meetings, and an offer after them
    ∷ (session_calls (reading 0x40970a3d) ++ session_calls (reading 0x40970a3d) ++ Offer 1 (receive 0 ∷ []) ∷ []) ∷ []

abbrev sheets : List (List ℕ)
sheets =
    (0 ∷ 0 ∷ 0 ∷ 0 ∷ []) ∷ (1 ∷ 0 ∷ 0 ∷ 1 ∷ []) ∷ (1 ∷ 0 ∷ 0 ∷ 1 ∷ [])
    ∷ (2 ∷ 0 ∷ 0 ∷ 2 ∷ []) ∷ (2 ∷ 1 ∷ 0 ∷ 0 ∷ []) ∷ (2 ∷ 1 ∷ 0 ∷ 0 ∷ [])
    ∷ (2 ∷ 1 ∷ 0 ∷ 0 ∷ []) ∷ (2 ∷ 1 ∷ 0 ∷ 0 ∷ [])
    ∷ (2 ∷ 0 ∷ 1 ∷ 1 ∷ []) ∷ (2 ∷ 0 ∷ 1 ∷ 1 ∷ []) ∷ (2 ∷ 0 ∷ 2 ∷ 0 ∷ [])
    ∷ (5 ∷ 2 ∷ 0 ∷ 1 ∷ []) ∷ []

-- No list of calls leads here: process 1 is at T on 0, which has wake count 0 although it is at E. The commit closes the offer of 1 alone, so that the sum grows by 1.
abbrev early : ℕ → ProcessTable
early next = table 2 next (by_hand 0 Place.Entering None true (receive 1 ∷ []) (receive 1 ∷ []) ∷ by_hand 1 (Place.Trying 0) None false (send 0 0x40970a3d ∷ []) [] ∷ [])

-- Document 01: "A call on a damaged desk may give one that 7 turns away at the next call.": this commit does, and answers C, unless a ticket is left
unfoldable pub commits : List Case
commits =
    record { start = early 2; commands = steps 1 ∷ steps 1 ∷ collects 9 ∷ []; says = at "C" (Some 0) ∷ refusal 7 ∷ refusal 7 ∷ [] }
    ∷ record { start = early 3; commands = steps 1 ∷ steps 1 ∷ collects 9 ∷ []; says = at "C" (Some 0) ∷ at "M" None ∷ refusal 2 ∷ [] }
    ∷ []

pub record SheetCases : Type 0 where
  pub refused : Hold sums
  pub counted : Hold opens
  pub totals : map sheet_after lists ≡ sheets
  pub left : Hold commits
