-- To be believed. Document 01: cases beside the starred ones. They fix what no starred case would notice: the other edges to try, the order and the edges of the refusals,
-- damaged tables, rules 8 and 9, limits, open offers, the run of the marked session; and demand 3 at the ends of its range.
use Rattle.std.specs.Float.{binary32}
use Rattle.std.specs.Float.Ieee.{of_bits}
use Rattle.std.specs.Prelude.{length, take, ◌≡◌, ◌∷◌, ◌++◌, Some, None, Option}
use Rattle.alternative.specs.Guards.{slots}
use Rattle.process.specs.Process.{fresh_process}
use Rattle.rendezvous.specs.Table.{most_processes, process, with_next, fresh_head, fresh_table, has_open_offer}
use Rattle.rendezvous.specs.Numbers.{Said, made, ticket, outcome, movers, refusal}
use Rattle.rendezvous.specs.Run.{Call, Offer, table_after}
use Rattle.rendezvous.specs.Commands.{Movers}
use Rattle.history.specs.Types.{ℕ, Bool, true, false, List, [], replicate, Message, Action, Guard, Place, Process}
use Rattle.history.specs.Types.{ProcessTable}
use Rattle.history.specs.Book.{Moment, Joined, empty_history, ◌>>=◌}
use Rattle.history.specs.Machine.{book_after_all, made_by_all}
use Rattle.history.specs.Tables.{tables}
use Rattle.history.specs.Demand3.{Claim}
use Rattle.history.specs.Cases.{Case, makes, offers, steps, collects, receive, reading, sends, send, disabled, at, session_calls, session, session_says, case}
use Rattle.history.specs.Cases.{Hold}

abbrev limit : ℕ → ℕ → Message
limit low high = Message.Limit (of_bits binary32 low) (of_bits binary32 high)

-- a record by hand: ticket, place, signal, whether the wake count is 0, own list and posted list
abbrev pub by_hand : ℕ → Place → Option (ℕ × Message) → Bool → List Guard → List Guard → Process
by_hand id place signal accepting own posted = record { place = place; signal = signal; transaction = record { 0 = id }; accepting = accepting; count = length own; altcount = length posted; guards = slots own; altlist = slots posted }

-- a table by hand: the number of processes, the next ticket, and the first of its records; the others are fresh
abbrev pub table : ℕ → ℕ → List Process → ProcessTable
table n next records = record { head = with_next (fresh_head n 1) next; processes = take most_processes (records ++ replicate most_processes fresh_process) }

-- Two processes: 0 at a place and with a signal, two guards in its own list and none posted; 1 at I, with one guard posted.
abbrev first : Place → Option (ℕ × Message) → ProcessTable
first place signal = table 2 2 (by_hand 0 place signal false (receive 1 ∷ receive 1 ∷ []) [] ∷ by_hand 1 Place.Idle None false [] (receive 0 ∷ []) ∷ [])

-- two processes at I, of which 0 has these lists
abbrev lists : List Guard → List Guard → ProcessTable
lists own posted = table 2 2 (by_hand 0 Place.Idle None false own posted ∷ fresh_process ∷ [])

-- what movers say of a table: the set, or 7 where it is damaged
abbrev on : ProcessTable → Said → Case
on t says = record { start = t; commands = Movers ∷ []; says = says ∷ [] }

unfoldable pub further : List Case
further =
    -- one and eight pass; a party not below n with nine guards gives 2
    case (makes 2 ∷ offers 0 (receive 1 ∷ []) ∷ offers 1 (replicate 8 (receive 0)) ∷ offers 2 (replicate 9 (receive 0)) ∷ []) (made ∷ ticket 0 ∷ ticket 1 ∷ refusal 2 ∷ [])
    -- partner n−1 passes, n gives 4; r7f800000 passes
    ∷ case (makes 3 ∷ offers 0 (receive 3 ∷ []) ∷ offers 0 (receive 2 ∷ []) ∷ offers 1 (send 0 0x7f800000 ∷ []) ∷ []) (made ∷ refusal 4 ∷ ticket 0 ∷ ticket 1 ∷ [])
    -- "4, then 5, guard by guard", and "Disabled guards are tested too": 5 before 6
    ∷ case (makes 2 ∷ offers 0 (send 0 0x7fc00000 ∷ []) ∷ offers 0 (send 1 0x7fc00000 ∷ receive 0 ∷ []) ∷ []) (made ∷ refusal 4 ∷ refusal 5 ∷ [])
    ∷ case (makes 2 ∷ offers 0 (record { enabled = false; partner = 1; kind = 0; rank = 0; action = Action.Send (reading 0x7fc00000) } ∷ []) ∷ []) (made ∷ refusal 5 ∷ [])
    -- a NaN in either half of a limit gives 5
    ∷ case (makes 2 ∷ offers 0 (sends 1 (limit 0x40970a3d 0x7fc00000) ∷ []) ∷ offers 0 (sends 1 (limit 0x7fc00000 0x40970a3d) ∷ []) ∷ []) (made ∷ refusal 5 ∷ refusal 5 ∷ [])
    -- 11 before 12
    ∷ record { start = table 2 4294967295 (by_hand 0 Place.Entering None false (receive 1 ∷ []) [] ∷ fresh_process ∷ []); commands = offers 0 (receive 1 ∷ []) ∷ offers 1 (receive 0 ∷ []) ∷ []; says = refusal 11 ∷ refusal 12 ∷ [] }
    -- collecting at I and at W: 13
    ∷ case
    (makes 2 ∷ collects 0 ∷ offers 0 (receive 1 ∷ []) ∷ steps 0 ∷ steps 0 ∷ steps 0 ∷ steps 0 ∷ steps 0 ∷ collects 0 ∷ [])
    (made ∷ refusal 13 ∷ ticket 0 ∷ at "A" (Some 0) ∷ at "P" None ∷ at "O" None ∷ at "H" None ∷ at "W" None ∷ refusal 13 ∷ [])
    -- on a damaged table 7, whatever is called, and before all others
    ∷ record { start = first (Place.Scanning 2) None; commands = offers 0 (receive 1 ∷ []) ∷ offers 9 [] ∷ steps 0 ∷ steps 9 ∷ collects 0 ∷ Movers ∷ []; says = replicate 6 (refusal 7) }
    -- 7: n is outside 2 to 32
    ∷ on (fresh_table 1 1) (refusal 7) ∷ on (fresh_table 2 1) (movers 0) ∷ on (fresh_table 32 1) (movers 0) ∷ on (fresh_table 33 1) (refusal 7)
    -- 7: over eight guards in a list or posted list; a guard of either names its own party or one not below n
    ∷ on (lists (replicate 8 (receive 1)) (replicate 8 (receive 1))) (movers 0)
    ∷ on (lists (replicate 9 (receive 1)) []) (refusal 7) ∷ on (lists [] (replicate 9 (receive 1))) (refusal 7)
    ∷ on (lists (disabled 0 ∷ []) []) (refusal 7) ∷ on (lists [] (disabled 0 ∷ [])) (refusal 7)
    ∷ on (lists (receive 2 ∷ []) []) (refusal 7) ∷ on (lists [] (receive 2 ∷ [])) (refusal 7)
    -- 7: the index in A, T, C, a signal or an outcome, 1 and 2 of an own list of two; a kept index, 0 and 1 of a posted list of one
    ∷ on (first (Place.Scanning 1) None) (movers 1) ∷ on (first (Place.Scanning 2) None) (refusal 7)
    ∷ on (first (Place.Trying 1) None) (movers 1) ∷ on (first (Place.Trying 2) None) (refusal 7)
    ∷ on (first (Place.Committed 1 0) None) (movers 1) ∷ on (first (Place.Committed 2 0) None) (refusal 7) ∷ on (first (Place.Committed 1 1) None) (refusal 7)
    ∷ on (first Place.Waiting (Some (1, Message.Nothing))) (movers 1) ∷ on (first Place.Waiting (Some (2, Message.Nothing))) (refusal 7)
    ∷ on (first (Place.Met 1 Message.Nothing) None) (movers 0) ∷ on (first (Place.Met 2 Message.Nothing) None) (refusal 7)
    -- Rules 1 and 8: process 0 starts at its first enabled guard, 1. It finds no match at T, for 2 receives as it does, and goes on to guard 2, not back to 1.
    ∷ case
    (makes 3 ∷ offers 2 (receive 0 ∷ []) ∷ Movers ∷ steps 2 ∷ steps 2 ∷ steps 2 ∷ steps 2 ∷ steps 2
    ∷ offers 0 (disabled 1 ∷ receive 2 ∷ receive 1 ∷ []) ∷ steps 0 ∷ steps 0 ∷ steps 0 ∷ steps 0 ∷ [])
    (made ∷ ticket 0 ∷ movers 4 ∷ at "A" (Some 0) ∷ at "P" None ∷ at "O" None ∷ at "H" None ∷ at "W" None
    ∷ ticket 1 ∷ at "A" (Some 1) ∷ at "T" (Some 1) ∷ at "A" (Some 2) ∷ at "P" None ∷ [])
    -- Rules 7 and 9, where the guard at C sends: of two guards that match, process 0 is told the first, with the reading.
    ∷ case
    (makes 2 ∷ offers 0 (receive 1 ∷ receive 1 ∷ []) ∷ steps 0 ∷ steps 0 ∷ steps 0 ∷ steps 0 ∷ steps 0 ∷ steps 0
    ∷ offers 1 (send 0 0x40970a3d ∷ []) ∷ steps 1 ∷ steps 1 ∷ steps 1 ∷ steps 1 ∷ steps 0 ∷ collects 0 ∷ collects 1 ∷ [])
    (made ∷ ticket 0 ∷ at "A" (Some 0) ∷ at "A" (Some 1) ∷ at "P" None ∷ at "O" None ∷ at "H" None ∷ at "W" None
    ∷ ticket 1 ∷ at "A" (Some 0) ∷ at "T" (Some 0) ∷ at "C" (Some 0) ∷ at "M" None ∷ at "M" None ∷ outcome 0 1 (reading 0x40970a3d) ∷ outcome 0 0 Message.Nothing ∷ [])
    -- a limit is collected, low and high
    ∷ case (session (limit 0x40970a3d 0x3f800000)) (session_says (limit 0x40970a3d 0x3f800000))
    ∷ []

-- An offer copies the list, gives the next ticket and sets E. It leaves the wake count, the signal and the posted list, here 0, present and not the own list (by the calls
-- alone no process at I is so).
abbrev signalled : ℕ → Place → List Guard → Process
signalled id place own = by_hand id place (Some (0, reading 0x40970a3d)) true own (receive 1 ∷ receive 1 ∷ [])

abbrev OfferLeaves : List Guard → List Guard → Type 0
OfferLeaves old new = process (table_after (table 2 2 (signalled 0 Place.Idle old ∷ fresh_process ∷ [])) (Offer 0 new)) 0 ≡ signalled 2 Place.Entering new

-- A record like that of an open offer, at index 2: it is open if 2 is a process, and not if n is 2.
abbrev third : ℕ → ProcessTable
third n = table n 1 (fresh_process ∷ fresh_process ∷ by_hand 0 Place.Entering None false (receive 0 ∷ []) [] ∷ [])

-- The marked session has one rendezvous, by the book and by the tables: process 1, whose ticket is 1, commits at its guard 0 to guard 0 of process 0, whose ticket is 0.
abbrev marked : List Moment
marked = Joined (record { id_p = 1; id_q = 0; p = 1; i = 0; q = 0; j = 0; message = reading 0x40970a3d }) ∷ []

abbrev marked_calls : List Call
marked_calls = session_calls (reading 0x40970a3d)

pub record Further : Type 0 where
  pub cases : Hold further
  pub offer_leaves : OfferLeaves (receive 1 ∷ []) (disabled 1 ∷ send 1 0x3f800000 ∷ [])
  pub open_at_2 : has_open_offer (third 3) 2 ≡ true
  pub not_open_at_n : has_open_offer (third 2) 2 ≡ false
  pub commits : made_by_all tables (fresh_table 2 1) marked_calls ≡ marked
  pub book_run : ◌>>=◌ (book_after_all tables (fresh_table 2 1) empty_history marked_calls) (λ b. Some b.run) ≡ Some marked

-- Demand 3 for the smallest and for the largest table, with the shortest and with the longest nap.
abbrev pub Demand3AtEnds : Type 0
Demand3AtEnds = (calls : List Call)
    → Claim tables (fresh_table 2 1) empty_history calls × Claim tables (fresh_table 32 1) empty_history calls
    × Claim tables (fresh_table 2 255) empty_history calls × Claim tables (fresh_table 32 255) empty_history calls
