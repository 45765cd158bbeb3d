-- To be believed. CR 1 of document 02, by cases: the answer at every place, what a withdrawal leaves, its refusals in order, the race with a commit, and the run of whole meetings.
use Rattle.std.specs.Prelude.{map, ◌≡◌, ◌∷◌, ◌++◌, Some, None}
use Rattle.rendezvous.specs.Table.{with_head, with_withdrawal, fresh_table}
use Rattle.rendezvous.specs.Numbers.{Said, made, ticket, outcome, withdrawn, too_late, refusal}
use Rattle.rendezvous.specs.Run.{Call, Offer, Step, Collect, Withdraw, table_after}
use Rattle.rendezvous.specs.Commands.{Command, Do}
use Rattle.history.specs.Types.{ℕ, Bool, true, false, List, [], replicate, Message, Place, ProcessTable}
use Rattle.history.specs.Book.{Moment, Joined, Withdrew, empty_history, ◌>>=◌}
use Rattle.history.specs.Machine.{book_after_all, made_by_all}
use Rattle.history.specs.Tables.{tables}
use Rattle.history.specs.Demand3.{ids_of}
use Rattle.history.specs.Cases.{Case, Hold, case, makes, offers, steps, collects, receive, send, reading, at}
use Rattle.history.specs.Further.{by_hand, table}

abbrev pub withdraws : ℕ → Command
withdraws p = Do (Withdraw p)

-- process 0 at a place, with wake count 0 where `accepting` is true; process 1 has a guard posted, for the kept index at C
abbrev placed : Place → Bool → ProcessTable
placed place accepting = table 2 2 (by_hand 0 place None accepting (receive 1 ∷ []) [] ∷ by_hand 1 Place.Idle None false [] (receive 0 ∷ []) ∷ [])

-- what a withdrawal says there with wake count 0, and with 1
abbrev says : Place → Said → Said → List Case
says place zero one =
    record { start = placed place true; commands = withdraws 0 ∷ []; says = zero ∷ [] }
    ∷ record { start = placed place false; commands = withdraws 0 ∷ []; says = one ∷ [] } ∷ []

unfoldable pub everywhere : List Case
everywhere =
    says Place.Idle (refusal 14) (refusal 14)
    ++ says Place.Entering withdrawn withdrawn
    ++ says (Place.Met 0 Message.Nothing) (refusal 14) (refusal 14)
    ++ says (Place.Scanning 0) withdrawn withdrawn
    ++ says (Place.Trying 0) withdrawn withdrawn
    ++ says (Place.Committed 0 0) too_late too_late
    ++ says Place.Posting withdrawn withdrawn
    ++ says Place.Opening withdrawn withdrawn
    ++ says Place.Showing withdrawn too_late
    ++ says (Place.Asleep 0) withdrawn withdrawn
    ++ says Place.Waiting withdrawn too_late

-- process 0 has waited, and 1 is at T on it
abbrev tried : List Command
tried = makes 2 ∷ offers 0 (receive 1 ∷ []) ∷ replicate 5 (steps 0) ++ offers 1 (send 0 0x40970a3d ∷ []) ∷ steps 1 ∷ steps 1 ∷ []

abbrev tried_says : List Said
tried_says = made ∷ ticket 0 ∷ at "A" (Some 0) ∷ at "P" None ∷ at "O" None ∷ at "H" None ∷ at "W" None ∷ ticket 1 ∷ at "A" (Some 0) ∷ at "T" (Some 0) ∷ []

unfoldable pub stories : List Case
stories =
    -- "After 7 and 2, a party at I or M is turned away by 14.": 2 before 14, and 7 before both
    case (makes 2 ∷ withdraws 0 ∷ withdraws 2 ∷ []) (made ∷ refusal 14 ∷ refusal 2 ∷ [])
    ∷ record { start = placed (Place.Scanning 1) false; commands = withdraws 0 ∷ withdraws 1 ∷ withdraws 9 ∷ []; says = replicate 3 (refusal 7) }
    -- The slot closes before the commit: the partner passes on.
    ∷ case (tried ++ withdraws 0 ∷ steps 1 ∷ withdraws 0 ∷ []) (tried_says ++ withdrawn ∷ at "P" None ∷ refusal 14 ∷ [])
    -- It closes after the commit: too late for both, and at M they are turned away.
    ∷ case
    (tried ++ steps 1 ∷ withdraws 0 ∷ withdraws 1 ∷ steps 1 ∷ withdraws 0 ∷ withdraws 1 ∷ steps 0 ∷ withdraws 0 ∷ collects 0 ∷ collects 1 ∷ [])
    (tried_says ++ at "C" (Some 0) ∷ too_late ∷ too_late ∷ at "M" None ∷ too_late ∷ refusal 14 ∷ at "M" None ∷ refusal 14
    ∷ outcome 0 1 (reading 0x40970a3d) ∷ outcome 0 0 Message.Nothing ∷ [])
    ∷ []

-- Process 0 at a place, and 1 asleep, both with a signal and with a posted list that is not the own one (by the calls alone none is so).
abbrev odd : Place → Bool → ProcessTable
odd place accepting =
    let signal = Some (0, reading 0x40970a3d) in
    table 2 8 (by_hand 7 place signal accepting (receive 1 ∷ []) (receive 1 ∷ receive 1 ∷ []) ∷ by_hand 6 (Place.Asleep 0) signal true (receive 0 ∷ []) (receive 0 ∷ receive 0 ∷ []) ∷ [])

abbrev left : Bool → Place → ProcessTable
left accepting place = table_after (odd place accepting) (Withdraw 0)

-- "the wake count becomes 1, the party goes to I", one withdrawal more is counted (CR 6), and nothing else of the whole table changes: at E, A, T, P, O and S whatever the wake count
-- was, at H and W where it was 0
abbrev scans : List Place
scans = Place.Entering ∷ Place.Scanning 0 ∷ Place.Trying 0 ∷ Place.Posting ∷ Place.Opening ∷ Place.Asleep 0 ∷ []

abbrev shows : List Place
shows = Place.Showing ∷ Place.Waiting ∷ []

abbrev gone : ProcessTable
gone = let t = odd Place.Idle false in with_head t (with_withdrawal t.head)

abbrev Leaves : Bool → List Place → Type 0
Leaves accepting places = map (left accepting) places ≡ map (λ place. gone) places

-- "the answer is "too late" and nothing changes": at C whatever the wake count is, at H and W where it is 1
abbrev Stays : Bool → List Place → Type 0
Stays accepting places = map (left accepting) places ≡ map (λ place. odd place accepting) places

-- Process 1 withdraws while 0 is at T on it, and offers again: 0 does not meet the old offer, and then the new one meets 0.
abbrev again : List Call
again =
    Offer 1 (receive 0 ∷ []) ∷ replicate 5 (Step 1) ++ Offer 0 (send 1 0x40970a3d ∷ []) ∷ Step 0 ∷ Step 0 ∷ Withdraw 1 ∷ Offer 1 (receive 0 ∷ [])
    ∷ replicate 4 (Step 0) ++ replicate 4 (Step 1) ++ Step 0 ∷ Withdraw 0 ∷ Collect 1 ∷ Collect 0 ∷ []

abbrev again_run : List Moment
again_run = Withdrew (record { p = 1; id = 0 }) ∷ Joined (record { id_p = 2; id_q = 1; p = 1; i = 0; q = 0; j = 0; message = reading 0x40970a3d }) ∷ []

pub record Withdrawals : Type 0 where
  pub places : Hold everywhere
  pub cases : Hold stories
  pub leaves : Leaves true (scans ++ shows) × Leaves false scans
  pub stays : Stays true (Place.Committed 0 0 ∷ []) × Stays false (Place.Committed 0 0 ∷ shows)
  -- a moment of its own, by the tables and by the book, and the tickets of all moments
  pub made_run : made_by_all tables (fresh_table 2 1) again ≡ again_run
  pub book_run : ◌>>=◌ (book_after_all tables (fresh_table 2 1) empty_history again) (λ b. Some b.run) ≡ Some again_run
  pub tickets : ids_of again_run ≡ 0 ∷ 2 ∷ 1 ∷ []
