-- To be believed. CR 3 of document 02, by cases: which tables are made, naps of three steps and of two, sleepers on tables that no call leaves, and what an early step leaves behind; and, for every length, an order of
-- steps that settles nothing.
use Rattle.std.specs.Prelude.{◌≤◌, ◌≡◌, ◌∷◌, ◌++◌, Some, None}
use mathlib.Core.List.{map, flatten}
use Rattle.alternative.specs.Guards.{offers_match}
use Rattle.process.specs.Process.{fresh_process, own_list}
use Rattle.rendezvous.specs.Table.{with_head, process, fresh_table}
use Rattle.rendezvous.specs.Numbers.{Said, made, ticket, same, outcome, withdrawn, movers, refusal}
use Rattle.rendezvous.specs.Run.{Call, Offer, Step, table_after, table_after_all}
use Rattle.rendezvous.specs.Commands.{Command, New, Do, Movers}
use Rattle.history.specs.Types.{ℕ, suc, true, false, List, [], replicate, Message, Place, ProcessTable}
use Rattle.history.specs.Cases.{Case, Hold, case, offers, steps, collects, receive, send, disabled, reading, at}
use Rattle.history.specs.Further.{by_hand, table}
use Rattle.history.specs.Withdrawals.{withdraws}

-- a table with another nap length
abbrev pub with_nap : ℕ → ProcessTable → ProcessTable
with_nap d t = let h = t.head in with_head t (record { n = h.n; nap = d; next = h.next; meetings = h.meetings; withdrawn = h.withdrawn })

-- naps of d: process 0 is asleep after s own steps there, and its first enabled guard is its second; process 1 is at I
abbrev asleep : ℕ → ℕ → ProcessTable
asleep d s = with_nap d (table 2 1 (by_hand 0 (Place.Asleep s) None false (disabled 1 ∷ receive 1 ∷ []) [] ∷ fresh_process ∷ []))

-- naps of d: process 0 is at A on 1, which is at this place, with a greater ticket; their offers match
abbrev pub crossing : ℕ → Place → ProcessTable
crossing d place = with_nap d (table 2 2
    (by_hand 0 (Place.Scanning 0) None false (send 1 0x40970a3d ∷ []) [] ∷ by_hand 1 place None false (receive 0 ∷ []) [] ∷ []))

-- "so it stays a mover": the movers are process 0, and its step says this
abbrev naps : ℕ → ℕ → Said → Case
naps d s says = record { start = asleep d s; commands = Movers ∷ steps 0 ∷ []; says = movers 1 ∷ says ∷ [] }

-- every call is refused by 7
abbrev damaged : ProcessTable → Case
damaged t = record { start = t; commands = Movers ∷ steps 0 ∷ steps 1 ∷ steps 2 ∷ offers 1 (receive 0 ∷ []) ∷ collects 0 ∷ withdraws 0 ∷ []; says = replicate 7 (refusal 7) }

-- two processes cross: their offers match, both are at A, and 0 is the older
abbrev pub crossing_calls : List Call
crossing_calls = Offer 0 (send 1 0x40970a3d ∷ []) ∷ Offer 1 (receive 0 ∷ []) ∷ Step 0 ∷ Step 1 ∷ []

abbrev crosses : ℕ → List Command
crosses d = New 2 d ∷ map Do crossing_calls

abbrev crosses_says : List Said
crosses_says = made ∷ ticket 0 ∷ ticket 1 ∷ at "A" (Some 0) ∷ at "A" (Some 0) ∷ []

unfoldable pub stories : List Case
stories =
    -- "a nap length d, 1 to 255"; "After the party count is tested, d = 0 gives 15."
    case (New 2 0 ∷ New 1 0 ∷ New 33 0 ∷ New 33 1 ∷ []) (refusal 15 ∷ refusal 1 ∷ refusal 1 ∷ refusal 1 ∷ [])
    ∷ case (New 2 1 ∷ New 2 255 ∷ New 32 255 ∷ New 32 0 ∷ []) (made ∷ made ∷ made ∷ refusal 15 ∷ [])
    -- Naps of three steps: process 1 leaves S at its third; its second nap counts from 0 again, while process 0 passes; it withdraws amid this nap, and that of its next offer counts from 0, too.
    ∷ case
    (crosses 3 ++ steps 0 ∷ steps 1 ∷ steps 1 ∷ Movers ∷ steps 1 ∷ steps 1 ∷ steps 1 ∷ steps 0 ∷ steps 1 ∷ withdraws 1 ∷ offers 1 (receive 0 ∷ []) ∷ replicate 5 (steps 1))
    (crosses_says ++ same ∷ at "S" None ∷ at "S" None ∷ movers 3 ∷ at "S" None ∷ at "A" (Some 0) ∷ at "S" None ∷ at "P" None ∷ at "S" None ∷ withdrawn ∷ ticket 2
    ∷ at "A" (Some 0) ∷ at "S" None ∷ at "S" None ∷ at "S" None ∷ at "A" (Some 0) ∷ [])
    -- Naps of two steps: the order s 1, s 1, s 0, which settles nothing with naps of one, comes to an end in its sixth turn.
    ∷ case
    (crosses 2 ++ flatten (replicate 6 (steps 1 ∷ steps 1 ∷ steps 0 ∷ [])) ++ Movers ∷ collects 0 ∷ collects 1 ∷ [])
    (crosses_says ++ at "S" None ∷ at "S" None ∷ at "P" None ∷ at "A" (Some 0) ∷ at "S" None ∷ at "O" None ∷ at "S" None ∷ at "A" (Some 0) ∷ at "H" None
    ∷ at "S" None ∷ at "S" None ∷ at "W" None ∷ at "A" (Some 0) ∷ at "T" (Some 0) ∷ same ∷ at "C" (Some 0) ∷ at "M" None ∷ at "M" None
    ∷ movers 0 ∷ outcome 0 1 Message.Nothing ∷ outcome 0 0 (reading 0x40970a3d) ∷ [])
    -- "d = 1 gives the old one": S is left at the very next step
    ∷ case (crosses 1 ++ steps 1 ∷ steps 1 ∷ []) (crosses_says ++ at "S" None ∷ at "A" (Some 0) ∷ [])
    -- "a sleeper leaves S at its d-th own step there": by rule 2 "to A at the first enabled guard"
    ∷ naps 1 0 (at "A" (Some 1))
    ∷ naps 3 0 (at "S" None)
    ∷ naps 3 1 (at "S" None)
    ∷ naps 3 2 (at "A" (Some 1))
    ∷ naps 255 253 (at "S" None)
    ∷ naps 255 254 (at "A" (Some 1))
    -- "Refusal 7 also covers a desk with d = 0, or with a sleeper that has made d or more steps at S.": of the processes below n
    ∷ damaged (fresh_table 2 0)
    ∷ damaged (asleep 0 0)
    ∷ damaged (asleep 1 1)
    ∷ damaged (asleep 3 3)
    ∷ damaged (asleep 3 4)
    ∷ damaged (asleep 255 255)
    ∷ record { start = table 2 1 (fresh_process ∷ fresh_process ∷ by_hand 0 (Place.Asleep 9) None false (receive 1 ∷ []) [] ∷ []); commands = Movers ∷ []; says = movers 0 ∷ [] }
    ∷ []

pub record NapCases : Type 0 where
  pub cases : Hold stories
  -- an early step counts, and changes nothing else of the whole table; S is entered with 0 steps
  pub counts : table_after (asleep 3 0) (Step 0) ≡ asleep 3 1
  pub begins : table_after (crossing 3 (Place.Scanning 0)) (Step 1) ≡ crossing 3 (Place.Asleep 0)
  -- No length ends every order. Two processes that cross come to this table, and with naps of d, d + 1 steps of process 1 and one of 0 bring it back, and so for ever. With d = 1 the order is s 1, s 1, s 0.
  -- Their offers match on it.
  pub matching : (d : ℕ) → let t = crossing d (Place.Scanning 0) in offers_match 0 (own_list (process t 0)) 1 (own_list (process t 1)) ≡ true
  pub reached : (d : ℕ) → 1 ≤ d → table_after_all (fresh_table 2 d) crossing_calls ≡ crossing d (Place.Scanning 0)
  pub endless : (d : ℕ) → 1 ≤ d → table_after_all (crossing d (Place.Scanning 0)) (replicate (suc d) (Step 1) ++ (Step 0 ∷ [])) ≡ crossing d (Place.Scanning 0)
