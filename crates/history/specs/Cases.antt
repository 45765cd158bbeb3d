-- To be believed. Document 01, "Edges to try": the starred cases, in its order, with its numbers.
use Rattle.std.specs.Prelude.{map, ◌≡◌, ◌∷◌, ◌++◌, Option, Some, None}
use Rattle.std.specs.Float.{binary32}
use Rattle.std.specs.Float.Ieee.{of_bits}
use Rattle.process.specs.Process.{fresh_process}
use Rattle.rendezvous.specs.Table.{most_processes, with_next, fresh_head, fresh_table}
use Rattle.rendezvous.specs.Numbers.{Said, made, ticket, place, same, outcome, movers, refusal, said}
use Rattle.rendezvous.specs.Run.{Call, Offer, Step, Collect}
use Rattle.rendezvous.specs.Commands.{Command, New, Do, Movers, reply_to_command}
use Rattle.history.specs.Types.{ℕ, Char, code, true, false, List, [], replicate, Message, Action, Guard}
use Rattle.history.specs.Types.{ProcessTable}

-- what the commands of a list say, each getting the table that the last one handed back
unfoldable pub all_said : ProcessTable → List Command → List Said
all_said t [] = []
all_said t (c ∷ cs) = let reply = reply_to_command t c in said reply.answer ∷ all_said reply.table cs

-- A case: a table, commands, and what they must say.
pub record Case : Type 0 where
  pub start : ProcessTable
  pub commands : List Command
  pub says : List Said

-- "`n N` without a second number means 1" (CR 3 of document 02)
abbrev pub makes : ℕ → Command
makes n = New n 1

abbrev pub offers : ℕ → List Guard → Command
offers p gs = Do (Offer p gs)

abbrev pub steps : ℕ → Command
steps p = Do (Step p)

abbrev pub collects : ℕ → Command
collects p = Do (Collect p)

-- guards as the script writes them: q?, q! with a message or the bits of a reading, and -q?
abbrev pub receive : ℕ → Guard
receive q = record { enabled = true; partner = q; kind = 0; rank = 0; action = Action.Receive }

abbrev pub reading : ℕ → Message
reading bits = Message.Reading (of_bits binary32 bits)

abbrev pub sends : ℕ → Message → Guard
sends q m = record { enabled = true; partner = q; kind = 0; rank = 0; action = Action.Send m }

abbrev pub send : ℕ → ℕ → Guard
send q bits = sends q (reading bits)

abbrev pub disabled : ℕ → Guard
disabled q = record { enabled = false; partner = q; kind = 0; rank = 0; action = Action.Receive }

-- a fresh table of two processes, but for its next ticket
abbrev from : ℕ → ProcessTable
from next = record { head = with_next (fresh_head 2 1) next; processes = replicate most_processes fresh_process }

-- a place by its letter, with the guard index at A, T and C
abbrev pub at : Char → Option ℕ → Said
at letter index = place (code letter) index

-- process 0 offers a message to process 1, which takes it: both collect
abbrev pub session_calls : Message → List Call
session_calls m =
    Offer 0 (sends 1 m ∷ []) ∷ Offer 1 (receive 0 ∷ [])
    ∷ Step 0 ∷ Step 0 ∷ Step 0 ∷ Step 0 ∷ Step 0
    ∷ Step 1 ∷ Step 1 ∷ Step 1 ∷ Step 1 ∷ Step 0
    ∷ Collect 1 ∷ Collect 0 ∷ []

abbrev pub session : Message → List Command
session m = makes 2 ∷ (map Do (session_calls m) ++ (Movers ∷ []))

abbrev pub session_says : Message → List Said
session_says m =
    made ∷ ticket 0 ∷ ticket 1
    ∷ at "A" (Some 0) ∷ at "P" None ∷ at "O" None ∷ at "H" None ∷ at "W" None
    ∷ at "A" (Some 0) ∷ at "T" (Some 0) ∷ at "C" (Some 0) ∷ at "M" None ∷ at "M" None
    ∷ outcome 0 0 m ∷ outcome 0 1 Message.Nothing ∷ movers 0 ∷ []

abbrev pub case : List Command → List Said → Case
case commands says = record { start = fresh_table 0 0; commands = commands; says = says }

unfoldable pub starred : List Case
starred =
    -- n 1 gives 1; n 2 and 32 are made; n 33 gives 1
    case (makes 1 ∷ []) (refusal 1 ∷ [])
    ∷ case (makes 2 ∷ []) (made ∷ [])
    ∷ case (makes 32 ∷ offers 31 (receive 0 ∷ []) ∷ offers 32 (receive 0 ∷ []) ∷ []) (made ∷ ticket 0 ∷ refusal 2 ∷ [])
    ∷ case (makes 33 ∷ []) (refusal 1 ∷ [])
    -- no guards gives 3; nine gives 3
    ∷ case (makes 2 ∷ offers 0 [] ∷ []) (made ∷ refusal 3 ∷ [])
    ∷ case (makes 2 ∷ offers 0 (replicate 9 (receive 1)) ∷ []) (made ∷ refusal 3 ∷ [])
    -- a guard to oneself gives 4, also while busy
    ∷ case (makes 2 ∷ offers 0 (receive 0 ∷ []) ∷ []) (made ∷ refusal 4 ∷ [])
    ∷ case (makes 2 ∷ offers 0 (receive 1 ∷ []) ∷ offers 0 (receive 0 ∷ []) ∷ []) (made ∷ ticket 0 ∷ refusal 4 ∷ [])
    -- r7fc00000 gives 5; r80000000 arrives as r80000000
    ∷ case (makes 2 ∷ offers 0 (send 1 0x7fc00000 ∷ []) ∷ []) (made ∷ refusal 5 ∷ [])
    ∷ case (session (reading 0x80000000)) (session_says (reading 0x80000000))
    -- only disabled guards: 6; a second offer while open: 11
    ∷ case (makes 2 ∷ offers 0 (disabled 1 ∷ disabled 1 ∷ []) ∷ []) (made ∷ refusal 6 ∷ [])
    ∷ case (makes 2 ∷ offers 0 (receive 1 ∷ []) ∷ offers 0 (receive 1 ∷ []) ∷ []) (made ∷ ticket 0 ∷ refusal 11 ∷ [])
    -- next ticket 4,294,967,294 is given out; at 4,294,967,295: 12
    ∷ record { start = from 4294967294; commands = offers 0 (receive 1 ∷ []) ∷ offers 1 (receive 0 ∷ []) ∷ []; says = ticket 4294967294 ∷ refusal 12 ∷ [] }
    ∷ record { start = from 4294967295; commands = offers 0 (receive 1 ∷ []) ∷ []; says = refusal 12 ∷ [] }
    -- parties 0 and 1, one guard each, at A on each other, tickets 0 and 1: a step of 0 changes nothing; a step of 1 puts it to S; then a step of 0 goes to P
    ∷ case
    (makes 2 ∷ offers 0 (send 1 0x40970a3d ∷ []) ∷ offers 1 (receive 0 ∷ []) ∷ steps 0 ∷ steps 1 ∷ steps 0 ∷ steps 1 ∷ steps 0 ∷ [])
    (made ∷ ticket 0 ∷ ticket 1 ∷ at "A" (Some 0) ∷ at "A" (Some 0) ∷ same ∷ at "S" None ∷ at "P" None ∷ [])
    -- the session, whose reading is 4.72
    ∷ case (session (reading 0x40970a3d)) (session_says (reading 0x40970a3d))
    ∷ []

-- In every case of a list the definitions say what the documents say.
abbrev pub Hold : List Case → Type 0
Hold cases = map (λ c. all_said c.start c.commands) cases ≡ map (λ c. c.says) cases

abbrev pub Starred : Type 0
Starred = Hold starred
