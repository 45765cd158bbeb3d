-- To be believed. Document 01, "Calls", and CR 1 of document 02: the calls as values, what a call says and leaves; and from demand 3 of document 00: lists of calls, each getting what the last one left.
use Rattle.std.specs.Prelude.{◌∷◌}
use Rattle.rendezvous.specs.Calls.{offer, step, collect, withdraw}
use Rattle.rendezvous.specs.Numbers.{Said, said}
use Rattle.rendezvous.specs.Types.{ℕ, List, [], Guard, ProcessTable, Reply}

-- the calls of one process
pub data Call : Type 0 where
  Offer : ℕ → List Guard → Call
  Step : ℕ → Call
  Collect : ℕ → Call
  Withdraw : ℕ → Call

unfoldable pub reply_to : ProcessTable → Call → Reply
reply_to t (Offer p gs) = offer t p gs
reply_to t (Step p) = step t p
reply_to t (Collect p) = collect t p
reply_to t (Withdraw p) = withdraw t p

abbrev pub said_to : ProcessTable → Call → Said
said_to t c = said (reply_to t c).answer

abbrev pub table_after : ProcessTable → Call → ProcessTable
table_after t c = (reply_to t c).table

-- "each call gets the desk that the last one handed back": of tables, and of any other state that calls are made on
unfoldable pub after_all : {S : Type 0} → (S → Call → S) → S → List Call → S
after_all after s [] = s
after_all after s (c ∷ cs) = after_all after (after s c) cs

abbrev pub table_after_all : ProcessTable → List Call → ProcessTable
table_after_all t calls = after_all table_after t calls
