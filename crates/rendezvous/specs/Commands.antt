-- To be believed. Document 01, "Calls", and CR 3 of document 02: all calls as values, those of one process (Run) and the two that are about a whole table.
use Rattle.rendezvous.specs.Types.{ℕ, ProcessTable, Reply}
use Rattle.rendezvous.specs.Calls.{create}
use Rattle.rendezvous.specs.Movers.{runnable}
use Rattle.rendezvous.specs.Run.{Call, reply_to}

-- a new table of n processes with nap length d, a call of one process, or movers
pub data Command : Type 0 where
  New : ℕ → ℕ → Command
  Do : Call → Command
  Movers : Command

unfoldable pub reply_to_command : ProcessTable → Command → Reply
reply_to_command t (New n d) = create n d
reply_to_command t (Do c) = reply_to t c
reply_to_command t Movers = runnable t
