-- To be believed. Document 01, "The script program", and CRs 1 and 3 of document 02: what each line prints, and all that the program prints for its whole input.
use Rattle.std.specs.Prelude.{ℕ, cond, List, [], ◌∷◌, ◌++◌, Option, Some, None, is_err}
use Rattle.rendezvous.specs.Calls.{create}
use Rattle.rendezvous.specs.Numbers.{said}
use Rattle.rendezvous.specs.Commands.{reply_to_command}
use Rattle.script.specs.Types.{ProcessTable, Reply, Command, New, Do, Movers}
use Rattle.script.specs.Printing.{command_text, refusal_text, answer_text, ended}
use Rattle.script.specs.Lines.{Line, lines_from, line_command}

-- the reply to a command; "a command but `n` before an accepted `n`" has none
unfoldable pub reply_from : Option ProcessTable → Command → Option Reply
reply_from (Some t) command = Some (reply_to_command t command)
reply_from None (New n d) = Some (create n d)
reply_from None (Do call) = None
reply_from None Movers = None

-- What a line prints, and the table with which reading goes on: none before an accepted `n`.
pub record Turn : Type 0 where
  pub prints : List ℕ
  pub table : Option ProcessTable

-- "8: a script line is malformed"
abbrev pub malformed : Option ProcessTable → Turn
malformed table = record { prints = ended (refusal_text 8); table = table }

-- "reading goes on with the old desk"; "An accepted `n` replaces the desk."
unfoldable pub answered : Option ProcessTable → List ℕ → Reply → Turn
answered table command reply = record {
  prints = ended (answer_text command (said reply.answer));
  table = cond (is_err reply.answer) table (Some reply.table);
}

-- one command's turn, by its reply
abbrev pub turn_by : Option ProcessTable → Command → Option Reply → Turn
turn_by table command None = malformed table
turn_by table command (Some reply) = answered table (command_text command) reply

-- one line's turn, by its command
unfoldable pub turn : Option ProcessTable → Option Command → Turn
turn table None = malformed table
turn table (Some command) = turn_by table command (reply_from table command)

-- all lines, each with the table that the one before it left
unfoldable pub printed_by : Option ProcessTable → List Line → List ℕ
printed_by table [] = []
printed_by table (line ∷ lines) = let now = turn table (line_command line) in now.prints ++ printed_by now.table lines

-- the whole output for the whole input
unfoldable pub output : List ℕ → List ℕ
output input = printed_by None (lines_from [] input)
