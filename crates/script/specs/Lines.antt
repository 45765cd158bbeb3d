-- To be believed. Document 01, "The script program": the lines of an input, and the command of a line; `None` where the line is malformed.
use Rattle.std.specs.Prelude.{ℕ, suc, cond, List, [], ◌∷◌, ◌++◌, length, eqb, leb, Option, None}
use Rattle.command.specs.Commands.{command_of}
use Rattle.script.specs.Types.{Command}
use Rattle.script.specs.Printing.{end_of_line}

-- a line without the byte that ends it, or an unended last line; one of no bytes is none
pub data Line : Type 0 where
  Ended : List ℕ → Line
  Unended : Line

abbrev pub unended : List ℕ → List Line
unended [] = []
unended (b ∷ bs) = Unended ∷ []

-- the lines of a begun line and the bytes that follow it
unfoldable pub lines_from : List ℕ → List ℕ → List Line
lines_from begun [] = unended begun
lines_from begun (b ∷ bs) = cond (eqb b end_of_line) (Ended begun ∷ lines_from [] bs) (lines_from (begun ++ b ∷ []) bs)

-- "at most 200 bytes before it"
abbrev pub most_bytes : ℕ
most_bytes = 200

-- the room for a begun line: one byte more than a line may have tells an overlong one
abbrev pub begun_length : ℕ
begun_length = suc most_bytes

-- "Anything else, an overlong line (skipped to its end), .. or an unended last line gives 8."
unfoldable pub line_command : Line → Option Command
line_command (Ended line) = cond (leb (length line) most_bytes) (command_of line) None
line_command Unended = None
