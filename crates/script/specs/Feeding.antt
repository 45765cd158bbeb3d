-- To be believed. The program takes its input in pieces, as the reads happen to cut it: what a piece prints, and the claim that the pieces together print `output`.
use Rattle.std.specs.Prelude.{ℕ, ◌≡◌, cond, take, eqb, Option, None}
use mathlib.Core.List.{List, [], ◌∷◌, ◌++◌, flatten}
use Rattle.script.specs.Types.{ProcessTable, Session}
use Rattle.script.specs.Printing.{end_of_line}
use Rattle.script.specs.Lines.{Ended, lines_from, begun_length, line_command}
use Rattle.script.specs.Session.{turn, printed_by, output}

-- Between two pieces: the begun line, and the table. Of an overlong line one byte more than it may have is held, which shows that it is one.
pub record SessionState : Type 0 where
  pub begun : List ℕ
  pub table : Option ProcessTable

abbrev pub start : SessionState
start = record { begun = []; table = None }

-- .. as the code holds them
abbrev pub state_held : Session → SessionState
state_held s = record { begun = take s.length s.bytes; table = s.table }

-- What a piece prints, and the state after it.
pub record After : Type 0 where
  pub prints : List ℕ
  pub state : SessionState

abbrev pub and_then : List ℕ → After → After
and_then prints fed = record { prints = prints ++ fed.prints; state = fed.state }

-- a byte that ends the line, and one that goes on with it
unfoldable pub line_ended : SessionState → After
line_ended s = let now = turn s.table (line_command (Ended s.begun)) in record { prints = now.prints; state = record { begun = []; table = now.table } }

unfoldable pub line_grown : SessionState → ℕ → After
line_grown s b = record { prints = []; state = record { begun = take begun_length (s.begun ++ b ∷ []); table = s.table } }

unfoldable pub fed_byte : SessionState → ℕ → After
fed_byte s b = cond (eqb b end_of_line) (line_ended s) (line_grown s b)

unfoldable pub fed : SessionState → List ℕ → After
fed s [] = record { prints = []; state = s }
fed s (b ∷ bs) = let one = fed_byte s b in and_then one.prints (fed one.state bs)

unfoldable pub fed_pieces : SessionState → List (List ℕ) → After
fed_pieces s [] = record { prints = []; state = s }
fed_pieces s (piece ∷ pieces) = let one = fed s piece in and_then one.prints (fed_pieces one.state pieces)

-- at the end of the input: what an unended last line prints
unfoldable pub finished : SessionState → List ℕ
finished s = printed_by s.table (lines_from s.begun [])

-- However the input is cut into pieces, the pieces and the end print the whole output.
abbrev pub Pieces : Type 0
Pieces = (pieces : List (List ℕ)) → let all = fed_pieces start pieces in all.prints ++ finished all.state ≡ output (flatten pieces)
