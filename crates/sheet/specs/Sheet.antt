-- To be believed. CR 6 of document 02: "a second program reads a script and prints only one line, for the last desk made"; and the claim that it does so however its input is cut into pieces.
use Rattle.std.specs.Prelude.{ℕ, ◌≡◌, Option, Some, None}
use mathlib.Core.List.{List, [], ◌∷◌, ◌++◌, flatten}
use Rattle.text.specs.Writing.{decimal_text}
use Rattle.rendezvous.specs.Table.{open_offers}
use Rattle.script.specs.Types.{ProcessTable}
use Rattle.script.specs.Printing.{field, ended}
use Rattle.script.specs.Lines.{Line, lines_from, line_command}
use Rattle.script.specs.Session.{turn}
use Rattle.script.specs.Feeding.{start, fed_pieces}

-- "the last desk made": the table with which reading ends. A malformed line and a refused one, also a refused `n`, leave the table as it was: that is `turn`'s.
unfoldable pub table_after : Option ProcessTable → List Line → Option ProcessTable
table_after table [] = table
table_after table (line ∷ lines) = table_after (turn table (line_command line)).table lines

-- "offers, meetings, withdrawn, open, in decimal and parted by one space"
abbrev pub totals_text : ℕ → ℕ → ℕ → ℕ → List ℕ
totals_text offers meetings withdrawn pending = ended (decimal_text offers ++ field (decimal_text meetings) ++ field (decimal_text withdrawn) ++ field (decimal_text pending))

-- "all 0 if no desk was made". "Offers are the accepted offers of the history": as many as tickets were given out, so the next ticket; that it is so is the claim `DaySheet` of the crate history.
unfoldable pub sheet_text : Option ProcessTable → List ℕ
sheet_text None = totals_text 0 0 0 0
sheet_text (Some t) = totals_text t.head.next.0 t.head.meetings t.head.withdrawn (open_offers t)

-- the whole output for the whole input
unfoldable pub sheet : List ℕ → List ℕ
sheet input = sheet_text (table_after None (lines_from [] input))

-- However the input is cut into pieces, the state after them has the sheet of the whole: an unended last line, which the state still holds, changes no table.
abbrev pub SheetOfPieces : Type 0
SheetOfPieces = (pieces : List (List ℕ)) → sheet_text (fed_pieces start pieces).state.table ≡ sheet (flatten pieces)
