-- However the input is cut into pieces, the table with which reading ends is that of the whole.
use Rattle.std.specs.Prelude.{Option}
use Prim.Native.Nat.{ℕ}
use mathlib.Core.Path.{◌≡◌, refl, sym, ap, ◌∙◌}
use mathlib.Core.Bool.{Bool, true, false}
use mathlib.Core.List.{List, [], ◌∷◌, ◌++◌, flatten}
use lib.Dec.{eqb}
use lib.ListN.{take}
use Rattle.text.proofs.Capped.{take_again}
use Rattle.script.specs.Types.{ProcessTable, Command}
use Rattle.script.specs.Printing.{end_of_line}
use Rattle.script.specs.Lines.{lines_from, begun_length, line_command}
use Rattle.script.specs.Session.{turn}
use Rattle.script.specs.Feeding.{SessionState, start, fed, fed_byte, line_ended, line_grown, fed_pieces}
use Rattle.script.proofs.Cuts.{cut-command, cut-unended}
use Rattle.sheet.specs.Sheet.{table_after, sheet_text, sheet, SheetOfPieces}

-- the table after a begun line and the bytes that follow it
after : Option ProcessTable → List ℕ → List ℕ → Option ProcessTable
after table begun bs = table_after table (lines_from begun bs)

-- at the end of the input: an unended line changes nothing
after-end : (table : Option ProcessTable) (begun : List ℕ) → after table begun [] ≡ table
unfolding after lines_from table_after line_command turn
after-end table [] = refl
after-end table (b ∷ begun) = refl

-- one byte more than a line may have tells an overlong line
cut-after : (table : Option ProcessTable) (begun bs : List ℕ) → after table (take begun_length begun) bs ≡ after table begun bs
unfolding after lines_from table_after
cut-after table begun [] = rw (cut-unended begun)
cut-after table begun (b ∷ bs) = go (eqb b end_of_line) refl (λ l. cut-after table l bs)
  where
    go : (e : Bool) → eqb b end_of_line ≡ e → ((l : List ℕ) → after table (take begun_length l) bs ≡ after table l bs)
        → after table (take begun_length begun) (b ∷ bs) ≡ after table begun (b ∷ bs)
    go true t more = rw t (ap (λ (c : Option Command). table_after (turn table c).table (lines_from [] bs)) (cut-command begun))
    go false t more =
        rw t
        (sym (more (take begun_length begun ++ b ∷ []))
        ∙ ap (λ (l : List ℕ). after table l bs) (take_again begun_length begun (b ∷ []))
        ∙ more (begun ++ b ∷ []))

-- one byte
fed-one : (s : SessionState) (b : ℕ) (bs : List ℕ) → let one = (fed_byte s b).state in after one.table one.begun bs ≡ after s.table s.begun (b ∷ bs)
unfolding after lines_from table_after fed_byte line_ended line_grown
fed-one s b bs = go (eqb b end_of_line) refl
  where
    go : (e : Bool) → eqb b end_of_line ≡ e → let one = (fed_byte s b).state in after one.table one.begun bs ≡ after s.table s.begun (b ∷ bs)
    go true t = rw t
    go false t = rw t (cut-after s.table (s.begun ++ b ∷ []) bs)

-- one piece, and what comes after it
fed-piece : (s : SessionState) (piece bs : List ℕ) → let one = (fed s piece).state in after one.table one.begun bs ≡ after s.table s.begun (piece ++ bs)
unfolding fed
fed-piece s [] bs = refl
fed-piece s (b ∷ piece) bs = fed-piece (fed_byte s b).state piece bs ∙ fed-one s b (piece ++ bs)

fed-all : (s : SessionState) (pieces : List (List ℕ)) → (fed_pieces s pieces).state.table ≡ after s.table s.begun (flatten pieces)
unfolding fed_pieces flatten
fed-all s [] = sym (after-end s.table s.begun)
fed-all s (piece ∷ pieces) = fed-all (fed s piece).state pieces ∙ fed-piece s piece (flatten pieces)

pub sheet-of-pieces : SheetOfPieces
unfolding sheet after
sheet-of-pieces pieces = ap sheet_text (fed-all start pieces)
