-- However the input is cut into pieces, what they print is `output` of the whole.
use Rattle.std.specs.Prelude.{Option}
use Prim.Native.Nat.{ℕ, ◌<◌}
use mathlib.Core.Path.{◌≡◌, refl, sym, ap, ◌∙◌}
use mathlib.Core.Bool.{Bool, true, false}
use mathlib.Core.List.{List, [], ◌∷◌, ◌++◌, flatten, append_assoc, append-nil}
use native.Mathlib.Omega.{arith}
use lib.Dec.{leb, eqb}
use lib.ListN.{length, take, length-take}
use lib.Seq.{take_all}
use borrow.Author.Tests.{leb-true, leb-false, lt-leb}
use Rattle.script.specs.Types.{ProcessTable}
use Rattle.script.specs.Printing.{refusal_text, end_of_line, ended}
use Rattle.script.specs.Lines.{Ended, unended, lines_from, most_bytes, begun_length, line_command}
use Rattle.script.specs.Session.{turn, printed_by, output}
use Rattle.script.specs.Feeding.{SessionState, start, fed, fed_byte, line_ended, line_grown, fed_pieces, finished, Pieces}
use Rattle.text.proofs.Capped.{take_again}

-- what a begun line and the bytes after it print
rest : Option ProcessTable → List ℕ → List ℕ → List ℕ
rest table begun bs = printed_by table (lines_from begun bs)

-- one byte more than a line may have tells an overlong line
pub cut-command : (line : List ℕ) → line_command (Ended (take begun_length line)) ≡ line_command (Ended line)
unfolding line_command
cut-command line = go (leb (length line) most_bytes) refl
  where
    go : (b : Bool) → leb (length line) most_bytes ≡ b → line_command (Ended (take begun_length line)) ≡ line_command (Ended line)
    go true t = let h = leb-true (length line) most_bytes t in rw (take_all begun_length line (omega arith))
    go false t =
        let h : most_bytes < length line = leb-false (length line) most_bytes t in
        let g : most_bytes < length (take begun_length line) = simp length-take (omega arith) in
        rw (t, lt-leb (length (take begun_length line)) most_bytes g)

pub cut-unended : (begun : List ℕ) → unended (take begun_length begun) ≡ unended begun
cut-unended [] = refl
cut-unended (b ∷ begun) = refl

cut-rest : (table : Option ProcessTable) (begun bs : List ℕ) → rest table (take begun_length begun) bs ≡ rest table begun bs
unfolding rest lines_from printed_by
cut-rest table begun [] = rw (cut-unended begun)
cut-rest table begun (b ∷ bs) = go (eqb b end_of_line) refl (λ l. cut-rest table l bs)
  where
    go : (e : Bool) → eqb b end_of_line ≡ e → ((l : List ℕ) → rest table (take begun_length l) bs ≡ rest table l bs)
        → rest table (take begun_length begun) (b ∷ bs) ≡ rest table begun (b ∷ bs)
    go true t more = rw (t, cut-command begun)
    go false t more =
        rw t
        (sym (more (take begun_length begun ++ b ∷ []))
        ∙ ap (λ (l : List ℕ). rest table l bs) (take_again begun_length begun (b ∷ []))
        ∙ more (begun ++ b ∷ []))

-- one byte
fed-one : (s : SessionState) (b : ℕ) (bs : List ℕ) → let one = fed_byte s b in one.prints ++ rest one.state.table one.state.begun bs ≡ rest s.table s.begun (b ∷ bs)
unfolding rest lines_from printed_by fed_byte line_ended line_grown
fed-one s b bs = go (eqb b end_of_line) refl
  where
    go : (e : Bool) → eqb b end_of_line ≡ e → let one = fed_byte s b in one.prints ++ rest one.state.table one.state.begun bs ≡ rest s.table s.begun (b ∷ bs)
    go true t = rw t
    go false t = rw t (cut-rest s.table (s.begun ++ b ∷ []) bs)

-- one piece, and what comes after it
fed-piece : (s : SessionState) (piece bs : List ℕ) → let one = fed s piece in one.prints ++ rest one.state.table one.state.begun bs ≡ rest s.table s.begun (piece ++ bs)
unfolding fed
fed-piece s [] bs = refl
fed-piece s (b ∷ piece) bs =
    let one = fed_byte s b in
    let more = fed one.state piece in
    append_assoc one.prints more.prints (rest more.state.table more.state.begun bs)
    ∙ ap (λ (l : List ℕ). one.prints ++ l) (fed-piece one.state piece bs)
    ∙ fed-one s b (piece ++ bs)

fed-all : (s : SessionState) (pieces : List (List ℕ)) → let all = fed_pieces s pieces in all.prints ++ finished all.state ≡ rest s.table s.begun (flatten pieces)
unfolding fed_pieces finished rest flatten
fed-all s [] = refl
fed-all s (piece ∷ pieces) =
    let one = fed s piece in
    let more = fed_pieces one.state pieces in
    append_assoc one.prints more.prints (finished more.state)
    ∙ ap (λ (l : List ℕ). one.prints ++ l) (fed-all one.state pieces)
    ∙ fed-piece s piece (flatten pieces)

pub pieces-hold : Pieces
unfolding output rest
pieces-hold pieces = fed-all start pieces

-- the end of the input
pub finished-empty : (s : SessionState) → s.begun ≡ [] → finished s ≡ []
unfolding finished lines_from printed_by
finished-empty s e = rw e

pub finished-begun : (s : SessionState) → 0 < length s.begun → finished s ≡ ended (refusal_text 8)
unfolding finished lines_from printed_by line_command turn
finished-begun s h = go s.begun h
  where
    go : (begun : List ℕ) → 0 < length begun → printed_by s.table (lines_from begun []) ≡ ended (refusal_text 8)
    go [] h = absurd (omega arith)
    go (b ∷ begun) h = append-nil (ended (refusal_text 8))
