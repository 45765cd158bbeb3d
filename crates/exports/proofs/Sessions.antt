-- A session's bytes, written part by part, are read as its state; and a text put at the front.
use Prim.Native.Nat.{ℕ, zero, suc, ◌≤◌, min}
use mathlib.Core.Path.{◌≡◌, refl, sym, ap, ◌∙◌}
use Rattle.std.specs.Bool.{then_some}
use mathlib.Core.Bool.{Bool, true, cond, true≢false}
use mathlib.Core.List.{List, [], ◌∷◌, ◌++◌, flatten, append_assoc, append-nil}
use native.Mathlib.Omega.{arith}
use borrow.Author.Tests.{le-leb}
use lib.Dec.{leb}
use lib.ListN.{length, take, drop, set, replicate}
use lib.Seq.{sets, take_all, take_at, drop-length}
use Rattle.text.specs.Writing.{line_length}
use Rattle.script.specs.Lines.{begun_length}
use Rattle.script.specs.Feeding.{state_held}
use Rattle.script.specs.declared.Session.{Session}
use Rattle.script.proofs.Lists.{take-most}
use Rattle.wire.specs.Claims.{Faithful}
use Rattle.wire.specs.Layout.{table_length}
use Rattle.wire.specs.Writing.{flag, bytes_of, onto}
use Rattle.wire.proofs.Back.{flag-back}
use Rattle.wire.proofs.Lists.{sets-front, sets-past}
use Rattle.wire.proofs.Parts.{total, laid-front, from-part}
use Rattle.exports.specs.Types.{ProcessTable}
use Rattle.exports.specs.Layout.{begun_at, table_at, session_length}
use Rattle.exports.specs.Scripts.{state_in, Stored}

-- a part written behind the first byte
after_one : (a : ℕ) (l : List ℕ) (k : ℕ) (xs : List ℕ) → sets (a ∷ l) (suc k) xs ≡ a ∷ sets l k xs
after_one a l k [] = refl
after_one a l k (x ∷ xs) = after_one a (set l k x) (suc k) xs

-- bytes written over zeros
pub over_zeros : (n m : ℕ) (xs : List ℕ) → n ≤ m → sets (replicate n 0) 0 xs ≡ take n (xs ++ replicate m 0)
over_zeros zero m xs h = sets-past [] 0 xs (omega arith)
over_zeros (suc n) zero xs h = absurd (omega arith)
over_zeros (suc n) (suc m) [] h = ap (λ (l : List ℕ). 0 ∷ l) (over_zeros n m [] (omega arith))
over_zeros (suc n) (suc m) (x ∷ xs) h = after_one x (replicate n 0) 0 xs ∙ ap (λ (l : List ℕ). x ∷ l) (over_zeros n (suc m) xs (omega arith))

-- a table's bytes in a buffer of their length
pub table-whole : (t : ProcessTable) (l : List ℕ) → length l ≡ table_length → onto table_length (bytes_of t) l ≡ bytes_of t
unfolding onto
table-whole t l e =
    let gone : drop table_length l ≡ [] = ap (λ (n : ℕ). drop n l) (sym e) ∙ drop-length l in
    rw (le-leb table_length (length l) (omega arith)) (ap (λ (r : List ℕ). bytes_of t ++ r) gone ∙ append-nil (bytes_of t))

module _ (s : Session) (long : length s.bytes ≡ begun_length) (made : Bool) (t : ProcessTable) (same : then_some made t ≡ s.table) (table : Faithful t) where
  -- two bytes, the begun line's, the table's
  abbrev parts : List (List ℕ)
  parts = (flag made ∷ min s.length begun_length ∷ []) ∷ s.bytes ∷ bytes_of t ∷ []

  begun-at : (rest : List ℕ) → take begun_length ((s.bytes ++ rest) ++ replicate begun_length 0) ≡ s.bytes
  begun-at rest = rw (append_assoc s.bytes rest (replicate begun_length 0)) (take_at s.bytes (rest ++ replicate begun_length 0) begun_length long)

  session-read : (rest : List ℕ) → state_in (flatten parts ++ rest) ≡ state_held s
  unfolding state_in
  session-read rest =
      rw (
        from-part parts 1 begun_at rest refl,
        from-part parts 2 table_at rest (rw long),
        from-part parts 0 0 rest refl,
        begun-at (bytes_of t ++ rest),
        take-most s.bytes s.length begun_length long,
        flag-back made,
        table.read_back rest,
        same,
      )

  pub session-stored : (l l' : List ℕ) → session_length ≤ length l → l' ≡ sets (sets (sets l 0 (flag made ∷ min s.length begun_length ∷ [])) begun_at s.bytes) table_at (bytes_of t)
      → Stored true (state_held s) l l' true
  session-stored l l' h e =
      let all : total parts ≡ session_length = rw (long, table.long) in
      let laid : l' ≡ flatten parts ++ drop session_length l = e ∙ (rw long at (laid-front parts l session_length all h)) in
      record {
        enough = sym (le-leb session_length (length l) h);
        read_back = λ y. rw laid (session-read (drop session_length l));
        behind = rw laid (from-part parts 3 session_length (drop session_length l) all);
        short = λ n. absurd (true≢false n);
      }

-- a text's bytes, which are a line at most
pub text-put : (text bytes l : List ℕ) (count : ℕ) → bytes ≡ text → length bytes ≤ line_length → line_length ≤ length l → count ≡ length bytes
    → (count ≡ cond (leb line_length (length l)) (length text) 0) × (sets l 0 bytes ≡ take count text ++ drop count l)
text-put text bytes l count e short h g =
    let all : take count bytes ≡ bytes = take_all count bytes (omega arith) in
    rw (le-leb line_length (length l) h, ← e) (g, rw all (sets-front l bytes count (sym g) (omega arith)))
