-- Laws of a text that is copied into the output.
use Prim.Native.Nat.{ℕ, ◌+◌, ◌≤◌}
use mathlib.Core.Path.{◌≡◌, refl}
use mathlib.Core.List.{List, ◌++◌, append_assoc}
use lib.ListN.{length, take, drop}
use lib.Seq.{drop-drop}
use borrow.Author.Tests.{le-leb}
use Rattle.text.specs.Writing.{line_length}
use Rattle.script.specs.Private.{put_at, put_end}

-- the text is copied into the output
pub copied_all : (at : ℕ) (text bytes out : List ℕ) (end n : ℕ) → bytes ≡ text → at + line_length ≤ length out → end ≡ at + length bytes → n ≡ length bytes
    → (end ≡ put_end at text out) × (take at out ++ (bytes ++ drop n (drop at out)) ≡ put_at at text out)
copied_all at text bytes out end n e room f g =
    let yes = le-leb (at + line_length) (length out) room in
    let long : length bytes ≡ length text = rw e refl in
    (rw (yes, ← long) f, rw (yes, g, e, drop-drop (length text) at out, append_assoc (take at out) text (drop (at + length text) out)) refl)

-- where there is room, the text is put
pub put-end : (at : ℕ) (text out : List ℕ) (end : ℕ) → at + line_length ≤ length out → end ≡ put_end at text out → end ≡ at + length text
put-end at text out end room e = rw (le-leb (at + line_length) (length out) room) at e

pub put_all : (at : ℕ) (text out after : List ℕ) (end : ℕ) → at + line_length ≤ length out → end ≡ put_end at text out → after ≡ put_at at text out → after ≡ take at out ++ text ++ drop end out
put_all at text out after end room e f =
    let whole : after ≡ take at out ++ text ++ drop (at + length text) out = rw (le-leb (at + line_length) (length out) room) at f in
    rw (put-end at text out end room e) whole
