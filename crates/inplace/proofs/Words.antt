-- Words and numbers of 64 bits in a list of bytes.
use Prim.Native.Nat.{ℕ, ◌+◌, ◌*◌, ◌≤◌, ◌<◌, ◌^◌}
use mathlib.Core.Path.{◌≡◌, refl, sym, ap, ◌∙◌}
use mathlib.Core.List.{List}
use native.Mathlib.Omega.{arith}
use lib.ListN.{length, drop}
use lib.Seq.{get_or-take, get_or-drop}
use mir.Syntax.{w8}
use mir.Val.{Fits}
use Rattle.wire.specs.Reading.{byte, word_of, long_of}
use Rattle.wire.specs.Writing.{word_bytes, long_bytes}
use Rattle.records.specs.Layout.{part}

-- a word is made of the first four bytes
word-by : (l t : List ℕ) (at : ℕ) → ((k : ℕ) → k < 4 → byte l k ≡ byte t (at + k)) → word_of l ≡ byte t at + 256 * byte t (at + 1) + 65536 * byte t (at + 2) + 16777216 * byte t (at + 3)
unfolding word_of
word-by l t at e =
    let first : byte l 0 ≡ byte t at = e 0 (omega arith) ∙ ap (byte t) (omega arith) in
    rw (first, e 1 (omega arith), e 2 (omega arith), e 3 (omega arith))

-- the word at the front of a part of four bytes or more
pub word_in : (t : List ℕ) (at n : ℕ) → 4 ≤ n → word_of (part t at n) ≡ byte t at + 256 * byte t (at + 1) + 65536 * byte t (at + 2) + 16777216 * byte t (at + 3)
word_in t at n h = word-by (part t at n) t at (λ k i. get_or-take n (drop at t) k 0 (omega arith) ∙ get_or-drop at t k 0)

-- the word behind it
word-behind : (t : List ℕ) (at : ℕ) → word_of (drop 4 (part t at 8)) ≡ word_of (part t (at + 4) 4)
word-behind t at =
    word-by (drop 4 (part t at 8)) t (at + 4) (λ k i. get_or-drop 4 (part t at 8) k 0 ∙ get_or-take 8 (drop at t) (4 + k) 0 (omega arith) ∙ get_or-drop at t (4 + k) 0 ∙ ap (byte t) (omega arith))
    ∙ sym (word_in t (at + 4) 4 (omega arith))

-- a number of 64 bits is two words
pub long_in : (t : List ℕ) (at : ℕ) → long_of (part t at 8) ≡ word_of (part t at 4) + 4294967296 * word_of (part t (at + 4) 4)
unfolding long_of
long_in t at = rw (word-behind t at, word_in t at 8 (omega arith), word_in t at 4 (omega arith))

-- a word of bytes has 32 bits
pub word-most : (t : List ℕ) (at : ℕ) → ((k : ℕ) → Fits w8 (byte t k)) → word_of (part t at 4) < 2 ^ 32
word-most t at small = omega (arith, word_in t at 4 (omega arith), small at, small (at + 1), small (at + 2), small (at + 3))

pub long-length : (x : ℕ) → length (long_bytes x) ≡ 8
unfolding long_bytes word_bytes
long-length x = refl
