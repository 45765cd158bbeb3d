-- What is printed is read back: decimal, signed decimal and hexadecimal.
use Rattle.std.specs.Prelude.{Option, Some, None}
use Prim.Native.Nat.{ℕ, zero, suc, ◌+◌, ◌-◌, ◌*◌, ◌/◌, ◌%◌, ◌^◌, ◌<◌, ◌≤◌}
use Prim.Native.Char.{code}
use mathlib.Core.Path.{◌≡◌, refl, sym, ◌∙◌, ap}
use mathlib.Core.Bool.{Bool, true, false, cond}
use mathlib.Core.List.{List, [], ◌∷◌, ◌++◌}
use Rattle.std.proofs.lemmas.Option.{same_Some, none-some}
use native.Mathlib.Omega.{arith}
use native.Mathlib.Nat.{pow-suc}
use borrow.Author.Tests.{lt-ltb, le-ltb, le-leb, ltb-true, ltb-false}
use lib.Dec.{ltb}
use lib.IntN.{ℤ, pos, negsuc, neg_ℤ}
use lib.ListN.{length, get_or, get_or-append, length-append}
use mir.Syntax.{w32}
use mir.Val.{SFits}
use Rattle.text.specs.Types.{◌>>=◌}
use Rattle.text.specs.Digits.{hex_digit, hex_glyph}
use Rattle.text.specs.Reading.{is_digit, decimal_from, decimal, byte_number, whole, hex_from, hex_word}
use Rattle.text.specs.Private.{in_word, positive_of, negative_of}
use Rattle.text.specs.Writing.{decimal_up_to, decimal_text, whole_text, hex_up_to, hex_text}
use Rattle.text.proofs.Decimals.{decimal-more, in-word, whole-minus, whole-plus}
use Rattle.text.proofs.Hexadecimals.{glyph-back, word-length}
use Rattle.text.proofs.Printed.{whole_below, whole_above, hex-text-length}

-- ---- decimal: the value
digit-spelt : (d : ℕ) → d < 10 → is_digit (code "0" + d) ≡ true
digit-spelt d h = rw (le-leb (code "0") (code "0" + d) (omega arith), le-leb (code "0" + d) (code "9") (omega arith))

decimal-one : (a d : ℕ) → d < 10 → decimal_from a ((code "0" + d) ∷ []) ≡ Some (a * 10 + d)
unfolding decimal_from
decimal-one a d h = rw (digit-spelt d h) (ap (λ (n : ℕ). Some (a * 10 + n)) (omega arith))

-- a digit behind digits, by the test of their first byte
snoc-at : (m d : ℕ) (x y : Option ℕ) (t : Bool) → (x ≡ Some m → y ≡ Some (m * 10 + d)) → cond t x None ≡ Some m → cond t y None ≡ Some (m * 10 + d)
snoc-at m d x y true h e = h e
snoc-at m d x y false h e = absurd (none-some m e)

decimal-snoc : (a m d : ℕ) (l : List ℕ) → d < 10 → decimal_from a l ≡ Some m → decimal_from a (l ++ (code "0" + d) ∷ []) ≡ Some (m * 10 + d)
unfolding decimal_from
decimal-snoc a m d [] h e = decimal-one a d h ∙ ap (λ (n : ℕ). Some (n * 10 + d)) (same_Some a m e)
decimal-snoc a m d (b ∷ l) h e =
    let a' = a * 10 + (b - code "0") in
    snoc-at m d (decimal_from a' l) (decimal_from a' (l ++ (code "0" + d) ∷ [])) (is_digit b) (decimal-snoc a' m d l h) e

value-at : (n : ℕ) (l : List ℕ) (t : Bool) → ltb n 10 ≡ t → decimal_from 0 l ≡ Some (n / 10)
    → decimal_from 0 (cond t ((code "0" + n) ∷ []) (l ++ (code "0" + n % 10) ∷ [])) ≡ Some n
value-at n l true e h = decimal-one 0 n (ltb-true n 10 e) ∙ ap Some (omega arith)
value-at n l false e h = decimal-snoc 0 (n / 10) (n % 10) l (omega arith) h ∙ ap Some (omega arith)

value : (k n : ℕ) → n < 10 ^ suc k → decimal_from 0 (decimal_up_to k n) ≡ Some n
unfolding decimal_up_to
value zero n h = decimal-one 0 (n % 10) (omega arith) ∙ ap Some (omega arith)
value (suc k) n h = value-at n (decimal_up_to k (n / 10)) (ltb n 10) refl (value k (n / 10) (omega (arith, pow-suc 10 (suc k))))

-- ---- decimal: the first byte. It is a digit, and no 0 unless the number is 0 or has too many digits.
record Head (n limit : ℕ) (l : List ℕ) : Type 0 where
  there : 0 < length l
  digit : code "0" ≤ get_or l 0 0
  lead : 1 ≤ n → n < limit → get_or l 0 0 ≡ code "0" → ⊥

head_at : (n limit : ℕ) (l : List ℕ) (t : Bool) → ltb n 10 ≡ t → Head (n / 10) limit l
    → Head n (limit * 10) (cond t ((code "0" + n) ∷ []) (l ++ (code "0" + n % 10) ∷ []))
head_at n limit l true e h = record { there = omega arith; digit = omega arith; lead = λ a b z. omega arith }
head_at n limit l false e h =
    let more = ltb-false n 10 e in
    let same = get_or-append l ((code "0" + n % 10) ∷ []) 0 0 h.there in
    record {
      there = omega (arith, length-append l ((code "0" + n % 10) ∷ []), h.there);
      digit = omega (arith, same, h.digit);
      lead = λ o u z. h.lead (omega (arith, more)) (omega (arith, u)) (sym same ∙ z);
    }

head : (k n : ℕ) → Head n (10 ^ suc k) (decimal_up_to k n)
unfolding decimal_up_to
head zero n = record { there = omega arith; digit = omega arith; lead = λ a b e. omega arith }
head (suc k) n = rw (pow-suc 10 (suc k)) (head_at n (10 ^ suc k) (decimal_up_to k (n / 10)) (ltb n 10) refl (head k (n / 10)))

-- each number of as many digits as are printed
pub decimal-back : (n : ℕ) → n < 10 ^ 20 → decimal (decimal_text n) ≡ Some n
unfolding decimal_up_to decimal_from decimal
decimal-back zero h = refl
decimal-back (suc n) h =
    let first = head 19 (suc n) in
    decimal-more (decimal_text (suc n)) first.there (first.lead (omega arith) h) ∙ value 19 (suc n) h

-- ---- the numbers of a script
pub byte-number-back : (n : ℕ) → n ≤ 255 → byte_number (decimal_text n) ≡ Some n
unfolding byte_number
byte-number-back n h = rw (decimal-back n (omega arith), le-leb n 255 h)

positive_back : (n : ℕ) → n ≤ 2147483647 → ◌>>=◌ (in_word (decimal (decimal_text n))) positive_of ≡ Some (pos n)
unfolding positive_of
positive_back n h = rw (decimal-back n (omega arith), in-word n (omega arith), le-leb n 2147483647 h)

negative_back : (n : ℕ) → 0 < n → n ≤ 2147483648 → ◌>>=◌ (in_word (decimal (decimal_text n))) negative_of ≡ Some (neg_ℤ (pos n))
unfolding negative_of
negative_back n p h = rw (decimal-back n (omega arith), in-word n (omega arith), lt-ltb 0 n p, le-leb n 2147483648 h)

-- each signed 32-bit number
pub whole_back : (x : ℤ) → SFits w32 x → whole (whole_text x) ≡ Some x
whole_back (pos n) f =
    let b : n < 2147483648 = f.sfits in
    let first = head 19 n in
    ap whole (whole_above (pos n) (le-ltb n 0 (omega arith)))
    ∙ whole-plus (decimal_text n) first.there (λ e. omega (arith, first.digit, e))
    ∙ positive_back n (omega arith)
whole_back (negsuc n) f =
    let b : n < 2147483648 = f.sfits in
    ap whole (whole_below (negsuc n) refl)
    ∙ whole-minus (code "-" ∷ decimal_text (suc n)) (omega arith) refl
    ∙ negative_back (suc n) (omega arith) (omega arith)

-- ---- hexadecimal
hex-one : (a d : ℕ) → d < 16 → hex_from a (hex_glyph d ∷ []) ≡ Some (a * 16 + d)
unfolding hex_from
hex-one a d h = ap (λ (o : Option ℕ). ◌>>=◌ o (λ e. Some (a * 16 + e))) (glyph-back d h)

-- a digit behind digits, by what their first byte is
hex-snoc-at : (m n : ℕ) (f g : ℕ → Option ℕ) (o : Option ℕ) → ((e : ℕ) → f e ≡ Some m → g e ≡ Some n) → ◌>>=◌ o f ≡ Some m → ◌>>=◌ o g ≡ Some n
hex-snoc-at m n f g None h e = absurd (none-some m e)
hex-snoc-at m n f g (Some d) h e = h d e

hex-snoc : (a m d : ℕ) (l : List ℕ) → d < 16 → hex_from a l ≡ Some m → hex_from a (l ++ hex_glyph d ∷ []) ≡ Some (m * 16 + d)
unfolding hex_from
hex-snoc a m d [] h e = hex-one a d h ∙ ap (λ (n : ℕ). Some (n * 16 + d)) (same_Some a m e)
hex-snoc a m d (b ∷ l) h e =
    hex-snoc-at m (m * 16 + d) (λ v. hex_from (a * 16 + v) l) (λ v. hex_from (a * 16 + v) (l ++ hex_glyph d ∷ [])) (hex_digit b)
    (λ v. hex-snoc (a * 16 + v) m d l h) e

hex-value : (k n : ℕ) → n < 16 ^ k → hex_from 0 (hex_up_to k n) ≡ Some n
unfolding hex_up_to hex_from
hex-value zero n h = ap Some (omega arith)
hex-value (suc k) n h = hex-snoc 0 (n / 16) (n % 16) (hex_up_to k (n / 16)) (omega arith) (hex-value k (n / 16) (omega (arith, pow-suc 16 k))) ∙ ap Some (omega arith)

pub hex-word-back : (n : ℕ) → n < 4294967296 → hex_word (hex_text n) ≡ Some n
hex-word-back n h = word-length (hex_text n) (hex-text-length n) ∙ hex-value 8 n h
