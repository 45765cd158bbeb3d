-- What reading and writing hexadecimal digits needs of their definitions.
use Rattle.std.specs.Prelude.{Option, Some, None}
use Prim.Native.Nat.{ℕ, zero, suc, ◌+◌, ◌-◌, ◌*◌, ◌^◌, ◌<◌, ◌≤◌}
use Prim.Native.Char.{code}
use mathlib.Core.Path.{◌≡◌, refl, sym, ◌∙◌, ap, subst}
use mathlib.Core.Bool.{Bool, true, false, cond}
use mathlib.Core.List.{List, [], ◌∷◌, ◌++◌, map}
use Rattle.std.proofs.lemmas.Option.{same_Some, none-some}
use native.Mathlib.Omega.{arith}
use native.Mathlib.Nat.{pow-suc, pow-le-pow_right}
use native.Mathlib.Numerals.{add-one}
use borrow.Author.Tests.{eq-eqb, ne_eqb}
use lib.Dec.{eqb}
use lib.ListN.{length, get_or, drop, drop_of_length-le}
use lib.Seq.{drop-cons}
use Rattle.text.specs.Types.{◌>>=◌}
use Rattle.text.specs.Ascii.{bytes}
use Rattle.text.specs.Digits.{hex_digits, place_from, hex_digit, hex_glyph}
use Rattle.text.specs.Reading.{hex_from, hex_word}
use Rattle.text.specs.Claims.{numbers_from}

-- ---- a row computed for k numbers from n on says it of each of them
each : {A : Type 0} (f g : ℕ → A) (n k i b : ℕ) → map f (numbers_from n k) ≡ map g (numbers_from n k) → i < k → n + i ≡ b → f b ≡ g b
unfolding numbers_from
each f g n zero i b e h q = absurd (omega arith)
each f g n (suc k) zero b e h q =
    let first : n ≡ b = omega arith in
    subst (λ (c : ℕ). f c ≡ g c) first (ap (λ (l : List _). get_or l 0 (f n)) e)
each f g n (suc k) (suc i) b e h q = each f g (suc n) k i b (ap (drop 1) e) (omega arith) (omega arith)

-- ---- one digit, worked out
pub hex-decimal : (b : ℕ) → code "0" ≤ b → b ≤ code "9" → hex_digit b ≡ Some (b - code "0")
unfolding numbers_from bytes place_from hex_digit
hex-decimal b l h = each hex_digit (λ e. Some (e - code "0")) (code "0") 10 (b - code "0") b refl (omega arith) (omega arith)

pub hex-letter : (b : ℕ) → code "a" ≤ b → b ≤ code "f" → hex_digit b ≡ Some (b - code "a" + 10)
unfolding numbers_from bytes place_from hex_digit
hex-letter b l h = each hex_digit (λ e. Some (e - code "a" + 10)) (code "a") 6 (b - code "a") b refl (omega arith) (omega arith)

-- the bytes below the digits, between them and the letters, and above
pub hex-below_0 : (b : ℕ) → b < code "0" → hex_digit b ≡ None
unfolding numbers_from bytes place_from hex_digit
hex-below_0 b h = each hex_digit (λ _. None) 0 48 b b refl (omega arith) (omega arith)

pub hex-between : (b : ℕ) → code "9" < b → b < code "a" → hex_digit b ≡ None
unfolding numbers_from bytes place_from hex_digit
hex-between b l h = each hex_digit (λ _. None) 58 39 (b - 58) b refl (omega arith) (omega arith)

pub hex-above_f : (b : ℕ) → code "f" < b → b < 256 → hex_digit b ≡ None
unfolding numbers_from bytes place_from hex_digit
hex-above_f b l h = each hex_digit (λ _. None) 103 153 (b - 103) b refl (omega arith) (omega arith)

pub ruleset hex_values = (hex-decimal, hex-letter, hex-below_0, hex-between, hex-above_f)

pub glyph_decimal : (d : ℕ) → d < 10 → hex_glyph d ≡ code "0" + d
unfolding numbers_from bytes hex_glyph
glyph_decimal d h = each hex_glyph (λ e. code "0" + e) 0 10 d d refl h (omega arith)

pub glyph-letter : (d : ℕ) → 10 ≤ d → d < 16 → hex_glyph d ≡ code "a" + (d - 10)
unfolding numbers_from bytes hex_glyph
glyph-letter d l h = each hex_glyph (λ e. code "a" + (e - 10)) 10 6 (d - 10) d refl (omega arith) (omega arith)

pub ruleset glyphs = (glyph_decimal, glyph-letter)

pub glyph-back : (d : ℕ) → d < 16 → hex_digit (hex_glyph d) ≡ Some d
unfolding numbers_from bytes place_from hex_digit hex_glyph
glyph-back d h = each (λ e. hex_digit (hex_glyph e)) Some 0 16 d d refl h (omega arith)

-- ---- the place in a row is below its length
place-below : (i b d : ℕ) (row : List ℕ) → place_from i row b ≡ Some d → d < i + length row
unfolding place_from
place-below i b d [] e = absurd (none-some d e)
place-below i b d (c ∷ row) e = at (eqb b c) (place-below (suc i) b d row) e
  where
    at : (t : Bool) → (place_from (suc i) row b ≡ Some d → d < suc i + length row)
        → cond t (Some i) (place_from (suc i) row b) ≡ Some d → d < i + suc (length row)
    at true later e = omega (arith, same_Some i d e)
    at false later e = omega (arith, later e)

pub hex-below : (b d : ℕ) → hex_digit b ≡ Some d → d < 16
unfolding bytes hex_digit
hex-below b d e = place-below 0 b d hex_digits e

-- ---- the digits from index i on
hex-from : (a b : ℕ) (bs : List ℕ) (o : Option ℕ) → hex_digit b ≡ o → hex_from a (b ∷ bs) ≡ ◌>>=◌ o (λ d. hex_from (a * 16 + d) bs)
unfolding hex_from
hex-from a b bs o e = rw e

pub hex-next : (l : List ℕ) (i a d : ℕ) → i < length l → hex_digit (get_or l i 0) ≡ Some d
    → hex_from a (drop i l) ≡ hex_from (a * 16 + d) (drop (i + 1) l)
hex-next l i a d h e =
    ap (hex_from a) (drop-cons l i 0 h)
    ∙ hex-from a (get_or l i 0) (drop (suc i) l) (Some d) e
    ∙ ap (λ (j : ℕ). hex_from (a * 16 + d) (drop j l)) (sym (add-one i))

pub hex-missing : (l : List ℕ) (i a : ℕ) → i < length l → hex_digit (get_or l i 0) ≡ None → hex_from a (drop i l) ≡ None
hex-missing l i a h e = ap (hex_from a) (drop-cons l i 0 h) ∙ hex-from a (get_or l i 0) (drop (suc i) l) None e

pub hex-end : (l : List ℕ) (i a : ℕ) → length l ≤ i → hex_from a (drop i l) ≡ Some a
unfolding hex_from
hex-end l i a h = ap (hex_from a) (drop_of_length-le l h)

-- ---- a byte that is no digit
bind-none : (o : Option ℕ) (f : ℕ → Option ℕ) → ((d : ℕ) → f d ≡ None) → ◌>>=◌ o f ≡ None
bind-none None f h = refl
bind-none (Some d) f h = h d

hex-spoilt : (a b : ℕ) (before after : List ℕ) → hex_digit b ≡ None → hex_from a (before ++ b ∷ after) ≡ None
unfolding hex_from
hex-spoilt a b [] after e = hex-from a b after None e
hex-spoilt a b (c ∷ before) after e =
    bind-none (hex_digit c) (λ d. hex_from (a * 16 + d) (before ++ b ∷ after)) (λ d. hex-spoilt (a * 16 + d) b before after e)

pub word-spoilt : (b : ℕ) (before after : List ℕ) → hex_digit b ≡ None → hex_word (before ++ b ∷ after) ≡ None
unfolding hex_word
word-spoilt b before after e = at (eqb (length (before ++ b ∷ after)) 8)
  where
    at : (t : Bool) → cond t (hex_from 0 (before ++ b ∷ after)) None ≡ None
    at true = hex-spoilt 0 b before after e
    at false = refl

-- ---- eight digits, and that 32 bits hold them
pub word-length : (l : List ℕ) → length l ≡ 8 → hex_word l ≡ hex_from 0 l
unfolding hex_word
word-length l e = rw (eq-eqb (length l) 8 e) refl

pub word-other : (l : List ℕ) → (length l ≡ 8 → ⊥) → hex_word l ≡ None
unfolding hex_word
word-other l e = rw (ne_eqb (length l) 8 e) refl

pub power-next : (i : ℕ) → 16 ^ (i + 1) ≡ 16 ^ i * 16
power-next i = ap (λ (j : ℕ). 16 ^ j) (add-one i) ∙ pow-suc 16 i

pub power_small : (i : ℕ) → i < 8 → 16 ^ i ≤ 268435456
power_small i h = pow-le-pow_right {n = 16} (omega arith) {i = i} {j = 7} (omega arith)

pub ruleset words = (word-other, word-length, hex-below, hex-next, hex-missing, hex-end, power-next, power_small)
