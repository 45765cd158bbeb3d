-- What reading decimal digits one after the other needs of their definition.
use Rattle.std.specs.Prelude.{Option, Some, None, Result, Ok, Err, ℤ, pos}
use Rattle.std.specs.Int.{FitsUnsignedBits}
use Rattle.std.proofs.Common.{FitsSigned, w32}
use Rattle.std.specs.Result.{OkIff, result_ok}
use Prim.Native.Nat.{ℕ, suc, ◌+◌, ◌-◌, ◌*◌, ◌<◌, ◌≤◌}
use Prim.Native.Char.{code}
use mathlib.Core.Path.{◌≡◌, refl, sym, ◌∙◌, ap}
use mathlib.Core.Bool.{Bool, true, false, cond}
use mathlib.Core.List.{List, [], ◌∷◌}
use Rattle.std.proofs.lemmas.Option.{none-some}
use native.Mathlib.Omega.{arith}
use native.Mathlib.Numerals.{add-one}
use borrow.Author.Tests.{le-leb, lt-leb, eq-eqb, ne_eqb, leb-false, lt-ltb}
use lib.Dec.{leb}
use lib.ListN.{length, get_or, take, drop, drop_of_length-le, length-drop}
use lib.Seq.{drop-cons, take_all}
use Rattle.text.specs.Types.{◌>>=◌}
use Rattle.text.specs.Reading.{is_digit, decimal_from, decimal, provided, byte_number, whole}
use Rattle.text.specs.Private.{in_word, positive_of, negative_of}
use Rattle.text.proofs.Integers.{positive-checked}

-- ---- one digit
from-digit : (a b : ℕ) (bs : List ℕ) → is_digit b ≡ true → decimal_from a (b ∷ bs) ≡ decimal_from (a * 10 + (b - code "0")) bs
unfolding decimal_from
from-digit a b bs e = rw e

from-other : (a b : ℕ) (bs : List ℕ) → is_digit b ≡ false → decimal_from a (b ∷ bs) ≡ None
unfolding decimal_from
from-other a b bs e = rw e

-- ---- the bound of 32 bits
-- more digits never make a number smaller
too-large-at : (a b : ℕ) (bs : List ℕ) (t : Bool) → in_word (decimal_from (a * 10 + (b - code "0")) bs) ≡ None
    → in_word (cond t (decimal_from (a * 10 + (b - code "0")) bs) None) ≡ None
unfolding in_word
too-large-at a b bs true e = e
too-large-at a b bs false e = refl

pub too_large-in_word : (a : ℕ) (l : List ℕ) → 4294967295 < a → in_word (decimal_from a l) ≡ None
unfolding decimal_from in_word
too_large-in_word a [] h = rw (lt-leb a 4294967295 h) refl
too_large-in_word a (b ∷ bs) h = too-large-at a b bs (is_digit b) (too_large-in_word (a * 10 + (b - code "0")) bs (omega arith))

pub in-word : (a : ℕ) → a ≤ 4294967295 → in_word (Some a) ≡ Some a
unfolding in_word
in-word a h = rw (le-leb a 4294967295 h) refl

-- where nothing was read
pub word-none : in_word None ≡ None
unfolding in_word
word-none = refl

-- ---- the digits from index i on
module _ (l : List ℕ) (i a : ℕ) where
  pub digit-next : i < length l → is_digit (get_or l i 0) ≡ true
      → in_word (decimal_from a (drop i l)) ≡ in_word (decimal_from (a * 10 + (get_or l i 0 - code "0")) (drop (i + 1) l))
  digit-next h e = rw (drop-cons l i 0 h, add-one) (ap in_word (from-digit a (get_or l i 0) (drop (suc i) l) e))

  pub digit-missing : i < length l → is_digit (get_or l i 0) ≡ false → in_word (decimal_from a (drop i l)) ≡ None
  digit-missing h e = rw (drop-cons l i 0 h) (ap in_word (from-other a (get_or l i 0) (drop (suc i) l) e) ∙ word-none)

  pub digits-end : length l ≤ i → a ≤ 4294967295 → in_word (decimal_from a (drop i l)) ≡ Some a
  unfolding decimal_from
  digits-end h k = rw (drop_of_length-le l h) (in-word a k)

pub ruleset digits = (digit-next, digit-missing, digits-end, too_large-in_word)

-- where a narrower bound follows, the one of 32 bits changes nothing
module _ {A : Type 0} (k : ℕ → Option A) (narrow : (n : ℕ) → 4294967295 < n → k n ≡ None) where
  bounded_at : (n : ℕ) (t : Bool) → leb n 4294967295 ≡ t → ◌>>=◌ (cond t (Some n) None) k ≡ k n
  bounded_at n true e = refl
  bounded_at n false e = sym (narrow n (leb-false n 4294967295 e))

  bounded : (o : Option ℕ) → ◌>>=◌ (in_word o) k ≡ ◌>>=◌ o k
  unfolding in_word
  bounded None = refl
  bounded (Some n) = bounded_at n (leb n 4294967295) refl

-- ---- a text whole: none, one byte, more
pub decimal-empty : (l : List ℕ) → length l ≡ 0 → decimal l ≡ None
unfolding decimal
decimal-empty [] e = refl
decimal-empty (b ∷ bs) e = absurd (omega arith)

pub decimal-zero : (l : List ℕ) → 1 < length l → get_or l 0 0 ≡ code "0" → decimal l ≡ None
unfolding decimal
decimal-zero [] h e = absurd (omega arith)
decimal-zero (b ∷ []) h e = absurd (omega arith)
decimal-zero (b ∷ d ∷ ds) h e = rw (eq-eqb b (code "0") e) refl

pub decimal-one : (l : List ℕ) → 0 < length l → length l ≤ 1 → decimal l ≡ decimal_from 0 l
unfolding decimal
decimal-one [] h k = absurd (omega arith)
decimal-one (b ∷ []) h k = refl
decimal-one (b ∷ d ∷ ds) h k = absurd (omega arith)

pub decimal-more : (l : List ℕ) → 0 < length l → (get_or l 0 0 ≡ code "0" → ⊥) → decimal l ≡ decimal_from 0 l
unfolding decimal
decimal-more [] h k = absurd (omega arith)
decimal-more (b ∷ []) h k = refl
decimal-more (b ∷ d ∷ ds) h k = rw (ne_eqb b (code "0") k) refl

pub ruleset decimals = (word-none, decimal-empty, decimal-zero, decimal-one, decimal-more)

-- ---- the numbers of a script, from a decimal of 32 bits
pub byte-number-of : (l : List ℕ) → byte_number l ≡ ◌>>=◌ (in_word (decimal l)) (λ n. provided (leb n 255) n)
unfolding byte_number
byte-number-of l = sym (bounded (λ n. provided (leb n 255) n) (λ n h. rw (lt-leb n 255 (omega arith))) (decimal l))

pub byte-number-none : (l : List ℕ) → in_word (decimal l) ≡ None → byte_number l ≡ None
byte-number-none l e = rw (byte-number-of l, e)

pub byte-number-some : {E : Type 0} (l : List ℕ) (n : ℕ) (o : Option ℕ) (r : Result ℕ E) → in_word (decimal l) ≡ Some n → OkIff r (FitsUnsignedBits 8 (pos n)) n
    → o ≡ result_ok r → o ≡ byte_number l
byte-number-some l n o (Ok x) e h k = rw (k, byte-number-of l, e, le-leb n 255 (omega arith)) (ap Some h.1)
byte-number-some l n o (Err x) e h k = rw (k, byte-number-of l, e, lt-leb n 255 (omega arith))

pub ruleset byte_numbers = (byte-number-none, byte-number-some)

pub whole-empty : (l : List ℕ) → length l ≡ 0 → whole l ≡ None
unfolding whole
whole-empty [] e = refl
whole-empty (b ∷ bs) e = absurd (omega arith)

pub whole-minus : (l : List ℕ) → 0 < length l → get_or l 0 0 ≡ code "-" → whole l ≡ ◌>>=◌ (in_word (decimal (drop 1 l))) negative_of
unfolding whole negative_of
whole-minus [] h e = absurd (omega arith)
whole-minus (b ∷ bs) h e =
    rw (eq-eqb b (code "-") e) (sym (bounded negative_of (λ n g. rw (lt-ltb 0 n (omega arith), lt-leb n 2147483648 (omega arith))) (decimal bs)))

pub whole-plus : (l : List ℕ) → 0 < length l → (get_or l 0 0 ≡ code "-" → ⊥) → whole l ≡ ◌>>=◌ (in_word (decimal l)) positive_of
unfolding whole positive_of
whole-plus [] h e = absurd (omega arith)
whole-plus (b ∷ bs) h e =
    rw (ne_eqb b (code "-") e) (sym (bounded positive_of (λ n g. rw (lt-leb n 2147483647 (omega arith))) (decimal (b ∷ bs))))

-- by what was read: of the bytes after `-`, and of all bytes
module _ (l : List ℕ) where
  pub minus-none : 0 < length l → get_or l 0 0 ≡ code "-" → in_word (decimal (take (length l - 1) (drop 1 l))) ≡ None → whole l ≡ None
  minus-none h e r = rw (whole-minus l h e, ← take_all (length l - 1) (drop 1 l) (omega (arith, length-drop 1 l)), r)

  pub minus-some : (n : ℕ) (o : Option ℤ) → 0 < length l → get_or l 0 0 ≡ code "-" → in_word (decimal (take (length l - 1) (drop 1 l))) ≡ Some n
      → o ≡ negative_of n → o ≡ whole l
  minus-some n o h e r k = rw (whole-minus l h e, ← take_all (length l - 1) (drop 1 l) (omega (arith, length-drop 1 l)), r) k

  pub plus-none : (get_or l 0 0 ≡ code "-" → ⊥) → in_word (decimal l) ≡ None → whole l ≡ None
  plus-none e r = at l refl
    where
      at : (l' : List ℕ) → l' ≡ l → whole l ≡ None
      at [] q = whole-empty l (ap length (sym q))
      at (b ∷ bs) q = rw (whole-plus l (omega (arith, ap length q)) e, r)

  pub plus-some : {E : Type 0} (n : ℕ) (o : Option ℤ) (r : Result ℤ E) → (get_or l 0 0 ≡ code "-" → ⊥) → in_word (decimal l) ≡ Some n
      → OkIff r (FitsSigned w32 (pos n)) (pos n) → o ≡ result_ok r → o ≡ whole l
  plus-some n o r e q h k = k ∙ positive-checked n r h ∙ at l refl
    where
      at : (l' : List ℕ) → l' ≡ l → positive_of n ≡ whole l
      at [] z = absurd (none-some n (sym (ap in_word (decimal-empty l (ap length (sym z))) ∙ word-none) ∙ q))
      at (b ∷ bs) z = rw (whole-plus l (omega (arith, ap length z)) e, q)

pub ruleset wholes = (minus-none, minus-some, plus-none, plus-some)
