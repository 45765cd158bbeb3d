-- To be believed. Document 01, "The script program": the numbers that bytes spell. `None` where they spell none: the line is malformed.
use Rattle.std.specs.Prelude.{ℕ, ◌+◌, ◌-◌, ◌*◌, Bool, cond, ◌&&◌, List, [], ◌∷◌, length, ltb, leb, eqb, ℤ, pos, neg_ℤ, Option, Some, None}
use Prim.Native.Char.{code}
use Rattle.text.specs.Types.{◌>>=◌}
use Rattle.text.specs.Digits.{hex_digit}

abbrev pub is_digit : ℕ → Bool
is_digit b = leb (code "0") b && leb b (code "9")

-- the number that decimal digits spell, after digits that spell a
unfoldable pub decimal_from : ℕ → List ℕ → Option ℕ
decimal_from a [] = Some a
decimal_from a (b ∷ bs) = cond (is_digit b) (decimal_from (a * 10 + (b - code "0")) bs) None

-- "decimal, .. no leading zeros": one digit or more, and no 0 before others
unfoldable pub decimal : List ℕ → Option ℕ
decimal [] = None
decimal (b ∷ []) = decimal_from 0 (b ∷ [])
decimal (b ∷ c ∷ cs) = cond (eqb b (code "0")) None (decimal_from 0 (b ∷ c ∷ cs))

-- a, where a test holds
abbrev pub provided : {A : Type 0} → Bool → A → Option A
provided holds a = cond holds (Some a) None

-- "decimal, 0 to 255, no leading zeros"
unfoldable pub byte_number : List ℕ → Option ℕ
byte_number bs = do
  n ← decimal bs
  provided (leb n 255) n

-- "a decimal of 32 bits signed, with `-` if negative, without `+`, leading zeros or `-0`"
unfoldable pub whole : List ℕ → Option ℤ
whole [] = None
whole (b ∷ bs) = cond (eqb b (code "-"))
    (do
      n ← decimal bs
      provided (ltb 0 n && leb n 2147483648) (neg_ℤ (pos n)))
    (do
      n ← decimal (b ∷ bs)
      provided (leb n 2147483647) (pos n))

-- the number that hexadecimal digits spell, after digits that spell a
unfoldable pub hex_from : ℕ → List ℕ → Option ℕ
hex_from a [] = Some a
hex_from a (b ∷ bs) = do
  d ← hex_digit b
  hex_from (a * 16 + d) bs

-- "eight lower-case hexadecimal digits"
unfoldable pub hex_word : List ℕ → Option ℕ
hex_word bs = cond (eqb (length bs) 8) (hex_from 0 bs) None
