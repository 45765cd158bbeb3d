-- To be believed. Document 01, "The script program": numbers as the program prints them.
use Rattle.std.specs.Prelude.{ℕ, zero, suc, ◌+◌, ◌/◌, ◌%◌, cond, List, [], ◌∷◌, ◌++◌, ltb, ℤ, pos, nat_abs, take}
use Prim.Native.Char.{code}
use Rattle.std.specs.Int.Signed.{lt_z}
use Rattle.text.specs.declared.Text.{Text}
use Rattle.text.specs.Digits.{hex_glyph}

-- the bytes that a text holds
unfoldable pub shown : Text → List ℕ
shown t = take t.length t.bytes

-- the most bytes of a printed line
abbrev pub line_length : ℕ
line_length = 64

-- what a text keeps of a list of bytes
unfoldable pub capped : List ℕ → List ℕ
capped bs = take line_length bs

-- n in decimal without leading zeros; k is one less than the most digits that are written
unfoldable pub decimal_up_to : ℕ → ℕ → List ℕ
decimal_up_to zero n = (code "0" + n % 10) ∷ []
decimal_up_to (suc k) n = cond (ltb n 10) ((code "0" + n) ∷ []) (decimal_up_to k (n / 10) ++ (code "0" + n % 10) ∷ [])

-- twenty digits are enough for each number of 64 bits
abbrev pub decimal_text : ℕ → List ℕ
decimal_text n = decimal_up_to 19 n

-- "with `-` if negative, without `+`"
unfoldable pub whole_text : ℤ → List ℕ
whole_text x = cond (lt_z x (pos 0)) (code "-" ∷ decimal_text (nat_abs x)) (decimal_text (nat_abs x))

-- the last k hexadecimal digits of n
unfoldable pub hex_up_to : ℕ → ℕ → List ℕ
hex_up_to zero n = []
hex_up_to (suc k) n = hex_up_to k (n / 16) ++ hex_glyph (n % 16) ∷ []

-- "eight lower-case hexadecimal digits"
abbrev pub hex_text : ℕ → List ℕ
hex_text n = hex_up_to 8 n
