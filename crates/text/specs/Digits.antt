-- To be believed. Document 01, "The script program": "lower-case hexadecimal digits" and their values, with no arithmetic. The digits stand in a row.
use Rattle.std.specs.Prelude.{ℕ, suc, cond, List, [], ◌∷◌, eqb, get_or, Option, Some, None}
use Rattle.text.specs.Ascii.{bytes}

-- in the order of their values, 0 to 15
abbrev pub hex_digits : List ℕ
hex_digits = bytes "0123456789abcdef"

-- where b stands in a row whose places are counted from i
unfoldable pub place_from : ℕ → List ℕ → ℕ → Option ℕ
place_from i [] b = None
place_from i (c ∷ cs) b = cond (eqb b c) (Some i) (place_from (suc i) cs b)

-- the value of a byte: where it stands among the digits; one that does not stand there, such as an upper-case letter, is no digit
unfoldable pub hex_digit : ℕ → Option ℕ
hex_digit b = place_from 0 hex_digits b

-- the digit of a value below 16: the one that stands there
unfoldable pub hex_glyph : ℕ → ℕ
hex_glyph d = get_or hex_digits d 0
