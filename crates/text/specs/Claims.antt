-- To be believed. Document 01, "The script program": the ends of its numbers, and that what is printed is read back. Document 02, CR 4: hexadecimal digits.
-- The functions `edge_cases`, `read_back`, `byte_values` and `value_digits` carry these claims.
use Rattle.std.specs.Prelude.{ℕ, zero, suc, ◌<◌, ◌≤◌, ◌≡◌, List, [], ◌∷◌, ◌++◌, map, replicate, ℤ, pos, neg_ℤ, Some, None}
use Rattle.std.specs.Int.{w32}
use Rattle.std.proofs.Common.{SFits}
use Rattle.text.specs.Ascii.{bytes}
use Rattle.text.specs.Digits.{hex_digit, hex_glyph}
use Rattle.text.specs.Reading.{decimal, byte_number, whole, hex_word}
use Rattle.text.specs.Writing.{decimal_text, whole_text, hex_text}

pub record EdgeCases : Type 0 where
  -- "decimal, 0 to 255, no leading zeros"
  pub zero_read : byte_number (bytes "0") ≡ Some 0
  pub last_read : byte_number (bytes "255") ≡ Some 255
  pub too_large : byte_number (bytes "256") ≡ None
  pub no_digits : byte_number (bytes "") ≡ None
  pub zeros_in_front : byte_number (bytes "007") ≡ None
  pub two_zeros : byte_number (bytes "00") ≡ None
  pub minus_byte : byte_number (bytes "-1") ≡ None
  -- "a decimal of 32 bits signed, with `-` if negative, without `+`, leading zeros or `-0`"
  pub whole_zero : whole (bytes "0") ≡ Some (pos 0)
  pub largest : whole (bytes "2147483647") ≡ Some (pos 2147483647)
  pub above_largest : whole (bytes "2147483648") ≡ None
  pub least : whole (bytes "-2147483648") ≡ Some (neg_ℤ (pos 2147483648))
  pub below_least : whole (bytes "-2147483649") ≡ None
  pub minus_zero : whole (bytes "-0") ≡ None
  pub minus_alone : whole (bytes "-") ≡ None
  pub whole_empty : whole (bytes "") ≡ None
  pub whole_zeros : whole (bytes "007") ≡ None
  pub minus_zeros : whole (bytes "-01") ≡ None
  pub plus_sign : whole (bytes "+1") ≡ None
  pub least_printed : whole_text (neg_ℤ (pos 2147483648)) ≡ bytes "-2147483648"
  -- numbers of up to 64 bits: the first that 32 bits do not hold, the last of nineteen digits, the first of twenty, the last
  pub past_word : decimal_text 4294967296 ≡ bytes "4294967296"
  pub nineteen_digits : decimal_text 9999999999999999999 ≡ bytes "9999999999999999999"
  pub twenty_digits : decimal_text 10000000000000000000 ≡ bytes "10000000000000000000"
  pub last_printed : decimal_text 18446744073709551615 ≡ bytes "18446744073709551615"
  -- "eight lower-case hexadecimal digits"
  pub hex_read : hex_word (bytes "40970a3d") ≡ Some 0x40970a3d
  pub hex_largest : hex_word (bytes "ffffffff") ≡ Some 4294967295
  pub upper_case : hex_word (bytes "40970A3d") ≡ None
  pub seven_digits : hex_word (bytes "4097a3d") ≡ None
  pub nine_digits : hex_word (bytes "040970a3d") ≡ None
  pub hex_printed : hex_text 0 ≡ bytes "00000000"

-- what is printed is read back
pub record ReadBack : Type 0 where
  pub decimals : (n : ℕ) → n ≤ 18446744073709551615 → decimal (decimal_text n) ≡ Some n
  pub byte_numbers : (n : ℕ) → n ≤ 255 → byte_number (decimal_text n) ≡ Some n
  pub wholes : (x : ℤ) → SFits w32 x → whole (whole_text x) ≡ Some x
  pub hex_words : (n : ℕ) → n < 4294967296 → hex_word (hex_text n) ≡ Some n

-- k numbers from n on
unfoldable pub numbers_from : ℕ → ℕ → List ℕ
numbers_from n zero = []
numbers_from n (suc k) = n ∷ numbers_from (suc n) k

-- CR 4: "each of the 256 bytes gives its value or is no digit, as document 01's form has it": by the bytes' numbers, 48 to 57 for `0` to `9` and 97 to 102
-- for `a` to `f`
pub record ByteValues : Type 0 where
  pub each_byte : map hex_digit (numbers_from 0 256)
      ≡ replicate 48 None ++ map Some (numbers_from 0 10) ++ replicate 39 None ++ map Some (numbers_from 10 6) ++ replicate 153 None
  -- "lower-case"
  pub upper_case : map hex_digit (bytes "ABCDEF") ≡ replicate 6 None
  -- a byte that is no digit spoils the word, wherever it stands
  pub spoils : (b : ℕ) (before after : List ℕ) → hex_digit b ≡ None → hex_word (before ++ b ∷ after) ≡ None

-- CR 4: "each value 0 to 15 gives its digit"
pub record ValueDigits : Type 0 where
  pub each_value : map hex_glyph (numbers_from 0 16) ≡ numbers_from 48 10 ++ numbers_from 97 6
  -- a digit has the value that it was written for
  pub back : (d : ℕ) → d < 16 → hex_digit (hex_glyph d) ≡ Some d
