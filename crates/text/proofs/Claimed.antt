-- The tables of digits and the edge cases hold by computation, and what is printed is read back.
use mathlib.Core.Path.{refl}
use native.Mathlib.Omega.{arith}
use Rattle.text.specs.Ascii.{bytes}
use Rattle.text.specs.Digits.{place_from, hex_digit, hex_glyph}
use Rattle.text.specs.Reading.{decimal_from, decimal, byte_number, whole, hex_from, hex_word}
use Rattle.text.specs.Writing.{decimal_up_to, whole_text, hex_up_to}
use Rattle.text.specs.Claims.{numbers_from, EdgeCases, ReadBack, ByteValues, ValueDigits}
use Rattle.text.proofs.RoundTrips.{decimal-back, byte-number-back, whole_back, hex-word-back}
use Rattle.text.proofs.Hexadecimals.{glyph-back, word-spoilt}

pub byte-values-hold : ByteValues
unfolding bytes place_from hex_digit numbers_from
byte-values-hold = record { each_byte = refl; upper_case = refl; spoils = word-spoilt }

pub value-digits-hold : ValueDigits
unfolding bytes hex_glyph numbers_from
value-digits-hold = record { each_value = refl; back = glyph-back }

pub edge-cases-hold : EdgeCases
unfolding bytes place_from hex_digit hex_glyph decimal_from decimal byte_number whole hex_from hex_word decimal_up_to whole_text hex_up_to
edge-cases-hold = record {
  zero_read = refl;
  last_read = refl;
  too_large = refl;
  no_digits = refl;
  zeros_in_front = refl;
  two_zeros = refl;
  minus_byte = refl;
  whole_zero = refl;
  largest = refl;
  above_largest = refl;
  least = refl;
  below_least = refl;
  minus_zero = refl;
  minus_alone = refl;
  whole_empty = refl;
  whole_zeros = refl;
  minus_zeros = refl;
  plus_sign = refl;
  least_printed = refl;
  past_word = refl;
  nineteen_digits = refl;
  twenty_digits = refl;
  last_printed = refl;
  hex_read = refl;
  hex_largest = refl;
  upper_case = refl;
  seven_digits = refl;
  nine_digits = refl;
  hex_printed = refl;
}

pub read-back-holds : ReadBack
read-back-holds = record { decimals = λ n h. decimal-back n (omega arith); byte_numbers = byte-number-back; wholes = whole_back; hex_words = hex-word-back }

pub ruleset claims = (byte-values-hold, value-digits-hold, edge-cases-hold, read-back-holds)
