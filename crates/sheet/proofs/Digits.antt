-- No byte but `0` to `9` and `a` to `f` is a hexadecimal digit.
use Rattle.std.specs.Prelude.{None}
use Prim.Native.Nat.{ℕ, ◌<◌, ◌≤◌}
use Prim.Native.Char.{code}
use mathlib.Core.Path.{◌≡◌, refl}
use mathlib.Core.Bool.{Bool, true, false}
use native.Mathlib.Nat.{lt_of_not-le}
use borrow.Author.Tests.{ltb-true, ltb-false}
use lib.Dec.{ltb}
use Rattle.text.specs.Digits.{hex_digit}
use Rattle.text.proofs.Hexadecimals.{hex-below_0, hex-between, hex-above_f}

pub hex-other : (b : ℕ) → b < 256 → (code "0" ≤ b → b ≤ code "9" → ⊥) → (code "a" ≤ b → b ≤ code "f" → ⊥) → hex_digit b ≡ None
hex-other b h d l = at (ltb b 48) (ltb b 97) refl refl
  where
    at : (t u : Bool) → ltb b 48 ≡ t → ltb b 97 ≡ u → hex_digit b ≡ None
    at true u e f = hex-below_0 b (ltb-true b 48 e)
    at false true e f = hex-between b (lt_of_not-le (d (ltb-false b 48 e))) (ltb-true b 97 f)
    at false false e f = hex-above_f b (lt_of_not-le (l (ltb-false b 97 f))) h
