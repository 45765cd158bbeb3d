-- What the printer needs of the texts of numbers.
use Prim.Native.Nat.{ℕ, zero, suc, ◌+◌, ◌-◌, ◌/◌, ◌%◌, ◌^◌, ◌<◌, ◌≤◌}
use Prim.Native.Char.{code}
use mathlib.Core.Path.{◌≡◌, refl, ap}
use mathlib.Core.Bool.{Bool, true, false, cond}
use mathlib.Core.List.{List, [], ◌∷◌, ◌++◌}
use native.Mathlib.Omega.{arith}
use native.Mathlib.Nat.{pow-suc}
use borrow.Author.Tests.{lt-ltb, le-ltb}
use lib.Dec.{ltb}
use lib.IntN.{ℤ, pos, nat_abs}
use lib.ListN.{length, length-append}
use lib.Signed.{lt_z}
use mir.Facts.{to_z-of_z}
use Rattle.text.specs.Digits.{hex_glyph}
use Rattle.text.specs.Writing.{decimal_up_to, decimal_text, whole_text, hex_up_to, hex_text}
use Rattle.text.proofs.Capped.{capped-then, capped-shown}
use Rattle.text.proofs.Hexadecimals.{glyph_decimal}

pub decimal-last : (k n : ℕ) → k ≡ 0 → decimal_up_to k n ≡ (code "0" + n % 10) ∷ []
unfolding decimal_up_to
decimal-last k n e = rw e refl

pub decimal-small : (k n : ℕ) → (k ≡ 0 → ⊥) → n < 10 → decimal_up_to k n ≡ (code "0" + n) ∷ []
unfolding decimal_up_to
decimal-small zero n e h = absurd (e refl)
decimal-small (suc k) n e h = rw (lt-ltb n 10 h) refl

less : (k : ℕ) → k ≡ suc k - 1
less k = omega arith

pub decimal-large : (k n : ℕ) → (k ≡ 0 → ⊥) → 10 ≤ n → decimal_up_to k n ≡ decimal_up_to (k - 1) (n / 10) ++ (code "0" + n % 10) ∷ []
unfolding decimal_up_to
decimal-large zero n e h = absurd (e refl)
decimal-large (suc k) n e h = rw (le-ltb n 10 h) (ap (λ (j : ℕ). decimal_up_to j (n / 10) ++ (code "0" + n % 10) ∷ []) (less k))

pub hex-none : (k n : ℕ) → k ≡ 0 → hex_up_to k n ≡ []
unfolding hex_up_to
hex-none k n e = rw e refl

pub hex-last : (k n : ℕ) → (k ≡ 0 → ⊥) → hex_up_to k n ≡ hex_up_to (k - 1) (n / 16) ++ hex_glyph (n % 16) ∷ []
unfolding hex_up_to
hex-last zero n e = absurd (e refl)
hex-last (suc k) n e = ap (λ (j : ℕ). hex_up_to j (n / 16) ++ hex_glyph (n % 16) ∷ []) (less k)

pub whole_below : (x : ℤ) → lt_z x (pos 0) ≡ true → whole_text x ≡ code "-" ∷ decimal_text (nat_abs x)
unfolding whole_text
whole_below x e = rw e

pub whole_above : (x : ℤ) → lt_z x (pos 0) ≡ false → whole_text x ≡ decimal_text (nat_abs x)
unfolding whole_text
whole_above x e = rw e

-- ---- how long the texts are
by-last-digit : (n m : ℕ) (l : List ℕ) (t : Bool) → length l ≤ m → length (cond t ((code "0" + n) ∷ []) (l ++ (code "0" + n % 10) ∷ [])) ≤ suc m
by-last-digit n m l true h = omega arith
by-last-digit n m l false h = omega (arith, length-append l ((code "0" + n % 10) ∷ []))

decimal-length : (k n : ℕ) → length (decimal_up_to k n) ≤ suc k
unfolding decimal_up_to
decimal-length zero n = omega arith
decimal-length (suc k) n = by-last-digit n (suc k) (decimal_up_to k (n / 10)) (ltb n 10) (decimal-length k (n / 10))

pub decimal-text-length : (n : ℕ) → length (decimal_text n) ≤ 20
decimal-text-length n = decimal-length 19 n

-- where the number has fewer digits
small-length : (k d n : ℕ) → n < 10 ^ suc d → length (decimal_up_to k n) ≤ suc d
unfolding decimal_up_to
small-length zero d n h = omega arith
small-length (suc k) zero n h = rw (lt-ltb n 10 h) (omega arith)
small-length (suc k) (suc d) n h = by-last-digit n (suc d) (decimal_up_to k (n / 10)) (ltb n 10) (small-length k d (n / 10) (omega (arith, pow-suc 10 (suc d))))

pub word-text-length : (n : ℕ) → n < 4294967296 → length (decimal_text n) ≤ 10
word-text-length n h = small-length 19 9 n (omega arith)

pub byte-text-length : (n : ℕ) → n < 256 → length (decimal_text n) ≤ 3
byte-text-length n h = small-length 19 2 n (omega arith)

pub whole-text-length : (x : ℤ) → length (whole_text x) ≤ 21
unfolding whole_text
whole-text-length x = at (lt_z x (pos 0))
  where
    at : (t : Bool) → length (cond t (code "-" ∷ decimal_text (nat_abs x)) (decimal_text (nat_abs x))) ≤ 21
    at true = omega (arith, decimal-text-length (nat_abs x))
    at false = omega (arith, decimal-text-length (nat_abs x))

hex-length : (k n : ℕ) → length (hex_up_to k n) ≡ k
unfolding hex_up_to
hex-length zero n = refl
hex-length (suc k) n = omega (arith, length-append (hex_up_to k (n / 16)) (hex_glyph (n % 16) ∷ []), hex-length k (n / 16))

pub hex-text-length : (n : ℕ) → length (hex_text n) ≡ 8
hex-text-length n = hex-length 8 n

pub ruleset decimal_digits = (decimal-last, decimal-small, decimal-large, glyph_decimal, capped-then)

pub ruleset hex_digits = (hex-none, hex-last, capped-then, capped-shown)

pub ruleset signs = (whole_below, whole_above, capped-then, to_z-of_z)
