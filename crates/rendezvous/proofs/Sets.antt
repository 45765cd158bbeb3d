-- Sets of numbers below n as bits, for any n: `set_below member n` has bit p exactly where p is below n and a member; and the call that gives such a set.
use Rattle.std.specs.Prelude.{None, Ok}
use Prim.Native.Nat.{ℕ, suc, zero, ◌+◌, ◌*◌, ◌^◌, ◌-◌, ◌/◌, ◌%◌, ◌≤◌, ◌<◌}
use mathlib.Core.Path.{◌≡◌, refl, ap, ◌∙◌}
use mathlib.Core.Bool.{Bool, true, false, cond}
use mathlib.Core.Logic.{⊎_elim}
use native.Mathlib.Nat.{two-pow-succ, one-le-pow, pow-le-pow_right, pow-zero, pow-suc, add-zero, add-suc, mul-one, zero-mul, mul_assoc, mul_right_comm}
use native.Mathlib.Nat.{add-mul, mul-le-mul_left, add-mul-div_left, add-div_right, div-eq_of_lt, eq-or-lt_of_le, le_of_suc-le-suc, not-suc-le-zero}
use native.Mathlib.Numerals.{add-one}
use native.Mathlib.Omega.{arith}
use Rattle.process.specs.Rules.{changes}
use Rattle.rendezvous.specs.Types.{ProcessTable, Refusal, Answer}
use Rattle.rendezvous.specs.WellFormed.{well_formed}
use Rattle.rendezvous.specs.Refusals.{table_verdict}
use Rattle.rendezvous.specs.Calls.{refused, effect_on}
use Rattle.rendezvous.specs.Movers.{set_below, runnable_set, runnable}

pub set_below-small : (member : ℕ → Bool) (n : ℕ) → set_below member n < 2 ^ n
unfolding set_below
set_below-small member zero = omega arith
set_below-small member (suc n) = go (member n) (set_below-small member n)
  where
    go : (b : Bool) → set_below member n < 2 ^ n → set_below member n + cond b (2 ^ n) 0 < 2 ^ suc n
    go true h = omega (arith, two-pow-succ n)
    go false h = omega (arith, two-pow-succ n)

-- the bits of a set: bit p of a number is its quotient by 2 ^ p, modulo 2
pow-add : (p d : ℕ) → 2 ^ (p + d) ≡ 2 ^ p * 2 ^ d
pow-add p zero = rw (add-zero, pow-zero, mul-one)
pow-add p (suc d) = rw (add-suc, pow-suc 2 (p + d), pow-suc 2 d, pow-add p d, mul_assoc)

positive : (p : ℕ) → 0 < 2 ^ p
positive p = one-le-pow p 2 (omega arith)

-- the last number's own bit, and a lower one, which the last does not touch
bit-last : (s p : ℕ) (b : Bool) → s < 2 ^ p → (s + cond b (2 ^ p) 0) / 2 ^ p % 2 ≡ cond b 1 0
bit-last s p true h = let small : s / 2 ^ p ≡ 0 = div-eq_of_lt h in rw (add-div_right s (positive p), small)
bit-last s p false h = let small : s / 2 ^ p ≡ 0 = div-eq_of_lt h in rw (add-zero, small)

bit-lower : (s p d : ℕ) (b : Bool) → (s + cond b (2 ^ (p + suc d)) 0) / 2 ^ p % 2 ≡ s / 2 ^ p % 2
bit-lower s p d true = let q : (s + 2 ^ p * 2 ^ suc d) / 2 ^ p ≡ s / 2 ^ p + 2 ^ suc d = add-mul-div_left s (2 ^ suc d) (positive p) in rw (pow-add p (suc d), q, pow-suc) (omega arith)
bit-lower s p d false = rw add-zero

pub bit-of : (member : ℕ → Bool) (p n : ℕ) → p < n → set_below member n / 2 ^ p % 2 ≡ cond (member p) 1 0
unfolding set_below
bit-of member p zero h = absurd (not-suc-le-zero h)
bit-of member p (suc n) h =
    ⊎_elim (λ e. rw (← e) (bit-last (set_below member p) p (member p) (set_below-small member p)))
    (λ l.
    let e : n ≡ p + suc (n - suc p) = omega arith in
    ap (λ (k : ℕ). (set_below member n + cond (member n) (2 ^ k) 0) / 2 ^ p % 2) e ∙ bit-lower (set_below member n) p (n - suc p) (member n) ∙ bit-of member p n l)
    (eq-or-lt_of_le (le_of_suc-le-suc h))

pub bit-outside : (member : ℕ → Bool) (p n : ℕ) → n ≤ p → set_below member n / 2 ^ p % 2 ≡ 0
bit-outside member p n h =
    let less : set_below member n < 2 ^ p = omega (arith, set_below-small member n, pow-le-pow_right {n = 2} (omega arith) h) in
    let None : set_below member n / 2 ^ p ≡ 0 = div-eq_of_lt less in
    rw None

-- the empty set has no bit, and a set without members is empty
pub bit-of-none : (p : ℕ) → 0 / 2 ^ p % 2 ≡ 0
bit-of-none p = let None : 0 / 2 ^ p ≡ 0 = div-eq_of_lt (positive p) in rw None

pub none_below : (member : ℕ → Bool) (n : ℕ) → ((p : ℕ) → p < n → member p ≡ false) → set_below member n ≡ 0
unfolding set_below
none_below member zero h = refl
none_below member (suc n) h = rw (none_below member n (λ p l. h p (omega arith)), h n (omega arith))

pub bit-most : (b : Bool) → cond b 1 0 ≤ 1
bit-most true = omega arith
bit-most false = omega arith

-- A set that is put together from its last bit down: what there is of it stands above the bits below p.
abbrev pub Above : (ℕ → Bool) → ℕ → ℕ → ℕ → Type 0
Above member n p set = set * 2 ^ p + set_below member p ≡ set_below member n

module _ (member : ℕ → Bool) (n : ℕ) where
  pub above-start : Above member n n 0
  above-start = omega (arith, zero-mul (2 ^ n))

  pub above_more : (p q set one : ℕ) (b : Bool) → q ≡ p + 1 → member p ≡ b → one ≡ cond b 1 0 → Above member n q set → Above member n p (set * 2 + one)
  unfolding set_below
  above_more p q set one b z e f a =
      let last : set * 2 ^ suc p + (set_below member p + cond (member p) (2 ^ p) 0) ≡ set_below member n = rw (z, add-one) at a in
      rw f (go b (rw (e, pow-suc) at last))
    where
      go : (b : Bool) → set * (2 ^ p * 2) + (set_below member p + cond b (2 ^ p) 0) ≡ set_below member n → (set * 2 + cond b 1 0) * 2 ^ p + set_below member p ≡ set_below member n
      go true a = omega (arith, add-mul (set * 2) 1 (2 ^ p), mul_right_comm set 2 (2 ^ p), mul_assoc set (2 ^ p) 2)
      go false a = omega (arith, mul_right_comm set 2 (2 ^ p), mul_assoc set (2 ^ p) 2)

  pub above-end : (p set : ℕ) → p ≡ 0 → Above member n p set → set ≡ set_below member n
  unfolding set_below
  above-end p set e a = let all : set * 2 ^ 0 + 0 ≡ set_below member n = rw e at a in omega arith

  -- such a set fits wherever n bits do, and so does the next bit's
  pub above-fits : (p set width : ℕ) → 0 < p → p ≤ n → n ≤ width → Above member n p set → set * 2 + 1 < 2 ^ width
  above-fits p set width h k l a =
      let even : 2 ^ width ≡ 2 ^ (width - 1) * 2 = rw (← pow-suc) (ap (λ (w : ℕ). 2 ^ w) (omega arith)) in
      let two : 2 ≤ 2 ^ p = omega (arith, pow-le-pow_right {n = 2} (omega arith) {i = 1} {j = p} h) in
      let more : set * 2 ≤ set * 2 ^ p = mul-le-mul_left set two in
      omega (arith, more, even, set_below-small member n, pow-le-pow_right {n = 2} (omega arith) l)

pub runnable-refused : (t : ProcessTable) → well_formed t ≡ false → refused Refusal.NotWellFormed t ≡ runnable t
unfolding runnable table_verdict
runnable-refused t e = rw e

pub runnable-gives : (t : ProcessTable) (set : ℕ) → well_formed t ≡ true → set ≡ set_below (λ p. changes (effect_on t p)) t.head.n
    → record { answer = Ok (Answer.Runnable set); table = t } ≡ runnable t
unfolding runnable table_verdict runnable_set
runnable-gives t set e f = rw (e, f)
