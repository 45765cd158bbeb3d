-- Laws of the count of open offers.
use Prim.Native.Nat.{ℕ, zero, suc, ◌+◌, ◌≤◌, min}
use mathlib.Core.Path.{◌≡◌, refl}
use mathlib.Core.Bool.{Bool, true, false, cond}
use native.Mathlib.Numerals.{add-one}
use native.Mathlib.Omega.{arith}
use lib.ListN.{length, take, get_or}
use Rattle.std.proofs.lemmas.List.{take_min}
use Rattle.std.proofs.lemmas.List.Sums.{sum_by-cons}
use mathlib.Core.List.{List, [], ◌∷◌}
use Rattle.std.specs.Prelude.{count_by}
use Rattle.process.specs.declared.Process.{Process}
use Rattle.process.specs.Process.{nobody, is_open}
use Rattle.rendezvous.specs.declared.ProcessTable.{ProcessTable}
use Rattle.rendezvous.specs.Table.{process, count_below}
use Rattle.rendezvous.proofs.Forms.{open_below}
use Rattle.rendezvous.proofs.Sets.{bit-most}

-- no more than there are processes
pub open-most : (t : ProcessTable) (k : ℕ) → open_below t k ≤ k
unfolding count_below
open-most t zero = omega arith
open-most t (suc k) = omega (arith, open-most t k, bit-most (is_open (process t k)))

-- one process more, with an open offer or without
next-open : (t : ProcessTable) (k : ℕ) → open_below t (k + 1) ≡ open_below t k + cond (is_open (process t k)) 1 0
unfolding count_below
next-open t k = rw add-one

pub open_more : (t : ProcessTable) (k n : ℕ) (b : Bool) → n ≡ open_below t k → b ≡ is_open (process t k) → cond b (n + 1) n ≡ open_below t (k + 1)
open_more t k n b e o = rw (next-open t k, e, o) (go (is_open (process t k)))
  where
    go : (b : Bool) → cond b (open_below t k + 1) (open_below t k) ≡ open_below t k + cond b 1 0
    go true = refl
    go false = omega arith

-- the count of a list's first records, from its end or from its start
from-start : (test : ℕ → Bool) (n : ℕ) → count_below test (suc n) ≡ cond (test 0) 1 0 + count_below (λ p. test (suc p)) n
unfolding count_below
from-start test zero = omega arith
from-start test (suc n) = omega (arith, from-start test n)

none-there : (n : ℕ) → count_below (λ p. is_open (get_or [] p nobody)) n ≡ 0
unfolding count_below
none-there zero = refl
none-there (suc n) = omega (arith, none-there n)

pub count-taken : (xs : List Process) (n : ℕ) → count_by is_open (take n xs) ≡ count_below (λ p. is_open (get_or xs p nobody)) n
unfolding count_below
count-taken xs zero = refl
count-taken [] (suc n) = omega (arith, none-there (suc n))
count-taken (x ∷ xs) (suc n) =
    let first : count_by is_open (take (suc n) (x ∷ xs)) ≡ cond (is_open x) 1 0 + count_by is_open (take n xs) = sum_by-cons (λ x. cond (is_open x) 1 0) x (take n xs) in
    let start : count_below (λ p. is_open (get_or (x ∷ xs) p nobody)) (suc n) ≡ cond (is_open x) 1 0 + count_below (λ p. is_open (get_or xs p nobody)) n = from-start _ n in
    omega (arith, first, start, count-taken xs n)

-- no more than the first m are there
pub count-most : (xs : List Process) (m n : ℕ) → length xs ≡ m → count_by is_open (take (min n m) xs) ≡ count_below (λ p. is_open (get_or xs p nobody)) n
count-most xs m n e = rw (← e, take_min n xs) (count-taken xs n)
