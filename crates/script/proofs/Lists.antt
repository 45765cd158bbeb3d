-- A law of lists that are cut to a length.
use Prim.Native.Nat.{ℕ, ◌<◌, min}
use mathlib.Core.Path.{◌≡◌, refl, sym, ◌∙◌}
use mathlib.Core.Bool.{Bool, true, false}
use mathlib.Core.List.{List}
use native.Mathlib.Nat.{min-eq_left, min-eq_right}
use native.Mathlib.Omega.{arith}
use lib.Dec.{leb}
use lib.ListN.{length, take}
use lib.Seq.{take_all}
use borrow.Author.Tests.{leb-true, leb-false}

-- the first n elements of m are at most m
pub take-most : (l : List ℕ) (n m : ℕ) → length l ≡ m → take (min n m) l ≡ take n l
take-most l n m e = go (leb n m) refl
  where
    go : (b : Bool) → leb n m ≡ b → take (min n m) l ≡ take n l
    go true t = rw (min-eq_left (leb-true n m t))
    go false t = let h : m < n = leb-false n m t in rw (min-eq_right {n = m} {m = n} (omega arith)) (take_all m l (omega arith) ∙ sym (take_all n l (omega arith)))
