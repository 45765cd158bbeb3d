-- What is left of a list of n elements, kept in an array, at index k: the element there and the rest after it, or nothing.
use Prim.Native.Nat.{ℕ, ◌+◌, ◌≤◌, ◌<◌, min}
use mathlib.Core.Path.{◌≡◌}
use mathlib.Core.List.{List, [], ◌∷◌}
use native.Mathlib.Numerals.{add-one}
use native.Mathlib.Omega.{arith}
use lib.ListN.{get_or, take, drop, length, length-take, drop_of_length-le}
use lib.Seq.{drop-cons, get_or-take}

module _ {A : Type 0} (l : List A) (n k : ℕ) where
  pub rest_at : (d : A) → k < n → k < length l → drop k (take n l) ≡ get_or l k d ∷ drop (k + 1) (take n l)
  rest_at d a b = let h : k < length (take n l) = omega (arith, length-take n l) in rw (add-one, drop-cons (take n l) k d h, get_or-take n l k d a)

  pub rest_end : min n (length l) ≤ k → drop k (take n l) ≡ []
  rest_end h = let e : length (take n l) ≤ k = omega (arith, length-take n l) in drop_of_length-le (take n l) e
