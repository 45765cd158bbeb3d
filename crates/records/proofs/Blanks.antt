-- The slots of a list, filled one guard after another.
use Prim.Native.Nat.{ℕ, zero, suc, ◌<◌, ◌≤◌}
use mathlib.Core.Path.{◌≡◌, refl, ap}
use mathlib.Core.List.{List, [], ◌∷◌, ◌++◌}
use native.Mathlib.Omega.{arith}
use lib.ListN.{length, take, replicate, set}
use Rattle.alternative.specs.Guards.{most_guards, blank, slots}
use Rattle.records.specs.Types.{Guard}

-- one blank more behind enough of them
blank-more : (n m : ℕ) → n ≤ m → take n (replicate m blank) ≡ take n (replicate (suc m) blank)
blank-more zero m h = refl
blank-more (suc n) zero h = absurd (omega arith)
blank-more (suc n) (suc m) h = ap (λ (r : List Guard). blank ∷ r) (blank-more n m (omega arith))

-- the first n of a list with m blanks behind it: its first blank becomes g
front-more : (n m : ℕ) (l : List Guard) (g : Guard) → length l < n → n ≤ m → set (take n (l ++ replicate m blank)) (length l) g ≡ take n ((l ++ g ∷ []) ++ replicate m blank)
front-more zero m l g h b = absurd (omega arith)
front-more (suc n) zero l g h b = absurd (omega arith)
front-more (suc n) (suc m) [] g h b = ap (λ (r : List Guard). g ∷ r) (blank-more n m (omega arith))
front-more (suc n) (suc m) (x ∷ l) g h b = ap (λ (r : List Guard). x ∷ r) (front-more n (suc m) l g (omega arith) (omega arith))

-- the slots of a list with one guard more
pub slots-more : (l : List Guard) (k : ℕ) (g : Guard) → length l ≡ k → k < most_guards → set (slots l) k g ≡ slots (l ++ g ∷ [])
unfolding slots
slots-more l k g e h = rw (← e) (front-more 8 8 l g (omega arith) (omega arith))
