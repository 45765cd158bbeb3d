-- Parts that stand one behind another, each written behind the one before it, and read from where it stands.
use Prim.Native.Nat.{ℕ, zero, suc, ◌+◌, ◌≤◌}
use mathlib.Core.Path.{◌≡◌, refl, ap, ◌∙◌}
use mathlib.Core.List.{List, [], ◌∷◌, ◌++◌, flatten, append_assoc}
use lib.ListN.{length, take, drop, length-append}
use lib.Seq.{sets, drop-append-add}
use Rattle.wire.proofs.Lists.{sets-join, sets-front, sets-whole}

-- how long they are together
abbrev pub total : List (List ℕ) → ℕ
total [] = 0
total (part ∷ parts) = length part + total parts

-- parts, and the rest behind them
abbrev pub followed : List (List ℕ) → List ℕ → List ℕ
followed [] rest = rest
followed (part ∷ parts) rest = part ++ followed parts rest

-- parts, written from byte k on
abbrev pub laid : List (List ℕ) → List ℕ → ℕ → List ℕ
laid [] l k = l
laid (part ∷ parts) l k = laid parts (sets l k part) (k + length part)

pub total-is : (parts : List (List ℕ)) → length (flatten parts) ≡ total parts
unfolding flatten
total-is [] = refl
total-is (part ∷ parts) = length-append part (flatten parts) ∙ ap (λ (n : ℕ). length part + n) (total-is parts)

followed-is : (parts : List (List ℕ)) (rest : List ℕ) → flatten parts ++ rest ≡ followed parts rest
unfolding flatten
followed-is [] rest = refl
followed-is (part ∷ parts) rest = append_assoc part (flatten parts) rest ∙ ap (λ (r : List ℕ). part ++ r) (followed-is parts rest)

laid-is : (parts : List (List ℕ)) (l : List ℕ) (k : ℕ) → laid parts l k ≡ sets l k (flatten parts)
unfolding flatten
laid-is [] l k = refl
laid-is (part ∷ parts) l k = laid-is parts (sets l k part) (k + length part) ∙ sets-join l k part (flatten parts) (k + length part) refl

pub laid-front : (parts : List (List ℕ)) (l : List ℕ) (n : ℕ) → total parts ≡ n → n ≤ length l → laid parts l 0 ≡ flatten parts ++ drop n l
laid-front parts l n e h = laid-is parts l 0 ∙ sets-front l (flatten parts) n (total-is parts ∙ e) h

pub laid-whole : (parts : List (List ℕ)) (l : List ℕ) → total parts ≡ length l → laid parts l 0 ≡ flatten parts
laid-whole parts l e = laid-is parts l 0 ∙ sets-whole l (flatten parts) (total-is parts ∙ e)

-- past the first k parts
past : (parts : List (List ℕ)) (k : ℕ) (rest : List ℕ) → drop (total (take k parts)) (followed parts rest) ≡ followed (drop k parts) rest
past parts zero rest = refl
past [] (suc k) rest = refl
past (part ∷ parts) (suc k) rest = drop-append-add part (followed parts rest) (total (take k parts)) ∙ past parts k rest

pub from-part : (parts : List (List ℕ)) (k n : ℕ) (rest : List ℕ) → total (take k parts) ≡ n → drop n (flatten parts ++ rest) ≡ followed (drop k parts) rest
from-part parts k n rest e = rw (followed-is parts rest, ← e) (past parts k rest)
