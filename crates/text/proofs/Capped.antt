-- What a text keeps: as many bytes of what is put into it as a line may have.
use Prim.Native.Nat.{ℕ, zero, suc, ◌+◌, ◌<◌, ◌≤◌}
use mathlib.Core.Path.{◌≡◌, refl, sym, ◌∙◌, ap}
use mathlib.Core.List.{List, [], ◌∷◌, ◌++◌, append_assoc, append-nil}
use native.Mathlib.Omega.{arith}
use native.Mathlib.Numerals.{add-one}
use lib.ListN.{length, take, set, length-append, length-take}
use lib.Seq.{take_all, take_at, take-suc-set}
use Rattle.text.specs.declared.Text.{Text}
use Rattle.text.specs.Writing.{shown, capped, line_length}

pub capped-short : (a : List ℕ) → length a ≤ line_length → capped a ≡ a
unfolding capped
capped-short a h = take_all line_length a h

pub take_again : (n : ℕ) (a b : List ℕ) → take n (take n a ++ b) ≡ take n (a ++ b)
take_again zero a b = refl
take_again (suc n) [] b = refl
take_again (suc n) (x ∷ a) b = ap {B = List ℕ} (λ l. x ∷ l) (take_again n a b)

-- dropping early or late is the same
pub capped-capped : (a b : List ℕ) → capped (capped a ++ b) ≡ capped (a ++ b)
unfolding capped
capped-capped a b = take_again line_length a b

-- two puts, one after the other
pub capped-then : (a b d : List ℕ) → capped (capped (a ++ b) ++ d) ≡ capped (a ++ (b ++ d))
capped-then a b d = capped-capped (a ++ b) d ∙ ap capped (append_assoc a b d)

-- a text holds at most as many bytes as a line may have, whatever its length says
pub shown-length : (t : Text) → length t.bytes ≡ line_length → length (shown t) ≤ line_length
unfolding shown
shown-length t h = omega (arith, length-take t.length t.bytes)

pub capped-shown : (t : Text) → length t.bytes ≡ line_length → capped (shown t ++ []) ≡ shown t
capped-shown t h = ap capped (append-nil (shown t)) ∙ capped-short (shown t) (shown-length t h)

-- one byte more, where there is room for it, and where there is none
module _ (l : List ℕ) (m n b : ℕ) (e : length l ≡ m) where
  pub put-more : n < m → take (n + 1) (set l n b) ≡ take m (take n l ++ b ∷ [])
  put-more h = rw (add-one, take-suc-set l n b (omega arith)) (sym (take_all m (take n l ++ b ∷ []) (simp (length-append, length-take) (omega arith))))

  pub put-none : m ≤ n → take n l ≡ take m (take n l ++ b ∷ [])
  put-none h = sym (take_at (take n l) (b ∷ []) m (omega (arith, length-take n l)))

-- a text with one byte more
pub shown-more : (t : Text) (b : ℕ) → length t.bytes ≡ line_length → t.length < line_length
    → shown (record { length = t.length + 1; bytes = set t.bytes t.length b }) ≡ capped (shown t ++ b ∷ [])
unfolding shown capped
shown-more t b e h = put-more t.bytes line_length t.length b e h

-- and a full one
pub shown-full : (t : Text) (b : ℕ) → length t.bytes ≡ line_length → line_length ≤ t.length → shown t ≡ capped (shown t ++ b ∷ [])
unfolding shown capped
shown-full t b e h = put-none t.bytes line_length t.length b e h

pub ruleset one_more = (shown-more, shown-full)
