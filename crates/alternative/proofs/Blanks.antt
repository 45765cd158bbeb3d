-- Slots that are made blank one by one, from the end of a list on.
use Rattle.std.proofs.Common.{ℕ, ◌+◌, ◌≤◌, ◌<◌, ◌≡◌, List, sym, ◌∙◌, arith, get_or, set, take, length, length-take}
use mathlib.Core.Logic.{⊎_elim}
use native.Mathlib.Nat.{eq-or-lt_of_le}
use lib.ListN.{get_or-eq_default}
use lib.Seq.{get_or-set_same, get_or-set_other}
use Rattle.alternative.specs.Types.{Guard}
use Rattle.alternative.specs.Guards.{blank}

-- the slots below k read like the list of the first n
abbrev pub Read : List Guard → ℕ → List Guard → ℕ → Type 0
Read out k guards n = (i : ℕ) → i < k → get_or out i blank ≡ get_or (take n guards) i blank

pub read_more : (out : List Guard) (k : ℕ) (guards : List Guard) (n : ℕ) → n ≤ k → k < length out → Read out k guards n → Read (set out k blank) (k + 1) guards n
read_more out k guards n a b r i h =
    let past : length (take n guards) ≤ k = omega (arith, length-take n guards) in
    ⊎_elim
    (λ e. rw e (get_or-set_same out k blank blank b ∙ sym (get_or-eq_default (take n guards) blank past)))
    (λ l. get_or-set_other out k i blank blank (omega arith) ∙ r i l)
    (let j : i ≤ k = omega arith in eq-or-lt_of_le j)
