-- The eight slots of a list hold its guards, and blanks past its end.
use Prim.Native.Nat.{ℕ, zero, suc, ◌<◌}
use mathlib.Core.Path.{◌≡◌, refl, sym, ◌∙◌}
use mathlib.Core.List.{List, [], ◌∷◌, ◌++◌}
use native.Mathlib.Omega.{arith}
use lib.ListN.{get_or, length, replicate, length-append, length-take, length-replicate}
use lib.Seq.{get_or-take, ext_get_or}
use Rattle.alternative.specs.declared.Guard.{Guard}
use Rattle.alternative.specs.Guards.{blank, slots}

-- past a list's end blanks read like nothing
blanks_at : (r i : ℕ) → get_or (replicate r blank) i blank ≡ blank
blanks_at zero i = refl
blanks_at (suc r) zero = refl
blanks_at (suc r) (suc i) = blanks_at r i

pub blank-past : (gs : List Guard) (r i : ℕ) → get_or (gs ++ replicate r blank) i blank ≡ get_or gs i blank
blank-past [] r i = blanks_at r i
blank-past (g ∷ gs) r zero = refl
blank-past (g ∷ gs) r (suc i) = blank-past gs r i

pub slots_at : (gs : List Guard) (i : ℕ) → i < 8 → get_or (slots gs) i blank ≡ get_or gs i blank
unfolding slots
slots_at gs i h = get_or-take 8 (gs ++ replicate 8 blank) i blank h ∙ blank-past gs 8 i

pub slots_length : (gs : List Guard) → length (slots gs) ≡ 8
unfolding slots
slots_length gs = omega (arith, length-take 8 (gs ++ replicate 8 blank), length-append gs (replicate 8 blank), length-replicate 8 blank)

-- eight slots that read like a list are its slots
pub slots-are : (gs l : List Guard) → length l ≡ 8 → ((i : ℕ) → i < 8 → get_or l i blank ≡ get_or gs i blank) → l ≡ slots gs
slots-are gs l e h = ext_get_or blank l (slots gs) (e ∙ sym (slots_length gs)) (λ i b. let c : i < 8 = omega arith in h i c ∙ sym (slots_at gs i c))
