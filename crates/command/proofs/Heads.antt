-- A list by its first byte, and whether bytes are left after it.
use Rattle.std.specs.Prelude.{Option, Some, None, unwrap_or, ◌==◌}
use Rattle.std.specs.Bool.{then_some}
use Prim.Native.Nat.{ℕ, ◌-◌, ◌≤◌, ◌<◌}
use mathlib.Core.Path.{◌≡◌, refl}
use mathlib.Core.Bool.{Bool, true, false, cond}
use mathlib.Core.List.{List, [], ◌∷◌}
use native.Mathlib.Omega.{arith}
use borrow.Author.Tests.{ltb-false, ne_eqb}
use lib.Dec.{ltb}
use lib.ListN.{length, get_or, take, drop, length-drop}
use lib.Seq.{take_all}
use Rattle.text.specs.Reading.{provided}
use Rattle.command.specs.Commands.{is_empty}

pub empty_of : (s : List ℕ) → length s < 1 → s ≡ []
empty_of [] h = refl
empty_of (b ∷ bs) h = absurd (omega arith)

-- the part `&s[k..]` is what is left from k on
pub part-rest : (k : ℕ) (s : List ℕ) → take (length s - k) (drop k s) ≡ drop k s
part-rest k s = take_all (length s - k) (drop k s) (omega (arith, length-drop k s))

-- the rest as a pattern lends it
pub headed : (s : List ℕ) → 1 ≤ length s → s ≡ get_or s 0 0 ∷ take (length s - 1) (drop 1 s)
headed [] h = absurd (omega arith)
headed (b ∷ bs) h = rw (part-rest 1 (b ∷ bs))

-- a value where there is nothing more
pub if-alone : {A : Type 0} (s : List ℕ) (x : A) (empty : Bool) (result : Option A) → empty ≡ (length s == 0) → result ≡ then_some empty x → result ≡ provided (is_empty s) x
if-alone [] x empty result e f = rw (f, e)
if-alone (b ∷ bs) x empty result e f = rw (f, e, ne_eqb (length (b ∷ bs)) 0 (λ h. omega (arith, h)))

-- a place among n, or n
pub place-found : (p n r : ℕ) (found : Option ℕ) → p ≤ n → found ≡ cond (ltb p n) (Some p) None → r ≡ unwrap_or found n → r ≡ p
place-found p n r found h e f = rw (f, e) (go (ltb p n) refl)
  where
    go : (t : Bool) → ltb p n ≡ t → unwrap_or (cond t (Some p) None) n ≡ p
    go true q = refl
    go false q = omega (arith, ltb-false p n q)
