-- An array made by calls of a closure at each index, where the closure stays as it was.
use Prim.Native.Nat.{ℕ, zero, suc, ◌+◌, ◌<◌}
use mathlib.Core.Path.{◌≡◌, ◌∙◌}
use mathlib.Core.List.{List}
use native.Mathlib.Omega.{arith}
use lib.ListN.{get_or}
use Rattle.std.specs.Array.{IsFromFnResultFrom, IsFromFnResult}
use denote.Param.Members.{Mut, Called}

module _ {F B : Type 0} (g : Mut F (ℕ × Unit {0}) B) (Same : F → Type 0) (value_at : ℕ → B) where
  abbrev pub Keeps : Type 0
  Keeps = (f : F) (k : ℕ) (y : B) (q : F) → Same f → Called g f (k, tt) y q → (y ≡ value_at k) × Same q

  made_from : Keeps → (n : ℕ) (f : F) (ys : List B) (i k j : ℕ) (d : B) → Same f → IsFromFnResultFrom g f ys i n → k < n → i + k ≡ j → get_or ys j d ≡ value_at j
  made_from keeps zero f ys i k j d s e h p = absurd (omega arith)
  made_from keeps (suc n) f ys i zero j d s e h p = let same : j ≡ i = omega arith in rw same (e.2.1 d ∙ (keeps f i e.1 e.0 s e.3).0)
  made_from keeps (suc n) f ys i (suc k) j d s e h p = made_from keeps n e.0 ys (i + 1) k j d (keeps f i e.1 e.0 s e.3).1 e.4 (omega arith) (omega arith)

module _ {F B : Type 0} {g : Mut F (ℕ × Unit {0}) B} {f : F} {ys : List B} {n : ℕ} (r : IsFromFnResult g f ys n) (Same : F → Type 0) where
  pub made : (value_at : ℕ → B) → Same f → Keeps g Same value_at → (k : ℕ) (d : B) → k < n → get_or ys k d ≡ value_at k
  made value_at s keeps k d h = made_from g Same value_at keeps n f ys 0 k k d s r.each h (omega arith)
