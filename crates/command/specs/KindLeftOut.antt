-- To be believed. CR 2 of document 02, "left out, the kind is 0": what stands before the rank of a guard, without a `:`, is read as by document 01. The function `kind_left_out` carries
-- these claims. (With `KindsRefine` of alternative, and since nothing but `guards_match` looks at a kind, "a script without any prints what it did.")
use Rattle.std.specs.Prelude.{ℕ, ◌≡◌, List, [], ◌∷◌, Some}
use Prim.Native.Char.{code}
use Rattle.command.specs.Types.{Guard}
use Rattle.command.specs.Commands.{plain_guard_in, kinded_guard_in}

-- no byte is c
abbrev pub Lacks : ℕ → List ℕ → Type 0
Lacks c [] = Unit {0}
Lacks c (b ∷ bs) = (b ≡ c → ⊥) × Lacks c bs

pub record KindLeftOut : Type 0 where
  -- bytes without a `:` say the guard that they say by document 01,
  pub as_before : (bytes : List ℕ) → Lacks (code ":") bytes → kinded_guard_in bytes ≡ plain_guard_in bytes
  -- and the kind of that is 0
  pub zero : (bytes : List ℕ) (g : Guard) → plain_guard_in bytes ≡ Some g → g.kind ≡ 0
