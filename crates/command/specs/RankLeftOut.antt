-- To be believed. CR 5 of document 02, "0 if left out": guards without a `^` are read as document 01 and CR 2 have them, with rank 0. The function `rank_left_out` carries these claims.
use Rattle.std.specs.Prelude.{ℕ, ◌≡◌, List, [], ◌∷◌, Option, Some}
use Prim.Native.Char.{code}
use Rattle.alternative.specs.Ranks.{AllOfRank}
use Rattle.text.specs.Types.{◌>>=◌}
use Rattle.command.specs.Types.{Guard, Offer, Do}
use Rattle.command.specs.Commands.{plain_guard_in, kinded_guard_in, guard_in, guards_in, command_of}
use Rattle.command.specs.KindLeftOut.{Lacks}

-- each of the fields lacks c
abbrev pub EachLacks : ℕ → List (List ℕ) → Type 0
EachLacks c [] = Unit {0}
EachLacks c (f ∷ fs) = Lacks c f × EachLacks c fs

-- the guards of an offer as document 01 and CR 2 have them
abbrev pub kinded_guards_in : List (List ℕ) → Option (List Guard)
kinded_guards_in [] = Some []
kinded_guards_in (f ∷ fs) = do
  g ← kinded_guard_in f
  gs ← kinded_guards_in fs
  Some (g ∷ gs)

pub record RankLeftOut : Type 0 where
  -- a field without a `^` says the guard that it says by document 01 and CR 2, and one without a `:` too what it says by document 01;
  pub as_before : (field : List ℕ) → Lacks (code "^") field → guard_in field ≡ kinded_guard_in field
  pub plain : (field : List ℕ) → Lacks (code "^") field → Lacks (code ":") field → guard_in field ≡ plain_guard_in field
  -- so do the fields of an offer;
  pub guards : (fs : List (List ℕ)) → EachLacks (code "^") fs → guards_in fs ≡ kinded_guards_in fs
  -- the rank of such a guard is 0,
  pub zero : (field : List ℕ) (g : Guard) → kinded_guard_in field ≡ Some g → g.rank ≡ 0
  -- and a line without a `^` offers guards of rank 0 alone
  pub lines : (line : List ℕ) (p : ℕ) (gs : List Guard) → Lacks (code "^") line → command_of line ≡ Some (Do (Offer p gs)) → AllOfRank 0 gs
