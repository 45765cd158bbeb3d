-- Naps: a nap of one step, and the rules that read no length of a nap.
use Prim.Native.Nat.{ℕ, ◌+◌}
use mathlib.Core.Path.{◌≡◌, refl, sym}
use mathlib.Core.Bool.{false, false≢true}
use native.Mathlib.Omega.{arith}
use borrow.Author.Tests.{le-ltb}
use Rattle.process.specs.Types.{Place, Process}
use Rattle.process.specs.Process.{is_at}
use Rattle.process.specs.Rules.{rule_at}
use Rattle.process.specs.Naps.{OldRule2}

others : (d p : ℕ) (x : Process) (q : ℕ) (y : Process) (place : Place) → is_at "S" place ≡ false → rule_at d p x q y place ≡ rule_at 1 p x q y place
others d p x q y Place.Idle e = refl
others d p x q y Place.Entering e = refl
others d p x q y (Place.Scanning i) e = refl
others d p x q y (Place.Trying i) e = refl
others d p x q y (Place.Committed i j) e = refl
others d p x q y Place.Posting e = refl
others d p x q y Place.Opening e = refl
others d p x q y Place.Showing e = refl
others d p x q y (Place.Asleep s) e = absurd (false≢true (sym e))
others d p x q y Place.Waiting e = refl
others d p x q y (Place.Met i m) e = refl

pub old-rule-2 : OldRule2
old-rule-2 = record { one = λ p x q y s. rw (le-ltb (s + 1) 1 (omega arith)); others = others }
