-- Laws of the rules, by what they read: the place, the signal, the partner's wake count and what the search finds.
use Rattle.std.specs.Prelude.{Option, Some, None}
use Prim.Native.Nat.{ℕ, suc, ◌+◌}
use mathlib.Core.Path.{◌≡◌, refl, sym, ap, ap₂, ◌∙◌}
use mathlib.Core.Bool.{Bool, true, false}
use mathlib.Core.List.{List}
use native.Mathlib.Numerals.{add-one}
use Rattle.alternative.specs.Guards.{kept_match}
use Rattle.process.specs.Types.{Guard, Place, Process}
use Rattle.process.specs.Rules.{Both, at_place, with_accepting, scan_from, try, absorb, rule_at, rule}
use Rattle.alternative.specs.declared.Message.{Message}

pub rule-at : (d p : ℕ) (x : Process) (q : ℕ) (y : Process) (place : Place) → x.place ≡ place → rule d p x q y ≡ rule_at d p x q y place
unfolding rule
rule-at d p x q y place e = ap (rule_at d p x q y) e

pub absorb-at : (x : Process) (signal : Option (ℕ × Message)) → x.signal ≡ signal → absorb x x.signal ≡ absorb x signal
absorb-at x signal e = ap (absorb x) e

module _ (x : Process) (i : ℕ) (y : Process) where
  after : scan_from x (suc i) ≡ scan_from x (i + 1)
  after = rw add-one

  shut : (found : Option ℕ) → try x i y false found ≡ scan_from x (i + 1)
  shut (Some j) = after
  shut None = after

  by_both : (accepting : Bool) (found f : Option ℕ) → y.accepting ≡ accepting → found ≡ f → try x i y y.accepting found ≡ try x i y accepting f
  by_both accepting found f = ap₂ (try x i y)

  pub try-shut : (found : Option ℕ) → y.accepting ≡ false → try x i y y.accepting found ≡ scan_from x (i + 1)
  try-shut found e = by_both false found found e refl ∙ shut found

  pub try-missing : (found : Option ℕ) → y.accepting ≡ true → found ≡ None → try x i y y.accepting found ≡ scan_from x (i + 1)
  try-missing found e f = by_both true found None e f ∙ after

  pub try-found : (found : Option ℕ) (j : ℕ) → y.accepting ≡ true → found ≡ Some j → try x i y y.accepting found ≡ Both (at_place x (Place.Committed i j)) (with_accepting y false)
  try-found found j e f = by_both true found (Some j) e f

-- a search for a guard's match, made with a copy of the guard
pub searched : (p : ℕ) (g copy : Guard) (q : ℕ) (hs : List Guard) (result found : Option ℕ) → copy ≡ g → result ≡ kept_match p copy q hs → result ≡ found → kept_match p g q hs ≡ found
searched p g copy q hs result found e f h = ap (λ (k : Guard). kept_match p k q hs) (sym e) ∙ sym f ∙ h
