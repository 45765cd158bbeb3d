-- Who can change whom: of the partner's record a rule changes the wake count and the signal alone; and whom a record that fits can name.
use Rattle.std.specs.Prelude.{Option, Some, None}
use Prim.Native.Nat.{ℕ, zero, suc, ◌+◌, ◌<◌}
use mathlib.Core.Path.{◌≡◌, refl, ap}
use mathlib.Core.Bool.{Bool, true, false, not, ◌&&◌}
use mathlib.Core.List.{List, [], ◌∷◌}
use lib.ListN.{get_or}
use lib.Dec.{ltb, leb, eqb}
use borrow.Author.Tests.{ltb-true}
use Rattle.alternative.specs.Guards.{most_guards, blank, kept_match}
use Rattle.alternative.proofs.Tests.{and_parts}
use Rattle.process.specs.Types.{Guard, Place, State, Process}
use Rattle.process.specs.Process.{state_of, index_of, own_list, posted_list, own_guard}
use Rattle.process.specs.Rules.{Effect, Neither, Own, Both, changed, scan_from, sleep_at, scan, try, hand_over, absorb, rule_at, rule, named_by, partner_of}
use Rattle.process.specs.Fits.{all_guards, partner_fits, list_fits, signal_fits, process_fits}
use Rattle.process.specs.InCode.{committed_at}
use Rattle.process.proofs.PlaceCases.{both-carried}
use Rattle.alternative.specs.declared.Message.{Message}

abbrev pub OnlyTold : Process → Effect → Type 0
OnlyTold y Neither = Unit {0}
OnlyTold y (Own x) = Unit {0}
OnlyTold y (Both x y') = changed y y.place y'.signal y'.accepting ≡ y'

sleep-only-told : (x : Process) (s : ℕ) (y : Process) (early : Bool) → OnlyTold y (sleep_at x s early)
unfolding scan_from
sleep-only-told x s y true = tt
sleep-only-told x s y false = tt

scan-only-told : (x : Process) (i : ℕ) (y : Process) (s : State) (older : Bool) → OnlyTold y (scan x i s older)
unfolding scan_from
scan-only-told x i y State.Running older = tt
scan-only-told x i y State.Sleeping older = tt
scan-only-told x i y State.Waiting older = tt
scan-only-told x i y State.Alt true = tt
scan-only-told x i y State.Alt false = tt

try-only-told : (x : Process) (i : ℕ) (y : Process) (accepting : Bool) (found : Option ℕ) → OnlyTold y (try x i y accepting found)
unfolding scan_from
try-only-told x i y true (Some j) = refl
try-only-told x i y true None = tt
try-only-told x i y false (Some j) = tt
try-only-told x i y false None = tt

absorb-only-told : (x y : Process) (s : Option (ℕ × Message)) → OnlyTold y (absorb x s)
absorb-only-told x y (Some (j, m)) = tt
absorb-only-told x y None = tt

at-only-told : (d p : ℕ) (x : Process) (q : ℕ) (y : Process) (place : Place) → OnlyTold y (rule_at d p x q y place)
unfolding scan_from hand_over
at-only-told d p x q y Place.Entering = tt
at-only-told d p x q y (Place.Asleep s) = sleep-only-told x s y (ltb (s + 1) d)
at-only-told d p x q y (Place.Scanning i) = scan-only-told x i y (state_of y.place) (ltb y.transaction.0 x.transaction.0)
at-only-told d p x q y (Place.Trying i) = try-only-told x i y y.accepting (kept_match p (own_guard x i) q (posted_list y))
at-only-told d p x q y (Place.Committed i j) = refl
at-only-told d p x q y Place.Posting = tt
at-only-told d p x q y Place.Opening = tt
at-only-told d p x q y Place.Showing = tt
at-only-told d p x q y Place.Waiting = absorb-only-told x y x.signal
at-only-told d p x q y Place.Idle = tt
at-only-told d p x q y (Place.Met i m) = tt

pub rule-only-told : (d p : ℕ) (x : Process) (q : ℕ) (y : Process) → OnlyTold y (rule d p x q y)
unfolding rule
rule-only-told d p x q y = at-only-told d p x q y x.place

-- a record's test asks for what its partner has posted at C alone
pub fits-committed : (n d p : ℕ) (x : Process) (posted : ℕ → ℕ) → process_fits n d p x (posted (committed_at x x.place)) ≡ process_fits n d p x (posted (partner_of x))
unfolding process_fits
fits-committed n d p x posted =
    ap (λ (b : Bool). list_fits n p x.count x.guards && (list_fits n p x.altcount x.altlist && (signal_fits x.count x.signal && b)))
    (both-carried (λ a b. a ≡ b) true true _ _ _ _ _ _ _ _ x.place refl (λ i e. refl) (λ i j e. rw e refl) (λ s e. refl) (λ i m e. refl))

-- guards that fit, and a blank one, name a process below n
named-below : (n p : ℕ) (gs : List Guard) (i : ℕ) → 0 < n → all_guards (partner_fits n p) gs ≡ true → (get_or gs i blank).partner < n
unfolding all_guards partner_fits
named-below n p [] i h e = h
named-below n p (g ∷ gs) zero h e =
    let a = not (eqb g.partner p) in
    let b = ltb g.partner n in
    ltb-true g.partner n (and_parts a b (and_parts (a && b) (all_guards (partner_fits n p) gs) e).0).1
named-below n p (g ∷ gs) (suc i) h e = named-below n p gs i h (and_parts (not (eqb g.partner p) && ltb g.partner n) (all_guards (partner_fits n p) gs) e).1

pub partner-below : (n d p : ℕ) (x : Process) (posted : ℕ) → process_fits n d p x posted ≡ true → 0 < n → partner_of x < n
unfolding process_fits list_fits
partner-below n d p x posted e h = go (index_of x.place)
  where
    go : (index : Option ℕ) → named_by x index < n
    go None = h
    go (Some i) =
        let own = (and_parts (leb x.count most_guards) (all_guards (partner_fits n p) (own_list x)) (and_parts (list_fits n p x.count x.guards) _ e).0).1 in
        named-below n p (own_list x) i h own
