-- A rule that changes anything changes the place of the process that steps.
use Rattle.std.specs.Prelude.{Option, Some, None}
use Prim.Native.Nat.{ℕ, suc, ◌+◌, ◌≤◌}
use Prim.Native.Char.{code}
use mathlib.Core.Path.{◌≡◌, refl, sym, ap}
use mathlib.Core.Bool.{Bool, true, false, cond}
use mathlib.Core.List.{List, [], ◌∷◌}
use native.Mathlib.Omega.{arith}
use lib.ListN.{drop}
use lib.Dec.{ltb}
use Rattle.alternative.specs.Guards.{first_from, kept_match, next_enabled}
use Rattle.process.specs.Types.{Guard, Place, State, Process}
use Rattle.process.specs.Process.{letter_of, state_of, own_list, posted_list, own_guard}
use Rattle.process.specs.Rules.{Effect, Neither, Own, Both, scan_at, scan_from, sleep_at, scan, try, hand_over, absorb, rule_at, rule}
use Rattle.alternative.specs.declared.Message.{Message}

abbrev pub Differs : Place → Effect → Type 0
Differs place Neither = Unit {0}
Differs place (Own x) = x.place ≡ place → ⊥
Differs place (Both x y) = x.place ≡ place → ⊥

-- a search that starts at k finds nothing before k
found_from : (test : Guard → Bool) (gs : List Guard) (k i : ℕ) → first_from test gs k ≡ Some i → k ≤ i
unfolding first_from
found_from test [] k i e = let z : ◌≡◌ {A = ℕ} 0 1 = cc in absurd (omega arith)
found_from test (g ∷ gs) k i e = go (test g) (found_from test gs (suc k) i) e
  where
    go : (b : Bool) → (first_from test gs (suc k) ≡ Some i → suc k ≤ i) → cond b (Some k) (first_from test gs (suc k)) ≡ Some i → k ≤ i
    go true h f = let z : k ≡ i = cc in omega arith
    go false h f = let l = h f in omega arith

from-differs : (x : Process) (k : ℕ) (place : Place) → ((i : ℕ) → k ≤ i → Place.Scanning i ≡ place → ⊥) → (Place.Posting ≡ place → ⊥) → Differs place (scan_from x k)
unfolding scan_from next_enabled
from-differs x k place h g = go (next_enabled (own_list x) k) refl
  where
    go : (f : Option ℕ) → next_enabled (own_list x) k ≡ f → scan_at f ≡ place → ⊥
    go (Some i) e = h i (found_from (λ g. g.enabled) (drop k (own_list x)) k i e)
    go None e = g

after-differs : (x : Process) (i : ℕ) → Differs (Place.Scanning i) (scan_from x (suc i))
after-differs x i = from-differs x (suc i) (Place.Scanning i) (λ j h e. let z : j ≡ i = cc in omega arith) (λ e. let z : code "P" ≡ code "A" = ap letter_of e in omega arith)

other_differs : (x : Process) (k : ℕ) (place : Place) → (letter_of place ≡ code "A" → ⊥) → (letter_of place ≡ code "P" → ⊥) → Differs place (scan_from x k)
other_differs x k place h g = from-differs x k place (λ i _ e. h (sym (ap letter_of e))) (λ e. g (sym (ap letter_of e)))

sleep-differs : (x : Process) (s : ℕ) (early : Bool) → Differs (Place.Asleep s) (sleep_at x s early)
sleep-differs x s true = λ e. let z : s + 1 ≡ s = cc in omega arith
sleep-differs x s false = other_differs x 0 (Place.Asleep s) (omega arith) (omega arith)

scan-differs : (x : Process) (i : ℕ) (s : State) (older : Bool) → Differs (Place.Scanning i) (scan x i s older)
scan-differs x i State.Running older = after-differs x i
scan-differs x i State.Sleeping older = after-differs x i
scan-differs x i State.Waiting older = λ e. let z : code "T" ≡ code "A" = ap letter_of e in omega arith
scan-differs x i State.Alt true = λ e. let z : code "S" ≡ code "A" = ap letter_of e in omega arith
scan-differs x i State.Alt false = tt

try-differs : (x : Process) (i : ℕ) (y : Process) (accepting : Bool) (found : Option ℕ) → Differs (Place.Trying i) (try x i y accepting found)
try-differs x i y true (Some j) = λ e. let z : code "C" ≡ code "T" = ap letter_of e in omega arith
try-differs x i y true None = other_differs x (suc i) (Place.Trying i) (omega arith) (omega arith)
try-differs x i y false (Some j) = other_differs x (suc i) (Place.Trying i) (omega arith) (omega arith)
try-differs x i y false None = other_differs x (suc i) (Place.Trying i) (omega arith) (omega arith)

absorb-differs : (x : Process) (s : Option (ℕ × Message)) → Differs Place.Waiting (absorb x s)
absorb-differs x (Some (j, m)) = λ e. let z : code "M" ≡ code "W" = ap letter_of e in omega arith
absorb-differs x None = tt

at-differs : (d p : ℕ) (x : Process) (q : ℕ) (y : Process) (place : Place) → Differs place (rule_at d p x q y place)
unfolding hand_over
at-differs d p x q y Place.Entering = other_differs x 0 Place.Entering (omega arith) (omega arith)
at-differs d p x q y (Place.Asleep s) = sleep-differs x s (ltb (s + 1) d)
at-differs d p x q y (Place.Scanning i) = scan-differs x i (state_of y.place) (ltb y.transaction.0 x.transaction.0)
at-differs d p x q y (Place.Trying i) = try-differs x i y y.accepting (kept_match p (own_guard x i) q (posted_list y))
at-differs d p x q y (Place.Committed i j) = λ e. let z : code "M" ≡ code "C" = ap letter_of e in omega arith
at-differs d p x q y Place.Posting = λ e. let z : code "O" ≡ code "P" = ap letter_of e in omega arith
at-differs d p x q y Place.Opening = λ e. let z : code "H" ≡ code "O" = ap letter_of e in omega arith
at-differs d p x q y Place.Showing = λ e. let z : code "W" ≡ code "H" = ap letter_of e in omega arith
at-differs d p x q y Place.Waiting = absorb-differs x x.signal
at-differs d p x q y Place.Idle = tt
at-differs d p x q y (Place.Met i m) = tt

pub rule-differs : (d p : ℕ) (x : Process) (q : ℕ) (y : Process) → Differs x.place (rule d p x q y)
unfolding rule
rule-differs d p x q y = at-differs d p x q y x.place
