-- Which rules change anything: exactly those other than 6, 14 and 15.
use Rattle.std.specs.Prelude.{Option, Some, None}
use Prim.Native.Nat.{ℕ, ◌+◌}
use mathlib.Core.Path.{◌≡◌, refl, sym, ap, ◌∙◌}
use mathlib.Core.Bool.{Bool, true, false, not, ◌||◌}
use lib.Dec.{eqb, ltb, leb}
use borrow.Author.Tests.{ltb-true, ltb-false, le-leb, lt-leb}
use Rattle.alternative.specs.Guards.{kept_match}
use Rattle.process.specs.Types.{Place, State, Process}
use Rattle.process.specs.Process.{state_of, posted_list, own_guard}
use Rattle.process.specs.Rules.{scan_from, sleep_at, scan, try, hand_over, absorb, rule_at, rule, changes}
use Rattle.process.specs.Private.{held_by, changes_at}
use Rattle.std.specs.Prelude.{is_some}
use Rattle.alternative.specs.declared.Message.{Message}

-- document 01's number of the rule that applies
abbrev scan_number : State → Bool → ℕ
scan_number State.Running older = 3
scan_number State.Sleeping older = 3
scan_number State.Waiting older = 4
scan_number State.Alt true = 5
scan_number State.Alt false = 6

abbrev try_number : Bool → Option ℕ → ℕ
try_number true (Some j) = 7
try_number true None = 8
try_number false (Some j) = 8
try_number false None = 8

abbrev absorb_number : Option (ℕ × Message) → ℕ
absorb_number (Some (j, m)) = 13
absorb_number None = 14

abbrev number_at : ℕ → Process → ℕ → Process → Place → ℕ
number_at p x q y Place.Entering = 1
number_at p x q y (Place.Asleep s) = 2
number_at p x q y (Place.Scanning i) = scan_number (state_of y.place) (ltb y.transaction.0 x.transaction.0)
number_at p x q y (Place.Trying i) = try_number y.accepting (kept_match p (own_guard x i) q (posted_list y))
number_at p x q y (Place.Committed i j) = 9
number_at p x q y Place.Posting = 10
number_at p x q y Place.Opening = 11
number_at p x q y Place.Showing = 12
number_at p x q y Place.Waiting = absorb_number x.signal
number_at p x q y Place.Idle = 15
number_at p x q y (Place.Met i m) = 15

abbrev Moving : ℕ → Bool
Moving number = not (eqb number 6 || (eqb number 14 || eqb number 15))

-- every step at S changes something
pub sleep-changes : (x : Process) (s : ℕ) (early : Bool) → changes (sleep_at x s early) ≡ true
unfolding scan_from
sleep-changes x s true = refl
sleep-changes x s false = refl

scan-number : (x : Process) (i : ℕ) (s : State) (older : Bool) → changes (scan x i s older) ≡ Moving (scan_number s older)
unfolding scan_from
scan-number x i State.Running older = refl
scan-number x i State.Sleeping older = refl
scan-number x i State.Waiting older = refl
scan-number x i State.Alt true = refl
scan-number x i State.Alt false = refl

try-number : (x : Process) (i : ℕ) (y : Process) (accepting : Bool) (found : Option ℕ) → changes (try x i y accepting found) ≡ Moving (try_number accepting found)
unfolding scan_from
try-number x i y true (Some j) = refl
try-number x i y true None = refl
try-number x i y false (Some j) = refl
try-number x i y false None = refl

absorb-number : (x : Process) (s : Option (ℕ × Message)) → changes (absorb x s) ≡ Moving (absorb_number s)
absorb-number x (Some (j, m)) = refl
absorb-number x None = refl

-- the law: by document 01's numbers
pub moving-rules : (d p : ℕ) (x : Process) (q : ℕ) (y : Process) (place : Place) → changes (rule_at d p x q y place) ≡ Moving (number_at p x q y place)
unfolding scan_from hand_over
moving-rules d p x q y Place.Entering = refl
moving-rules d p x q y (Place.Asleep s) = sleep-changes x s (ltb (s + 1) d)
moving-rules d p x q y (Place.Scanning i) = scan-number x i (state_of y.place) (ltb y.transaction.0 x.transaction.0)
moving-rules d p x q y (Place.Trying i) = try-number x i y y.accepting (kept_match p (own_guard x i) q (posted_list y))
moving-rules d p x q y (Place.Committed i j) = refl
moving-rules d p x q y Place.Posting = refl
moving-rules d p x q y Place.Opening = refl
moving-rules d p x q y Place.Showing = refl
moving-rules d p x q y Place.Waiting = absorb-number x x.signal
moving-rules d p x q y Place.Idle = refl
moving-rules d p x q y (Place.Met i m) = refl

-- the code's test of rules 3 to 6: what is not smaller is at least as great
held-scan : (x : Process) (i : ℕ) (s : State) (a b : ℕ) → not (held_by s (leb a b)) ≡ changes (scan x i s (ltb b a))
unfolding scan_from
held-scan x i State.Running a b = refl
held-scan x i State.Sleeping a b = refl
held-scan x i State.Waiting a b = refl
held-scan x i State.Alt a b = go (ltb b a) refl
  where
    go : (older : Bool) → ltb b a ≡ older → not (leb a b) ≡ changes (scan x i State.Alt older)
    go true e = rw (lt-leb a b (ltb-true b a e))
    go false e = rw (le-leb a b (ltb-false b a e))

present-absorb : (x : Process) (s : Option (ℕ × Message)) → is_some s ≡ changes (absorb x s)
present-absorb x (Some (j, m)) = refl
present-absorb x None = refl

-- rules 7 and 8 always change something
pub try-changes : (x : Process) (i : ℕ) (y : Process) (accepting : Bool) (found : Option ℕ) → changes (try x i y accepting found) ≡ true
unfolding scan_from
try-changes x i y true (Some j) = refl
try-changes x i y true None = refl
try-changes x i y false (Some j) = refl
try-changes x i y false None = refl

changes-at : (d p : ℕ) (x : Process) (q : ℕ) (y : Process) (place : Place) → changes_at x y place ≡ changes (rule_at d p x q y place)
unfolding scan_from hand_over
changes-at d p x q y Place.Entering = refl
changes-at d p x q y (Place.Asleep s) = sym (sleep-changes x s (ltb (s + 1) d))
changes-at d p x q y (Place.Scanning i) = held-scan x i (state_of y.place) x.transaction.0 y.transaction.0
changes-at d p x q y (Place.Trying i) = sym (try-changes x i y y.accepting (kept_match p (own_guard x i) q (posted_list y)))
changes-at d p x q y (Place.Committed i j) = refl
changes-at d p x q y Place.Posting = refl
changes-at d p x q y Place.Opening = refl
changes-at d p x q y Place.Showing = refl
changes-at d p x q y Place.Waiting = present-absorb x x.signal
changes-at d p x q y Place.Idle = refl
changes-at d p x q y (Place.Met i m) = refl

-- what the code tells of a record's place holds whatever the numbers of the process and its partner are
pub changes-told : (x y : Process) (place : Place) (r : Bool) → x.place ≡ place → r ≡ changes_at x y place → (d p q : ℕ) → r ≡ changes (rule d p x q y)
unfolding rule
changes-told x y place r e f d p q = f ∙ changes-at d p x q y place ∙ sym (ap (λ (l : Place). changes (rule_at d p x q y l)) e)
