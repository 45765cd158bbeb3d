-- To be believed. Document 01, "The fifteen step rules", with rules 2 and 7 as CRs 3 and 5 of document 02 have them.
use Rattle.std.specs.Prelude.{◌+◌, Option, Some, None}
use Rattle.alternative.specs.Guards.{kept_match, next_enabled}
use Rattle.alternative.specs.Exchange.{sent_by, received_by}
use Rattle.process.specs.Types.{ℕ, suc, Bool, true, false, ltb, Place, State, Process}
use Rattle.process.specs.Process.{state_of, index_of, own_list, posted_list, own_guard, posted_guard}
use Rattle.alternative.specs.declared.Message.{Message}

-- What a rule changes: neither record, that of the process that steps, or both, its own and its partner's.
pub data Effect : Type 0 where
  Neither : Effect
  Own : Process → Effect
  Both : Process → Process → Effect

-- a record with another place, signal or wake count (0 where it is accepting), or with its own list posted
abbrev pub changed : Process → Place → Option (ℕ × Message) → Bool → Process
changed x place signal accepting = record { place = place; signal = signal; transaction = x.transaction; accepting = accepting; count = x.count; altcount = x.altcount; guards = x.guards; altlist = x.altlist }

abbrev pub at_place : Process → Place → Process
at_place x place = changed x place x.signal x.accepting

abbrev pub with_signal : Process → Option (ℕ × Message) → Process
with_signal x signal = changed x x.place signal x.accepting

abbrev pub with_accepting : Process → Bool → Process
with_accepting x accepting = changed x x.place x.signal accepting

abbrev pub with_own_posted : Process → Process
with_own_posted x = record { place = x.place; signal = x.signal; transaction = x.transaction; accepting = x.accepting; count = x.count; altcount = x.count; guards = x.guards; altlist = x.guards }

-- "to A at the first enabled guard, or P if there is none": at or after index k; "Next" after guard i is the same with k = i + 1
abbrev pub scan_at : Option ℕ → Place
scan_at (Some i) = Place.Scanning i
scan_at None = Place.Posting

unfoldable pub scan_from : Process → ℕ → Effect
scan_from x k = Own (at_place x (scan_at (next_enabled (own_list x) k)))

-- CR 3, rule 2, at S after s own steps there: "a sleeper leaves S at its d-th own step there", by document 01's rule 2, "the same as rule 1, with the same ticket". This is step s + 1;
-- "Its earlier steps count as changes": one before the d-th adds 1 to s.
abbrev pub sleep_at : Process → ℕ → Bool → Effect
sleep_at x s true = Own (at_place x (Place.Asleep (s + 1)))
sleep_at x s false = scan_from x 0

abbrev pub sleep : ℕ → Process → ℕ → Effect
sleep d x s = sleep_at x s (ltb (s + 1) d)

-- rules 3 to 6, at A at guard i: by the partner's word, and whether its ticket is smaller
abbrev pub scan : Process → ℕ → State → Bool → Effect
scan x i State.Running older = scan_from x (suc i)
scan x i State.Sleeping older = scan_from x (suc i)
scan x i State.Waiting older = Own (at_place x (Place.Trying i))
scan x i State.Alt true = Own (at_place x (Place.Asleep 0))
scan x i State.Alt false = Neither

-- rules 7 and 8, at T at guard i: by the partner's wake count, and what the search in its posted list finds (CR 5: the guard to be kept)
abbrev pub try : Process → ℕ → Process → Bool → Option ℕ → Effect
try x i y true (Some j) = Both (at_place x (Place.Committed i j)) (with_accepting y false)
try x i y true None = scan_from x (suc i)
try x i y false (Some j) = scan_from x (suc i)
try x i y false None = scan_from x (suc i)

-- rule 9, at C with guard i and the kept index j
unfoldable pub hand_over : Process → ℕ → ℕ → Process → Effect
hand_over x i j y =
    let own = (own_guard x i).action in
    let kept = (posted_guard y j).action in
    Both (at_place x (Place.Met i (received_by own kept))) (with_signal y (Some (j, sent_by own)))

-- rules 13 and 14
abbrev pub absorb : Process → Option (ℕ × Message) → Effect
absorb x (Some (j, m)) = Own (at_place (with_signal x None) (Place.Met j m))
absorb x None = Neither

-- The rules, by the place of process p with record x, in a table with nap length d; the guard at A, T or C names process q with record y.
abbrev pub rule_at : ℕ → ℕ → Process → ℕ → Process → Place → Effect
-- rules 1 and 2
rule_at d p x q y Place.Entering = scan_from x 0
rule_at d p x q y (Place.Asleep s) = sleep d x s
-- rules 3 to 6
rule_at d p x q y (Place.Scanning i) = scan x i (state_of y.place) (ltb y.transaction.0 x.transaction.0)
-- rules 7 and 8
rule_at d p x q y (Place.Trying i) = try x i y y.accepting (kept_match p (own_guard x i) q (posted_list y))
-- rule 9
rule_at d p x q y (Place.Committed i j) = hand_over x i j y
-- rules 10 to 12
rule_at d p x q y Place.Posting = Own (at_place (with_own_posted x) Place.Opening)
rule_at d p x q y Place.Opening = Own (at_place (with_accepting x true) Place.Showing)
rule_at d p x q y Place.Showing = Own (at_place x Place.Waiting)
-- rules 13 and 14
rule_at d p x q y Place.Waiting = absorb x x.signal
-- rule 15
rule_at d p x q y Place.Idle = Neither
rule_at d p x q y (Place.Met i m) = Neither

unfoldable pub rule : ℕ → ℕ → Process → ℕ → Process → Effect
rule d p x q y = rule_at d p x q y x.place

-- the process that the guard at A, T or C names; at other places no rule reads it
abbrev pub named_by : Process → Option ℕ → ℕ
named_by x (Some i) = (own_guard x i).partner
named_by x None = 0

abbrev pub partner_of : Process → ℕ
partner_of x = named_by x (index_of x.place)

-- whether a rule changes anything
abbrev pub changes : Effect → Bool
changes Neither = false
changes (Own x) = true
changes (Both x y) = true
