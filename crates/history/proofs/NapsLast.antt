-- A nap lasts d own steps: how many answers S a process has got in a row is told by its place, on every table that is reached.
use Rattle.std.specs.Prelude.{Option, Some, None, Result, Ok, Err}
use Prim.Native.Nat.{ℕ, ◌+◌, ◌<◌}
use Prim.Native.Char.{code}
use mathlib.Core.Path.{◌≡◌, refl, ap, ◌∙◌, subst, subst⁻¹}
use mathlib.Core.Bool.{Bool, true, false, cond}
use mathlib.Core.List.{List, [], ◌∷◌}
use native.Mathlib.Omega.{arith}
use lib.Dec.{eqb, ltb}
use borrow.Author.Tests.{eqb-true, ltb-true, lt-ltb, le-ltb}
use Rattle.alternative.specs.declared.Guard.{Guard}
use Rattle.alternative.specs.Guards.{kept_match, next_enabled, lent}
use Rattle.process.specs.declared.Place.{Place}
use Rattle.process.specs.declared.State.{State}
use Rattle.process.specs.declared.Process.{Process}
use Rattle.process.specs.Process.{carried, letter_of, is_at, state_of, index_of, own_list, posted_list, own_guard}
use Rattle.process.specs.Rules.{Effect, Neither, Own, Both, scan_at, scan_from, sleep_at, scan, try, hand_over, absorb, rule_at, rule, partner_of}
use Rattle.process.proofs.PlaceCases.{by-carried}
use Rattle.process.proofs.OnlyTold.{OnlyTold, rule-only-told}
use Rattle.process.proofs.RuleLaws.{rule-at}
use Rattle.rendezvous.specs.declared.ProcessTable.{ProcessTable}
use Rattle.rendezvous.specs.declared.Answer.{Answer}
use Rattle.rendezvous.specs.declared.Reply.{Reply}
use Rattle.rendezvous.specs.Table.{process, put, with_meeting, fresh_table}
use Rattle.rendezvous.specs.Refusals.{process_verdict}
use Rattle.rendezvous.specs.Numbers.{Said, place, said}
use Rattle.rendezvous.specs.Calls.{entering, offered, effect_on, applied, stepped, step}
use Rattle.rendezvous.specs.Run.{Call, Offer, Step, Collect, Withdraw, reply_to, said_to, table_after, after_all, table_after_all}
use Rattle.rendezvous.proofs.Verdicts.{Admitted}
use Rattle.history.specs.NapsLast.{caller_of, slept_on, slept, NapLasts, NapsLast}
use Rattle.history.proofs.View.{View, upd}
use Rattle.history.proofs.Invariant.{PlaceFormed, Good}
use Rattle.history.proofs.GoodTable.{partner-below, put_one, put_two, good-after, fresh-each, good-fresh}
use Rattle.history.proofs.Fitting.{well-formed}
use Rattle.history.proofs.Replies.{offer-elim, step-elim, collect-elim, withdraw-elim}
use Rattle.alternative.specs.declared.Message.{Message}
use Rattle.rendezvous.specs.declared.Refusal.{Refusal}

-- s answers S in a row go with a place: none elsewhere than at S, and there one more than the steps made
abbrev Counts : ℕ → Place → Type 0
Counts s at = carried (s ≡ 0) (λ i. s ≡ 0) (λ i j. s ≡ 0) (λ k. s ≡ k + 1) (λ i m. s ≡ 0) at

-- a step to this place, answered so, leaves a row that goes with it
abbrev Goes : ℕ → Place → Type 0
Goes s to = Counts (slept_on s (place (letter_of to) (index_of to))) to

abbrev StepCounts : ℕ → Effect → Type 0
StepCounts s Neither = Unit {0}
StepCounts s (Own x) = Goes s x.place
StepCounts s (Both x y) = Goes s x.place

module _ (s : ℕ) (x : Process) where
  from-counts : (k : ℕ) → StepCounts s (scan_from x k)
  unfolding scan_from
  from-counts k = go (next_enabled (own_list x) k)
    where
      go : (f : Option ℕ) → Goes s (scan_at f)
      go (Some i) = refl
      go None = refl

  sleep-counts : (k : ℕ) (early : Bool) → s ≡ k + 1 → StepCounts s (sleep_at x k early)
  sleep-counts k true e = omega arith
  sleep-counts k false e = from-counts 0

  scan-counts : (i : ℕ) (w : State) (older : Bool) → s ≡ 0 → StepCounts s (scan x i w older)
  scan-counts i State.Running older e = from-counts _
  scan-counts i State.Sleeping older e = from-counts _
  scan-counts i State.Waiting older e = refl
  scan-counts i State.Alt true e = omega arith
  scan-counts i State.Alt false e = tt

  try-counts : (i : ℕ) (y : Process) (accepting : Bool) (found : Option ℕ) → StepCounts s (try x i y accepting found)
  try-counts i y true (Some j) = refl
  try-counts i y true None = from-counts _
  try-counts i y false (Some j) = from-counts _
  try-counts i y false None = from-counts _

  absorb-counts : (signal : Option (ℕ × Message)) → StepCounts s (absorb x signal)
  absorb-counts (Some (j, m)) = refl
  absorb-counts None = tt

  at-counts : (d p q : ℕ) (y : Process) (at : Place) → Counts s at → StepCounts s (rule_at d p x q y at)
  unfolding hand_over
  at-counts d p q y Place.Idle c = tt
  at-counts d p q y Place.Entering c = from-counts 0
  at-counts d p q y (Place.Scanning i) c = scan-counts i (state_of y.place) (ltb y.transaction.0 x.transaction.0) c
  at-counts d p q y (Place.Trying i) c = try-counts i y y.accepting (kept_match p (own_guard x i) q (posted_list y))
  at-counts d p q y (Place.Committed i j) c = refl
  at-counts d p q y Place.Posting c = refl
  at-counts d p q y Place.Opening c = refl
  at-counts d p q y Place.Showing c = refl
  at-counts d p q y (Place.Asleep k) c = sleep-counts k (ltb (k + 1) d) c
  at-counts d p q y Place.Waiting c = absorb-counts x.signal
  at-counts d p q y (Place.Met i m) c = tt

-- of process p, after s answers S in a row, where process q has a call
module _ (p s q : ℕ) where
  -- q gets record x, and its call says this
  counts-upd : (v : View) (x : Process) (says : Said) → (p ≡ q → Counts (slept_on s says) x.place) → Counts s (v p).place → Counts (cond (eqb p q) (slept_on s says) s) (upd v q x p).place
  counts-upd v x says own old = go (eqb p q) refl
    where
      go : (b : Bool) → eqb p q ≡ b → Counts (cond b (slept_on s says) s) (cond b x (v p)).place
      go true e = own (eqb-true p q e)
      go false e = old

  -- the call changes nothing
  counts_same : (at : Place) (says : Said) → slept_on s says ≡ s → Counts s at → Counts (cond (eqb p q) (slept_on s says) s) at
  counts_same at says e c = go (eqb p q)
    where
      go : (b : Bool) → Counts (cond b (slept_on s says) s) at
      go true = subst⁻¹ (λ (k : ℕ). Counts k at) e c
      go false = c

  -- q's partner r is told something, where it stands
  counts-told : (v : View) (r : ℕ) (y : Process) → (v r).place ≡ y.place → Counts s (v p).place → Counts s (upd v r y p).place
  counts-told v r y e c = go (eqb p r) refl
    where
      go : (b : Bool) → eqb p r ≡ b → Counts s (cond b y (v p)).place
      go true f = subst (Counts s) (ap (λ (k : ℕ). (v k).place) (eqb-true p r f) ∙ e) c
      go false f = c

-- the row of process p after a call of q, by its reply, goes with where p then is
abbrev RowAfter : ℕ → ℕ → ℕ → Reply → Type 0
RowAfter p s q reply = Counts (cond (eqb p q) (slept_on s (said reply.answer)) s) (process reply.table p).place

module _ {t : ProcessTable} (good : Good t) (p s : ℕ) (row : Counts s (process t p).place) (q : ℕ) where
  same_row : (answer : Result Answer Refusal) → slept_on s (said answer) ≡ s → RowAfter p s q (record { answer = answer; table = t })
  same_row answer e = counts_same p s q (process t p).place (said answer) e row

  put-row : (x : Process) (answer : Result Answer Refusal) → q < t.head.n → (p ≡ q → Counts (slept_on s (said answer)) x.place) → RowAfter p s q (record { answer = answer; table = put t q x })
  put-row x answer h own = subst⁻¹ (λ (v : View). Counts (cond (eqb p q) (slept_on s (said answer)) s) (v p).place) (put_one good q x h) (counts-upd p s q (process t) x (said answer) own row)

  offered-row : (gs : List Guard) → Admitted t q (lent gs) → RowAfter p s q (offered t q (lent gs))
  unfolding offered entering
  offered-row gs a = put-row (entering (process t q) t.head.next (lent gs)) (Ok (Answer.Offered t.head.next)) a.below (λ _. refl)

  applied-row : q < t.head.n → (r : ℕ) → r < t.head.n → (effect : Effect) → OnlyTold (process t r) effect → (p ≡ q → StepCounts s effect) → RowAfter p s q (applied t q r effect)
  applied-row h r l Neither told own = same_row (Ok Answer.Unchanged) refl
  applied-row h r l (Own x) told own = put-row x (Ok (Answer.Moved x.place)) h own
  applied-row h r l (Both x y) told own =
      let says = said (Ok (Answer.Moved x.place)) in
      subst⁻¹ (λ (v : View). Counts (cond (eqb p q) (slept_on s says) s) (v p).place) (put_two good q x h r y l)
      (counts-upd p s q (upd (process t) r y) x says own (counts-told p s q (process t) r y (ap (λ (z : Process). z.place) told) row))

  stepped-row : q < t.head.n → RowAfter p s q (stepped t q)
  unfolding stepped effect_on rule
  stepped-row h =
      let x = process t q in
      let y = process t (partner_of x) in
      applied-row h (partner_of x) (partner-below good q) (effect_on t q) (rule-only-told t.head.nap q x (partner_of x) y)
      (λ e. at-counts s x t.head.nap q (partner_of x) y x.place (subst (λ (k : ℕ). Counts s (process t k).place) e row))

row-after : (t : ProcessTable) → Good t → (p s : ℕ) → Counts s (process t p).place → (c : Call) → RowAfter p s (caller_of c) (reply_to t c)
unfolding reply_to
row-after t good p s row (Offer q gs) = offer-elim (RowAfter p s q) t (λ r. same_row good p s row q (Err r) refl) q gs (offered-row good p s row q gs)
row-after t good p s row (Step q) = step-elim (RowAfter p s q) t (λ r. same_row good p s row q (Err r) refl) q (stepped-row good p s row q)
row-after t good p s row (Collect q) = collect-elim (RowAfter p s q) t (λ r. same_row good p s row q (Err r) refl) q (λ h i m e. put-row good p s row q _ (Ok (Answer.Collected i (own_guard (process t q) i).partner m)) h (λ _. refl))
row-after t good p s row (Withdraw q) = withdraw-elim (RowAfter p s q) t (λ r. same_row good p s row q (Err r) refl) q (same_row good p s row q (Ok Answer.TooLate) refl) (λ h o. put-row good p s row q _ (Ok Answer.Withdrawn) h (λ _. refl))

-- no call changes the length of a nap
unfoldable SameNap : ProcessTable → Reply → Type 0
SameNap t reply = reply.table.head.nap ≡ t.head.nap

applied-nap : (t : ProcessTable) (p q : ℕ) (effect : Effect) → SameNap t (applied t p q effect)
unfolding SameNap
applied-nap t p q Neither = refl
applied-nap t p q (Own x) = refl
applied-nap t p q (Both x y) = either (is_at "C" x.place)
  where
    either : (met : Bool) → (cond met (with_meeting t.head) t.head).nap ≡ t.head.nap
    either true = refl
    either false = refl

nap-stays : (t : ProcessTable) (c : Call) → SameNap t (reply_to t c)
unfolding SameNap reply_to offered stepped
nap-stays t (Offer p gs) = offer-elim (SameNap t) t (λ r. refl) p gs (λ a. refl)
nap-stays t (Step p) = step-elim (SameNap t) t (λ r. refl) p (λ h. applied-nap t p (partner_of (process t p)) (effect_on t p))
nap-stays t (Collect p) = collect-elim (SameNap t) t (λ r. refl) p (λ h i m e. refl)
nap-stays t (Withdraw p) = withdraw-elim (SameNap t) t (λ r. refl) p refl (λ h o. refl)

-- what a good table says of the next own step, by the row
module _ (t : ProcessTable) (good : Good t) (p s : ℕ) where
  awake : s ≡ 0 → NapLasts t.head.nap p t s
  awake e = record { most = omega arith; goes_on = λ a b. absurd (omega arith); ends = λ f. absurd (omega (arith, good.naps)) }

  module _ (k : ℕ) (e : (process t p).place ≡ Place.Asleep k) where
    -- what a step of the sleeper says
    says : (early : Bool) → ltb (k + 1) t.head.nap ≡ early → said_to t (Step p) ≡ said (applied t p 0 (sleep_at (process t p) k early)).answer
    unfolding reply_to step process_verdict stepped effect_on scan_from
    says early f = rw (well-formed t good, lt-ltb p t.head.n ((good.inv.alone p).there (rw e refl)), rule-at t.head.nap p (process t p) _ _ (Place.Asleep k) e, f) (elsewhere early)
      where
        -- no rule at S tells a partner anything, so it may be any
        elsewhere : (early : Bool) → said (applied t p (partner_of (process t p)) (sleep_at (process t p) k early)).answer ≡ said (applied t p 0 (sleep_at (process t p) k early)).answer
        elsewhere true = refl
        elsewhere false = refl

    leaves : (letter : ℕ) × (index : Option ℕ) × (said (applied t p 0 (scan_from (process t p) 0)).answer ≡ place letter index) × (letter ≡ code "S" → ⊥)
    unfolding scan_from
    leaves = go (next_enabled (own_list (process t p)) 0)
      where
        go : (f : Option ℕ) → (letter : ℕ) × (index : Option ℕ) × (place (letter_of (scan_at f)) (index_of (scan_at f)) ≡ place letter index) × (letter ≡ code "S" → ⊥)
        go (Some i) = (code "A", Some i, refl, λ z. omega arith)
        go None = (code "P", None, refl, λ z. omega arith)

    asleep : s ≡ k + 1 → NapLasts t.head.nap p t s
    asleep f =
        let made = ltb-true k t.head.nap (subst (PlaceFormed t.head.nap (process t p).count) e (good.formed p).place) in
        record {
          most = omega arith;
          goes_on = λ a b. says true (lt-ltb (k + 1) t.head.nap (omega arith));
          ends = λ g. rw (says false (le-ltb (k + 1) t.head.nap (omega arith))) leaves;
        }

  lasts : Counts s (process t p).place → NapLasts t.head.nap p t s
  lasts = by-carried (λ (X : Type 0). X → NapLasts t.head.nap p t s) (s ≡ 0) _ _ _ _ (process t p).place awake (λ i e. awake) (λ i j e. awake) asleep (λ i m e. awake)

-- over a list of calls
all-last : (t : ProcessTable) → Good t → (p s : ℕ) → Counts s (process t p).place → (calls : List Call) → NapLasts t.head.nap p (table_after_all t calls) (slept p s t calls)
unfolding slept after_all SameNap
all-last t good p s row [] = lasts t good p s row
all-last t good p s row (c ∷ cs) =
    subst (λ (d : ℕ). NapLasts d p (table_after_all (table_after t c) cs) (slept p (cond (eqb p (caller_of c)) (slept_on s (said_to t c)) s) (table_after t c) cs)) (nap-stays t c)
    (all-last (table_after t c) (good-after t good c) p _ (row-after t good p s row c) cs)

pub naps-last : NapsLast
naps-last n d least most naps calls p = all-last (fresh_table n d) (good-fresh n d least most naps) p 0 (fresh-each (λ x. Counts 0 x.place) refl refl n d p) calls
