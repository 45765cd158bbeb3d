-- Where no guard that is offered has a rank, no guard of a table has one: a call writes no others into it.
use Rattle.std.specs.Prelude.{Option, Some, None, Result, Ok, Err, ⊤}
use Prim.Native.Nat.{ℕ, zero, suc, ◌+◌}
use mathlib.Core.Path.{◌≡◌, refl, ◌∙◌, ap, subst}
use mathlib.Core.Bool.{Bool, true, false}
use mathlib.Core.List.{List, [], ◌∷◌, ◌++◌}
use lib.ListN.{get_or, take, set, length, replicate}
use lib.Dec.{ltb}
use Rattle.alternative.specs.declared.Guard.{Guard}
use Rattle.alternative.specs.Guards.{most_guards, blank, kept_match, slots, lent}
use Rattle.alternative.specs.Ranks.{AllOfRank}
use Rattle.alternative.proofs.Slots.{blank-past}
use Rattle.alternative.proofs.Decided.{standing, ranks-decide}
use Rattle.process.specs.declared.Place.{Place}
use Rattle.process.specs.declared.State.{State}
use Rattle.process.specs.declared.Process.{Process}
use Rattle.process.specs.Process.{nobody, fresh_process, state_of, own_guard, posted_list}
use Rattle.process.specs.Rules.{Effect, Neither, Own, Both, scan_from, sleep_at, scan, try, hand_over, absorb, rule_at, rule, partner_of}
use Rattle.process.proofs.PlaceCases.{if-met}
use Rattle.rendezvous.specs.Types.{ProcessTable, Refusal, Reply}
use Rattle.rendezvous.specs.Table.{most_processes, process, put, fresh_table}
use Rattle.rendezvous.specs.Refusals.{process_verdict, offer_verdict, withdraw_verdict}
use Rattle.rendezvous.specs.Calls.{refused, if_accepted, entering, offered, offer_list, effect_on, applied, stepped, step, collect, commit_came_first, withdrawn_or_late, withdraw}
use Rattle.rendezvous.specs.Run.{Call, Offer, Step, Collect, Withdraw, reply_to, table_after, after_all, table_after_all}
use Rattle.rendezvous.specs.WithoutRanks.{NoRank, NoRanks, AsBefore, CallsWithoutRanks}
use Rattle.alternative.specs.declared.Message.{Message}

-- all slots of a list have rank 0
abbrev pub Bare : List Guard → Type 0
Bare gs = (k : ℕ) → (get_or gs k blank).rank ≡ 0

bare_of : (gs : List Guard) → AllOfRank 0 gs → Bare gs
bare_of [] h k = refl
bare_of (g ∷ gs) h zero = h 0 g refl
bare_of (g ∷ gs) h (suc k) = bare_of gs (λ i. h (suc i)) k

bare-take : (n : ℕ) (gs : List Guard) → Bare gs → Bare (take n gs)
bare-take zero gs h k = refl
bare-take (suc n) [] h k = refl
bare-take (suc n) (g ∷ gs) h zero = h 0
bare-take (suc n) (g ∷ gs) h (suc k) = bare-take n gs (λ i. h (suc i)) k

bare-slots : (gs : List Guard) → Bare gs → Bare (slots gs)
unfolding slots
bare-slots gs h = bare-take most_guards (gs ++ replicate most_guards blank) (λ k. ap (λ (g : Guard). g.rank) (blank-past gs most_guards k) ∙ h k)

-- both lists of a record
abbrev pub BareRecord : Process → Type 0
BareRecord x = Bare x.guards × Bare x.altlist

abbrev pub BareTable : ProcessTable → Type 0
BareTable t = (p : ℕ) → BareRecord (process t p)

-- a search in a posted list of such a table is document 01's
pub bare-search : (t : ProcessTable) → BareTable t → AsBefore t
bare-search t bare p g q =
    let y = process t q in
    ranks-decide.as_before p g q (posted_list y) 0 (λ k h e. subst (λ (h : Guard). h.rank ≡ 0) (standing (posted_list y) k h e) (bare-take y.altcount y.altlist (bare q).1 k))

-- what holds of each element, and of one that is put among them
each_set : {A : Type 0} (P : A → Type 0) (xs : List A) (p : ℕ) (x d : A) → P x → ((q : ℕ) → P (get_or xs q d)) → (q : ℕ) → P (get_or (set xs p x) q d)
each_set P [] p x d new old q = old q
each_set P (y ∷ ys) zero x d new old zero = new
each_set P (y ∷ ys) zero x d new old (suc q) = old (suc q)
each_set P (y ∷ ys) (suc p) x d new old zero = old 0
each_set P (y ∷ ys) (suc p) x d new old (suc q) = each_set P ys p x d new (λ r. old (suc r)) q

bare-put : (t : ProcessTable) (p : ℕ) (x : Process) → BareTable t → BareRecord x → BareTable (put t p x)
bare-put t p x bare new = each_set BareRecord t.processes p x nobody new bare

-- a rule posts the own list, or leaves all lists as they are
abbrev BareEffect : Effect → Type 0
BareEffect Neither = Unit {0}
BareEffect (Own x) = BareRecord x
BareEffect (Both x y) = BareRecord x × BareRecord y

module _ (x y : Process) (own : BareRecord x) (other : BareRecord y) where
  scan-bare : (i : ℕ) (s : State) (older : Bool) → BareEffect (scan x i s older)
  unfolding scan_from
  scan-bare i State.Running older = own
  scan-bare i State.Sleeping older = own
  scan-bare i State.Waiting older = own
  scan-bare i State.Alt true = own
  scan-bare i State.Alt false = tt

  sleep-bare : (s : ℕ) (early : Bool) → BareEffect (sleep_at x s early)
  unfolding scan_from
  sleep-bare s true = own
  sleep-bare s false = own

  try-bare : (i : ℕ) (accepting : Bool) (found : Option ℕ) → BareEffect (try x i y accepting found)
  unfolding scan_from
  try-bare i true (Some j) = (own, other)
  try-bare i true None = own
  try-bare i false (Some j) = own
  try-bare i false None = own

  absorb-bare : (s : Option (ℕ × Message)) → BareEffect (absorb x s)
  absorb-bare (Some (j, m)) = own
  absorb-bare None = tt

  at_bare : (d p q : ℕ) (place : Place) → BareEffect (rule_at d p x q y place)
  unfolding scan_from hand_over
  at_bare d p q Place.Entering = own
  at_bare d p q (Place.Asleep s) = sleep-bare s (ltb (s + 1) d)
  at_bare d p q (Place.Scanning i) = scan-bare i (state_of y.place) (ltb y.transaction.0 x.transaction.0)
  at_bare d p q (Place.Trying i) = try-bare i y.accepting (kept_match p (own_guard x i) q (posted_list y))
  at_bare d p q (Place.Committed i j) = (own, other)
  at_bare d p q Place.Posting = (own.0, own.0)
  at_bare d p q Place.Opening = own
  at_bare d p q Place.Showing = own
  at_bare d p q Place.Waiting = absorb-bare x.signal
  at_bare d p q Place.Idle = tt
  at_bare d p q (Place.Met i m) = tt

  rule-bare : (d p q : ℕ) → BareEffect (rule d p x q y)
  unfolding rule
  rule-bare d p q = at_bare d p q x.place

applied-bare : (t : ProcessTable) (p q : ℕ) (e : Effect) → BareTable t → BareEffect e → BareTable (applied t p q e).table
applied-bare t p q Neither bare e = bare
applied-bare t p q (Own x) bare e = bare-put t p x bare e
applied-bare t p q (Both x y) bare e = bare-put (put t q y) p x (bare-put t q y bare e.1) e.0

pub if-bare : (v : Result ⊤ Refusal) (t : ProcessTable) (reply : Reply) → BareTable t → BareTable reply.table → BareTable (if_accepted v t reply).table
if-bare (Ok tt) t reply bare after = after
if-bare (Err r) t reply bare after = bare

module _ (t : ProcessTable) (bare : BareTable t) where
  offer-bare : (p : ℕ) (gs : List Guard) → Bare gs → BareTable (offer_list t p (lent gs)).table
  unfolding offer_list offered entering lent
  offer-bare p gs h = if-bare (offer_verdict t p (lent gs)) t _ bare
      (each_set BareRecord t.processes p _ nobody (bare-slots (take (length gs) (slots gs)) (bare-take (length gs) (slots gs) (bare-slots gs h)), (bare p).1) bare)

  step-bare : (p : ℕ) → BareTable (step t p).table
  unfolding step stepped effect_on
  step-bare p = let q = partner_of (process t p) in if-bare (process_verdict t p) t _ bare (applied-bare t p q (effect_on t p) bare (rule-bare (process t p) (process t q) (bare p) (bare q) t.head.nap p q))

  collect-bare : (p : ℕ) → BareTable (collect t p).table
  unfolding collect
  collect-bare p = if-bare (process_verdict t p) t _ bare (if-met (λ (r : Reply). BareTable r.table) (refused Refusal.NotMet t) _ (process t p).place (λ i m e. bare-put t p _ bare (bare p)) bare)

  withdraw-bare : (p : ℕ) → BareTable (withdraw t p).table
  unfolding withdraw
  withdraw-bare p = if-bare (withdraw_verdict t p) t _ bare (by (commit_came_first (process t p).place (process t p).accepting))
    where
      by : (first : Bool) → BareTable (withdrawn_or_late t p (process t p) first).table
      by true = bare
      by false = bare-put t p _ bare (bare p)

  pub call-bare : (c : Call) → NoRank c → BareTable (reply_to t c).table
  unfolding reply_to
  call-bare (Offer p gs) h = offer-bare p gs (bare_of gs h)
  call-bare (Step p) h = step-bare p
  call-bare (Collect p) h = collect-bare p
  call-bare (Withdraw p) h = withdraw-bare p

-- a fresh table has none
each-replicate : {A : Type 0} (P : A → Type 0) (n : ℕ) (x d : A) → P x → P d → (q : ℕ) → P (get_or (replicate n x) q d)
each-replicate P zero x d new old q = old
each-replicate P (suc n) x d new old zero = new
each-replicate P (suc n) x d new old (suc q) = each-replicate P n x d new old q

blanks-bare : (n : ℕ) → Bare (replicate n blank)
blanks-bare n = each-replicate (λ (g : Guard). g.rank ≡ 0) n blank blank refl refl

pub fresh-bare : (n d : ℕ) → BareTable (fresh_table n d)
fresh-bare n d = each-replicate BareRecord most_processes fresh_process nobody (blanks-bare most_guards, blanks-bare most_guards) (blanks-bare 0, blanks-bare 0)

calls-bare : (t : ProcessTable) → BareTable t → (calls : List Call) → NoRanks calls → BareTable (table_after_all t calls)
unfolding after_all
calls-bare t bare [] h = bare
calls-bare t bare (c ∷ cs) h = calls-bare (table_after t c) (call-bare t bare c h.0) cs h.1

pub calls-without-ranks : CallsWithoutRanks
calls-without-ranks n d calls h = bare-search (table_after_all (fresh_table n d) calls) (calls-bare (fresh_table n d) (fresh-bare n d) calls h)
