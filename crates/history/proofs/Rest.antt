-- Where no rule would change anything, no two open offers match.
use Rattle.std.specs.Prelude.{Some, None}
use Prim.Native.Nat.{ℕ, zero, suc, ◌+◌, ◌≤◌, ◌<◌}
use mathlib.Core.Path.{◌≡◌, refl, sym, ◌∙◌, subst}
use mathlib.Core.Bool.{Bool, true, false, cond, false≢true, true≢false}
use Rattle.std.proofs.lemmas.Option.{none-some}
use native.Mathlib.Omega.{arith}
use lib.Dec.{ltb}
use borrow.Author.Tests.{ltb-true, ltb-false}
use Rattle.alternative.specs.Guards.{kept_match, offers_match}
use Rattle.process.specs.declared.Place.{Place}
use Rattle.process.specs.declared.State.{State}
use Rattle.process.specs.declared.Process.{Process}
use Rattle.rendezvous.specs.declared.ProcessTable.{ProcessTable}
use Rattle.process.specs.Process.{state_of, index_of, own_list, posted_list, own_guard, open_at, is_open}
use Rattle.rendezvous.specs.Table.{process, has_open_offer}
use Rattle.process.specs.Rules.{scan_from, scan, hand_over, rule_at, rule, named_by, changes}
use Rattle.process.proofs.Movers.{sleep-changes, try-changes}
use Rattle.rendezvous.specs.Calls.{effect_on}
use Rattle.alternative.proofs.Tests.{and_parts}
use Rattle.history.specs.Book.{Transaction}
use Rattle.history.specs.Tables.{offer_by, open_offer}
use Rattle.history.proofs.Invariant.{Past, QuietState, WaitingState, Good}
use Rattle.history.proofs.Matches.{no-match}
use Rattle.history.proofs.Facts.{at_names}

-- a process at A that does not move: its partner has the word ALT and no smaller ticket
record Stopped (x y : Process) : Type 0 where
  busy : state_of y.place ≡ State.Alt
  younger : x.transaction.0 ≤ y.transaction.0

scan-stopped : (x y : Process) (i : ℕ) (s : State) → state_of y.place ≡ s → (older : Bool) → ltb y.transaction.0 x.transaction.0 ≡ older → changes (scan x i s older) ≡ false → Stopped x y
unfolding scan_from
scan-stopped x y i State.Running e older f c = absurd (true≢false c)
scan-stopped x y i State.Sleeping e older f c = absurd (true≢false c)
scan-stopped x y i State.Waiting e older f c = absurd (true≢false c)
scan-stopped x y i State.Alt e true f c = absurd (true≢false c)
scan-stopped x y i State.Alt e false f c = record { busy = e; younger = ltb-false _ _ f }

-- what a process p that does not move says of its place
module _ (d p : ℕ) (x : Process) (q : ℕ) (y : Process) where
  -- one with the word ALT is at A
  scans : (pl : Place) → state_of pl ≡ State.Alt → changes (rule_at d p x q y pl) ≡ false → (i : ℕ) × (pl ≡ Place.Scanning i)
  unfolding hand_over
  scans (Place.Scanning i) w c = (i, refl)
  scans (Place.Trying i) w c = absurd (true≢false (sym (try-changes x i y y.accepting (kept_match p (own_guard x i) q (posted_list y))) ∙ c))
  scans (Place.Committed i j) w c = absurd (true≢false c)
  scans Place.Posting w c = absurd (true≢false c)
  scans Place.Opening w c = absurd (true≢false c)
  scans Place.Showing w c = absurd (true≢false c)
  scans Place.Idle w c = absurd (subst QuietState w tt)
  scans Place.Entering w c = absurd (subst QuietState w tt)
  scans (Place.Asleep s) w c = absurd (subst QuietState w tt)
  scans Place.Waiting w c = absurd (subst WaitingState w tt)
  scans (Place.Met i m) w c = absurd (subst QuietState w tt)

  -- one with an open offer is at A, or past all its guards
  rests-past : (pl : Place) → changes (rule_at d p x q y pl) ≡ false → open_at pl x.accepting ≡ true → ((i : ℕ) → pl ≡ Place.Scanning i → ⊥) → (k : ℕ) → Past pl x.accepting k
  unfolding scan_from
  rests-past (Place.Scanning i) c o n k = absurd (n i refl)
  rests-past (Place.Trying i) c o n k = absurd (true≢false (sym (try-changes x i y y.accepting (kept_match p (own_guard x i) q (posted_list y))) ∙ c))
  rests-past Place.Entering c o n k = true≢false c
  rests-past (Place.Asleep s) c o n k = true≢false (sym (sleep-changes x s (ltb (s + 1) d)) ∙ c)
  rests-past Place.Posting c o n k = tt
  rests-past Place.Opening c o n k = tt
  rests-past Place.Showing c o n k = o
  rests-past Place.Waiting c o n k = o
  rests-past Place.Idle c o n k = false≢true o
  rests-past (Place.Committed i j) c o n k = false≢true o
  rests-past (Place.Met i m) c o n k = false≢true o

-- no rule would change anything
abbrev pub Still : ProcessTable → Type 0
Still t = (p : ℕ) → p < t.head.n → changes (effect_on t p) ≡ false

module _ (t : ProcessTable) (good : Good t) (none_moves : Still t) where
  pub still : (p : ℕ) → p < t.head.n → (pl : Place) → (process t p).place ≡ pl → let q = named_by (process t p) (index_of pl) in changes (rule_at t.head.nap p (process t p) q (process t q) pl) ≡ false
  unfolding effect_on rule
  still p h pl e = subst (λ (l : Place). let q = named_by (process t p) (index_of l) in changes (rule_at t.head.nap p (process t p) q (process t q) l) ≡ false) e
      (none_moves p h)

  -- No process is at A: its partner would be at A too, with a greater ticket, and so on.
  none-scans : (fuel p i : ℕ) → p < t.head.n → (process t p).place ≡ Place.Scanning i → t.head.next.0 ≤ (process t p).transaction.0 + fuel → ⊥
  none-scans zero p i h e l = let b = (good.inv.alone p).given (rw e refl) in omega arith
  none-scans (suc fuel) p i h e l =
      let x = process t p in
      let q = at_names (process t) good.inv p i (rw e refl) in
      let y = process t (own_guard x i).partner in
      let s = scan-stopped x y i _ refl _ refl (still p h _ e) in
      let a = scans _ _ y _ _ y.place s.busy (still _ q.below _ refl) in
      let d = (good.inv.paired p _ q.other).differ (rw e refl) (rw a.1 refl) in
      none-scans fuel _ a.0 q.below a.1 (grows x.transaction.0 y.transaction.0 fuel t.head.next.0 s.younger d l)
    where
      grows : (a b k n : ℕ) → a ≤ b → (a ≡ b → ⊥) → n ≤ a + suc k → n ≤ b + k
      grows a b k n c d e = omega arith

  -- so a process with an open offer is past all its guards
  open-past : (p : ℕ) (o : Transaction) → open_offer t p ≡ Some o → ((k : ℕ) → Past (process t p).place (process t p).accepting k) × (own_list (process t p) ≡ o.guards)
  open-past p o e = at (has_open_offer t p) refl e
    where
      at : (b : Bool) → has_open_offer t p ≡ b → cond b (Some (offer_by (process t p))) None ≡ Some o
          → ((k : ℕ) → Past (process t p).place (process t p).accepting k) × (own_list (process t p) ≡ o.guards)
      at true f e =
          let a = and_parts (ltb p t.head.n) (is_open (process t p)) f in
          let h = ltb-true p t.head.n a.0 in
          (rests-past _ p _ _ _ (process t p).place (still p h _ refl) a.1 (λ i s. none-scans t.head.next.0 p i h s (omega arith)), cc)
      at false f e = absurd (none-some o e)

  pub at_rest : (p q : ℕ) (o r : Transaction) → (p ≡ q → ⊥) → open_offer t p ≡ Some o → open_offer t q ≡ Some r → offers_match p o.guards q r.guards ≡ false
  at_rest p q o r ne e f =
      let a = open-past p o e in
      let b = open-past q r f in
      rw (← a.1, ← b.1) (no-match p _ q _ (λ k l m. (good.inv.paired p q ne).past k l m (a.0 k) (b.0 l)))
