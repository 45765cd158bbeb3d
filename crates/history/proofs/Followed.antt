-- What it means that the book follows a call; it does where the call is refused, and at every step that is no commit.
use Rattle.std.specs.Prelude.{Option, Some, None, Ok}
use Prim.Native.Nat.{ℕ, suc, ◌<◌}
use Prim.Native.Char.{code}
use mathlib.Core.Path.{◌≡◌, refl, sym, ◌∙◌, subst, subst⁻¹}
use mathlib.Core.Bool.{Bool, true, false, not, ◌&&◌, cond}
use mathlib.Core.List.{List, [], ◌∷◌, append-nil}
use mathlib.Core.Logic.{inl}
use lib.Dec.{eqb}
use native.Mathlib.Omega.{arith}
use Rattle.alternative.specs.Guards.{next_enabled}
use Rattle.process.specs.declared.Place.{Place}
use Rattle.process.specs.declared.State.{State}
use Rattle.process.specs.declared.Process.{Process}
use Rattle.rendezvous.specs.declared.ProcessTable.{ProcessTable}
use Rattle.rendezvous.specs.declared.Answer.{Answer}
use Rattle.rendezvous.specs.declared.Refusal.{Refusal}
use Rattle.rendezvous.specs.declared.Reply.{Reply}
use Rattle.process.specs.Process.{letter_of, is_at, index_of, own_list, own_guard, open_at}
use Rattle.rendezvous.specs.Table.{process, put, has_open_offer}
use Rattle.process.proofs.PlaceCases.{if-committed}
use Rattle.process.specs.Rules.{Own, at_place, scan_at, scan_from, scan, hand_over, absorb}
use Rattle.rendezvous.specs.Calls.{refused, applied, withdrawn_or_late}
use Rattle.rendezvous.specs.Numbers.{Said, refusal_number, said}
use Rattle.rendezvous.specs.Run.{Call, Offer, Step, Collect, Withdraw}
use Rattle.history.specs.Book.{Rendezvous, Moment, Joined, History, seen, stepping, enter}
use Rattle.history.specs.NothingLost.{is_owed, is_due}
use Rattle.history.specs.Tables.{commit_at, made_by, offer_by}
use Rattle.history.specs.Demand3.{Joins, TicketIsNext, OutcomeWasDue}
use Rattle.history.proofs.View.{View, entered-each}
use Rattle.history.proofs.Invariant.{Commits, Bound, Good}
use Rattle.history.proofs.Matches.{match}
use Rattle.history.proofs.Places.{told-woken}
use Rattle.history.proofs.Facts.{fine, at_names, shown, commit-binds}
use Rattle.history.proofs.GoodTable.{put_one, put-there, put_two}
use Rattle.history.proofs.Awaited.{awaited-put, hidden, awaited-signal}
use Rattle.history.proofs.EveryList.{Follows}
use Rattle.history.proofs.Due.{lists_of, DueBy, Agrees, InStepOf, InStep, lists-same, offer-at, owed-at, due-at, each_two}
use Rattle.alternative.specs.declared.Message.{Message}

-- on table t, where the call replies so: the book goes with the table handed back
abbrev pub Followed : ProcessTable → History → Call → Reply → Type 0
Followed t b c reply = Follows b c (said reply.answer) (made_by t c reply.table) (InStep reply.table)

-- a call that is no commit
pub joins-none : (b : History) (r : Rendezvous) → [] ≡ Joined r ∷ [] → Joins b r
joins-none b r e = let z : ◌≡◌ {A = ℕ} 0 1 = cc in absurd (omega arith)

-- a call at which nothing is entered
enters-nothing : {b : History} {R : History → Type 0} (c : Call) (says : Said) (makes : List Moment) → enter b c (seen says) ≡ Some b → makes ≡ []
    → TicketIsNext b c says b → OutcomeWasDue b c says b → R b → Follows b c says makes R
enters-nothing {b} c says makes e z i o k = record { after = b; entered = e; run = rw (z, append-nil b.run); joins = λ r f. joins-none b r (sym z ∙ f); ticket = i; outcome = o; goes_on = k }

-- a step makes nothing that takes p elsewhere than to C, or leaves it where it is
none_made : (b : Bool) (ms : List Moment) → ms ≡ [] → cond b ms [] ≡ []
none_made true ms e = e
none_made false ms e = refl

pub stays-made : (t : ProcessTable) (p : ℕ) (pl : Place) → cond (is_at "T" pl) (commit_at t p pl) [] ≡ []
stays-made t p pl = if-committed (λ ms. cond (is_at "T" pl) ms [] ≡ []) [] _ pl (λ i j e. rw e refl) (none_made (is_at "T" pl) [] refl)

-- a withdrawal makes nothing that leaves the table as it is
pub kept-made : (o : Bool) (ms : List Moment) → cond (o && not o) ms [] ≡ []
kept-made true ms = refl
kept-made false ms = refl

pub turned-away : (t : ProcessTable) (b : History) (c : Call) → InStep t b → (r : Refusal) → Followed t b c (refused r t)
unfolding enter
turned-away t b (Offer p gs) k r = enters-nothing _ _ _ refl refl (inl (refusal_number r, refl)) tt k
turned-away t b (Step p) k r = enters-nothing _ _ _ refl (stays-made t p (process t p).place) tt tt k
turned-away t b (Collect p) k r = enters-nothing _ _ _ refl refl tt (inl (refusal_number r, refl)) k
turned-away t b (Withdraw p) k r = enters-nothing _ _ _ refl (kept-made (has_open_offer t p) _) tt tt k

pub too-late : (t : ProcessTable) (b : History) (p : ℕ) → InStep t b → Followed t b (Withdraw p) (withdrawn_or_late t p (process t p) true)
unfolding enter
too-late t b p k = enters-nothing _ _ _ refl (kept-made (has_open_offer t p) _) tt tt k

-- p moves from place pl to the new record x, with its list: no commit is entered, the book goes with the record, p was not at C, and x is bound only if the old record was
pub record Moving (t : ProcessTable) (b : History) (p : ℕ) (pl : Place) (x : Process) : Type 0 where
  pub book-stays : stepping b p (eqb (letter_of x.place) (code "C")) (index_of x.place) ≡ Some b
  pub no-commit : commit_at t p x.place ≡ []
  pub list : own_list x ≡ own_list (process t p)
  pub agrees : Agrees (lists_of (process t)) b p x
  pub uncommitted : (i j : ℕ) → Commits pl i j → ⊥
  pub bound : Bound x → Bound (process t p)

module _ {t : ProcessTable} (good : Good t) {b : History} (k : InStep t b) (p : ℕ) (below : p < t.head.n) where
  pub stays : Followed t b (Step p) (record { answer = Ok Answer.Unchanged; table = t })
  unfolding enter
  stays = enters-nothing _ _ _ refl (stays-made t p (process t p).place) tt tt k

  -- one record is new
  pub moves : (pl : Place) → (process t p).place ≡ pl → (x : Process) → Moving t b p pl x → Followed t b (Step p) (record { answer = Ok (Answer.Moved x.place); table = put t p x })
  unfolding enter
  moves pl e x m = enters-nothing _ _ _ m.book-stays (none_made (is_at "T" (process t p).place) (commit_at t p (process (put t p x) p).place) (rw (put-there good p x below) m.no-commit)) tt tt (subst⁻¹ (λ (v : View). InStepOf t.head.next.0 v b) (put_one good p x below) (record {
    counts = k.counts;
    each = rw (lists-same (process t) p x m.list) (entered-each (Agrees (lists_of (process t)) b) (process t) p x m.agrees (λ r _. k.each r));
    once = k.once;
    awaited = awaited-put (process t) k.awaited p x (λ b. k.awaited p (m.bound b)) (λ i j c _. m.uncommitted i j (rw e at c));
  }))

  -- the scan goes on, from a place at which the offer is open and nothing is due
  pub scans : (pl : Place) → (process t p).place ≡ pl → open_at pl (process t p).accepting ≡ true → is_owed pl (process t p).accepting ≡ false → ((i j : ℕ) → Commits pl i j → ⊥)
      → (q i : ℕ) → Followed t b (Step p) (applied t p q (scan_from (process t p) i))
  unfolding scan_from
  scans pl e opened unowed c q i = go (next_enabled (own_list (process t p)) i)
    where
      o : Some (offer_by (process t p)) ≡ b.opened p
      o = rw opened at (offer-at (k.each p) e)

      w : is_due (b.due p) ≡ false
      w = owed-at (k.each p) e ∙ unowed

      go : (f : Option ℕ) → Followed t b (Step p) (applied t p q (Own (at_place (process t p) (scan_at f))))
      go (Some i) = moves pl e _ (search (o, w, c, (k.each p).told, hidden))
      go None = moves pl e _ (search (o, w, c, (k.each p).told, hidden))

  pub scan-followed : (i : ℕ) → (process t p).place ≡ Place.Scanning i → (w : State) (older : Bool)
      → Followed t b (Step p) (applied t p (own_guard (process t p) i).partner (scan (process t p) i w older))
  scan-followed i e State.Running older = scans _ e refl refl (λ i j c. c) _ (suc i)
  scan-followed i e State.Sleeping older = scans _ e refl refl (λ i j c. c) _ (suc i)
  scan-followed i e State.Waiting older = moves _ e _ (search (offer-at (k.each p) e, owed-at (k.each p) e, (k.each p).told, hidden))
  scan-followed i e State.Alt true = moves _ e _ (search (offer-at (k.each p) e, owed-at (k.each p) e, (k.each p).told, hidden))
  scan-followed i e State.Alt false = stays

  pub absorbs : (process t p).place ≡ Place.Waiting → (s : Option (ℕ × Message)) → (process t p).signal ≡ s → Followed t b (Step p) (applied t p 0 (absorb (process t p) s))
  absorbs e None f = stays
  absorbs e (Some (j, m)) f =
      let woken = told-woken _ _ j m (fine (process t) good.inv p _ e).deaf f in
      let due = subst (λ (s : Option (ℕ × Message)). DueBy (own_list (process t p)) s (b.due p)) f (k.each p).told in
      moves _ e _ (search (rw woken at (offer-at (k.each p) e), rw woken at (owed-at (k.each p) e), due, hidden))

  -- rule 9: what was pledged is handed over
  pub signals : (i j : ℕ) → (process t p).place ≡ Place.Committed i j
      → Followed t b (Step p) (applied t p (own_guard (process t p) i).partner (hand_over (process t p) i j (process t (own_guard (process t p) i).partner)))
  unfolding enter hand_over
  signals i j e =
      let q = (own_guard (process t p) i).partner in
      let binds = commit-binds (process t) good.inv p i j e in
      let due = due-at (k.each p) e in
      let not-tried : is_at "T" (process t p).place ≡ false = rw e refl in
      enters-nothing _ _ _ refl (rw not-tried refl) tt tt (subst⁻¹ (λ (v : View). InStepOf t.head.next.0 v b) (put_two good p _ below q _ (at_names (process t) good.inv p i (rw e refl)).below) (record {
        counts = k.counts;
        each = each_two (process t) b p q _ _ refl refl
            (record { offer = offer-at (k.each p) e; owed = owed-at (k.each p) e; at = rw (shown (process t) good.inv q binds.0.shows).posted due.mine; told = (k.each p).told })
            (record { offer = (k.each q).offer; owed = (k.each q).owed; at = (k.each q).at; told = rw (match binds.1).back due.theirs })
            (λ r _ _. k.each r);
        once = k.once;
        awaited = awaited-signal (process t) k.awaited p q i j (at_names (process t) good.inv p i (rw e refl)).other refl binds.0.shows e _ _;
      }))
