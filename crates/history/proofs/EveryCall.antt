-- The book follows every call on a good table.
use Rattle.std.specs.Prelude.{Some, None}
use Prim.Native.Nat.{ℕ, suc, ◌+◌, ◌<◌}
use mathlib.Core.Path.{◌≡◌, refl, sym, ◌∙◌, ap, subst⁻¹}
use mathlib.Core.Bool.{true, false}
use mathlib.Core.List.{List, [], ◌∷◌, ◌++◌, append-nil}
use mathlib.Core.Logic.{inr}
use native.Mathlib.Omega.{arith}
use borrow.Author.Tests.{eq-eqb, ne_eqb, lt-ltb}
use Rattle.alternative.specs.declared.Message.{Message}
use Rattle.alternative.specs.declared.Guard.{Guard}
use Rattle.alternative.specs.Guards.{lent}
use Rattle.process.specs.declared.Place.{Place}
use Rattle.process.specs.declared.Process.{Process}
use Rattle.rendezvous.specs.declared.ProcessTable.{ProcessTable}
use Rattle.process.specs.Process.{own_list, is_open}
use Rattle.rendezvous.specs.Table.{process, put}
use Rattle.process.specs.Rules.{at_place}
use Rattle.rendezvous.specs.Numbers.{ticket}
use Rattle.rendezvous.specs.Calls.{entering, offered, collected, given_up, withdrawn_or_late}
use Rattle.rendezvous.proofs.Verdicts.{Admitted}
use Rattle.rendezvous.specs.Run.{Call, Offer, Step, Collect, Withdraw, reply_to}
use Rattle.history.specs.Book.{Rendezvous, Withdrawal, Joined, Withdrew, History, entered_for, enter}
use Rattle.history.specs.Tables.{made_by, offer_by, tables}
use Rattle.history.specs.Demand3.{Joins}
use Rattle.history.proofs.View.{View, upd, entered-each, upd_other}
use Rattle.history.proofs.Invariant.{Good}
use Rattle.history.proofs.Places.{idle-is}
use Rattle.history.proofs.Facts.{fine, silent, unbound, open-uncommitted}
use Rattle.history.proofs.Replies.{offer-elim, step-elim, collect-elim, withdraw-elim}
use Rattle.history.proofs.GoodTable.{lent_back, put_one, put-there, good-after}
use Rattle.history.proofs.Once.{once-offers, once-withdraws}
use Rattle.history.proofs.Awaited.{awaited-put}
use Rattle.history.proofs.Due.{lists_of, Agrees, InStepOf, InStep, none-due, open-unowed, offer-at, owed-at, due-at, agrees-other, lists-same}
use Rattle.history.proofs.Followed.{Followed, joins-none, turned-away, too-late}
use Rattle.history.proofs.Commit.{step-followed}
use Rattle.history.proofs.EveryList.{FollowsOn}

module _ {t : ProcessTable} (good : Good t) {b : History} (k : InStep t b) (p : ℕ) where
  offer-followed : (gs : List Guard) → Admitted t p (lent gs) → Followed t b (Offer p gs) (offered t p (lent gs))
  unfolding enter offered entering lent
  offer-followed gs a = record {
    after = after;
    entered = rw (← offer-at (k.each p) idle, none-due (b.due p) (owed-at (k.each p) idle));
    run = sym (append-nil b.run);
    joins = joins-none b;
    ticket = inr (ap ticket (sym k.counts));
    outcome = tt;
    goes_on = subst⁻¹ (λ (v : View). InStepOf (t.head.next.0 + 1) v after) (put_one good p x a.below) (record {
      counts = omega (arith, k.counts);
      each = entered-each (Agrees (lists_of (upd (process t) p x)) after) (process t) p x own others;
      once = once-offers k.once p gs;
      awaited = awaited-put (process t) k.awaited p x (λ h. absurd h.shows) (λ i j c _. rw idle at c);
    });
  }
    where
      x : Process
      x = entering (process t p) t.head.next (lent gs)

      after : History
      after = record { next = suc b.next; opened = entered_for p (Some (record { id = b.next; guards = gs })) b.opened; due = b.due; run = b.run }

      idle : (process t p).place ≡ Place.Idle
      idle = idle-is (process t p).place a.idle

      -- the list that was lent is the own list
      list : own_list x ≡ gs
      list = rw (lent_back gs a.most) (lent_back gs a.most)

      own : Agrees (lists_of (upd (process t) p x)) after p x
      own = record {
        offer = rw (list, eq-eqb p p refl, k.counts);
        owed = owed-at (k.each p) idle;
        at = tt;
        told = rw (fine (process t) good.inv p _ idle).1 tt;
      }

      -- no process has committed to p
      others : (r : ℕ) → (r ≡ p → ⊥) → Agrees (lists_of (upd (process t) p x)) after r (process t r)
      others r rp = agrees-other (lists_of (process t)) (lists_of (upd (process t) p x)) b after r (process t r) (rw (ne_eqb r p rp)) refl
          (λ i j c. (ap own_list (upd_other (process t) p x _ (unbound (process t) good.inv p _ idle (λ s. s) r i j c)), refl)) (k.each r)

  collect-followed : p < t.head.n → (i : ℕ) (m : Message) → (process t p).place ≡ Place.Met i m → Followed t b (Collect p) (collected t p (process t p) (Place.Met i m))
  unfolding enter
  collect-followed below i m e = record {
    after = after;
    entered = rw (due-at (k.each p) e);
    run = sym (append-nil b.run);
    joins = joins-none b;
    ticket = tt;
    outcome = inr (_, due-at (k.each p) e, refl);
    goes_on = subst⁻¹ (λ (v : View). InStepOf t.head.next.0 v after) (put_one good p x below) (record {
      counts = k.counts;
      each = rw (lists-same (process t) p x refl) (entered-each (Agrees (lists_of (process t)) after) (process t) p x own others);
      once = k.once;
      awaited = awaited-put (process t) k.awaited p x (λ h. absurd h.shows) (λ i j c _. rw e at c);
    });
  }
    where
      x : Process
      x = at_place (process t p) Place.Idle

      after : History
      after = record { next = b.next; opened = b.opened; due = entered_for p None b.due; run = b.run }

      own : Agrees (lists_of (process t)) after p x
      own = record { offer = offer-at (k.each p) e; owed = rw (eq-eqb p p refl) refl; at = tt; told = rw (fine (process t) good.inv p _ e).1 tt }

      -- no process has committed to p
      others : (r : ℕ) → (r ≡ p → ⊥) → Agrees (lists_of (process t)) after r (process t r)
      others r rp = agrees-other (lists_of (process t)) (lists_of (process t)) b after r (process t r) refl (rw (ne_eqb r p rp))
          (λ a j c. (refl, rw (ne_eqb _ p (unbound (process t) good.inv p _ e (λ s. s) r a j c)))) (k.each r)

  withdraw-followed : p < t.head.n → is_open (process t p) ≡ true → Followed t b (Withdraw p) (withdrawn_or_late t p (process t p) false)
  unfolding enter
  withdraw-followed below o = record {
    after = after;
    entered = rw (← opened);
    run = rw made;
    joins = λ r e. joins-other r (sym made ∙ e);
    ticket = tt;
    outcome = tt;
    goes_on = subst⁻¹ (λ (v : View). InStepOf t.head.next.0 v after) (put_one good p x below) (record {
      counts = k.counts;
      each = rw (lists-same (process t) p x refl) (entered-each (Agrees (lists_of (process t)) after) (process t) p x own others);
      once = once-withdraws k.once p (offer_by (process t p)) moment (sym opened) refl;
      awaited = awaited-put (process t) k.awaited p x (λ h. absurd h.shows) (λ i j c _. open-uncommitted (process t p) o i j c);
    });
  }
    where
      x : Process
      x = given_up (process t p)

      moment : Withdrawal
      moment = record { p = p; id = (process t p).transaction.0 }

      after : History
      after = record { next = b.next; opened = entered_for p None b.opened; due = b.due; run = b.run ++ (Withdrew moment ∷ []) }

      opened : Some (offer_by (process t p)) ≡ b.opened p
      opened = rw o at (k.each p).offer

      made : made_by t (Withdraw p) (put t p x) ≡ Withdrew moment ∷ []
      made = rw (lt-ltb p t.head.n below, o, put-there good p x below)

      joins-other : (r : Rendezvous) → Withdrew moment ∷ [] ≡ Joined r ∷ [] → Joins b r
      joins-other r e = let z : ◌≡◌ {A = ℕ} 0 1 = cc in absurd (omega arith)

      own : Agrees (lists_of (process t)) after p x
      own = record {
        offer = rw (eq-eqb p p refl);
        owed = (k.each p).owed ∙ open-unowed (process t p).place (process t p).accepting o;
        at = tt;
        told = rw (silent (process t) good.inv p o) tt;
      }

      others : (r : ℕ) → (r ≡ p → ⊥) → Agrees (lists_of (process t)) after r (process t r)
      others r rp = agrees-other (lists_of (process t)) (lists_of (process t)) b after r (process t r) (rw (ne_eqb r p rp)) refl (λ i j c. (refl, refl)) (k.each r)

followed : (t : ProcessTable) (b : History) → Good t → InStep t b → (c : Call) → Followed t b c (reply_to t c)
unfolding reply_to
followed t b good k (Offer p gs) = offer-elim (Followed t b (Offer p gs)) t (turned-away t b (Offer p gs) k) p gs (offer-followed good k p gs)
followed t b good k (Step p) = step-elim (Followed t b (Step p)) t (turned-away t b (Step p) k) p (step-followed good k p)
followed t b good k (Collect p) = collect-elim (Followed t b (Collect p)) t (turned-away t b (Collect p) k) p (collect-followed good k p)
followed t b good k (Withdraw p) = withdraw-elim (Followed t b (Withdraw p)) t (turned-away t b (Withdraw p) k) p (too-late t b p k) (withdraw-followed good k p)

-- a table and its book from which every list of calls goes well
pub record Sound (t : ProcessTable) (b : History) : Type 0 where
  pub good : Good t
  pub in_step : InStep t b

pub follows : (t : ProcessTable) (b : History) → Sound t b → (c : Call) → FollowsOn tables Sound t b c
follows t b s c =
    let f = followed t b s.good s.in_step c in
    record {
      after = f.after;
      entered = f.entered;
      run = f.run;
      joins = f.joins;
      ticket = f.ticket;
      outcome = f.outcome;
      goes_on = record { good = good-after t s.good c; in_step = f.goes_on };
    }
