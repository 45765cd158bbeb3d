-- The day sheet adds up: after any calls from a fresh table each ticket is accounted for, and the totals are those of the run and of the accepted offers.
use Rattle.std.specs.Prelude.{None}
use Prim.Native.Nat.{ℕ, ◌+◌, ◌<◌}
use mathlib.Core.Path.{◌≡◌, refl, sym, ap, ◌∙◌}
use mathlib.Core.Bool.{Bool, true, false, cond, false≢true}
use mathlib.Core.List.{List, [], ◌∷◌, ◌++◌}
use native.Mathlib.Omega.{arith}
use borrow.Author.Tests.{lt-ltb}
use Rattle.process.specs.declared.Place.{Place}
use Rattle.process.specs.Process.{is_at, is_open}
use Rattle.process.specs.Rules.{Effect, Neither, Own, Both, partner_of}
use Rattle.rendezvous.specs.declared.Head.{Head}
use Rattle.rendezvous.specs.declared.ProcessTable.{ProcessTable}
use Rattle.rendezvous.specs.declared.Reply.{Reply}
use Rattle.rendezvous.specs.declared.Refusal.{Refusal}
use Rattle.rendezvous.specs.Table.{process, with_meeting, fresh_table, has_open_offer}
use Rattle.rendezvous.specs.Numbers.{said}
use Rattle.rendezvous.specs.Calls.{refused, applied, effect_on, stepped, offered, given_up, withdrawn_or_late}
use Rattle.rendezvous.specs.Run.{Call, Offer, Step, Collect, Withdraw, reply_to, table_after, after_all, table_after_all}
use Rattle.history.specs.Book.{Moment, Joined, Withdrew}
use Rattle.history.specs.Machine.{made_by_all}
use Rattle.history.specs.Tables.{commit_at, made_by, tables}
use Rattle.history.specs.DaySheet.{meetings_in, withdrawals_in, offers_in, accepted_offers, DaySheet}
use Rattle.history.proofs.Invariant.{Good}
use Rattle.history.proofs.Totals.{met_at, Moved, moved-rule}
use Rattle.history.proofs.Replies.{offer-elim, step-elim, collect-elim, withdraw-elim}
use Rattle.history.proofs.GoodTable.{partner-below, put-there, put-two-there, good-fresh, good-after}
use Rattle.history.proofs.Followed.{stays-made, kept-made}

-- a call counts what it makes
pub record Counts (t : ProcessTable) (c : Call) (reply : Reply) : Type 0 where
  pub meetings : reply.table.head.meetings ≡ t.head.meetings + meetings_in (made_by t c reply.table)
  pub withdrawn : reply.table.head.withdrawn ≡ t.head.withdrawn + withdrawals_in (made_by t c reply.table)
  pub offers : reply.table.head.next.0 ≡ t.head.next.0 + offers_in (said reply.answer)

-- a call that makes nothing, and leaves the head as it was
none_made : {t : ProcessTable} (c : Call) (reply : Reply) → reply.table.head ≡ t.head → offers_in (said reply.answer) ≡ 0 → made_by t c reply.table ≡ [] → Counts t c reply
none_made c reply h o e = record {
  meetings = omega (arith, ap (λ (k : Head). k.meetings) h, ap meetings_in e);
  withdrawn = omega (arith, ap (λ (k : Head). k.withdrawn) h, ap withdrawals_in e);
  offers = omega (arith, ap (λ (k : Head). k.next.0) h, o);
}

turned-away : (t : ProcessTable) (c : Call) (r : Refusal) → Counts t c (refused r t)
turned-away t (Offer p gs) r = none_made _ _ refl refl refl
turned-away t (Step p) r = none_made _ _ refl refl (stays-made t p (process t p).place)
turned-away t (Collect p) r = none_made _ _ refl refl refl
turned-away t (Withdraw p) r = none_made _ _ refl refl (kept-made (has_open_offer t p) _)

-- a step to a place makes one meeting at C, and none elsewhere
commit-counted : (t : ProcessTable) (p : ℕ) (place : Place) → (meetings_in (commit_at t p place) ≡ met_at place) × (withdrawals_in (commit_at t p place) ≡ 0)
commit-counted t p Place.Idle = (refl, refl)
commit-counted t p Place.Entering = (refl, refl)
commit-counted t p (Place.Scanning i) = (refl, refl)
commit-counted t p (Place.Trying i) = (refl, refl)
commit-counted t p (Place.Committed i j) = (refl, refl)
commit-counted t p Place.Posting = (refl, refl)
commit-counted t p Place.Opening = (refl, refl)
commit-counted t p Place.Showing = (refl, refl)
commit-counted t p (Place.Asleep s) = (refl, refl)
commit-counted t p Place.Waiting = (refl, refl)
commit-counted t p (Place.Met i m) = (refl, refl)

-- from T it is the moment of the run; from elsewhere no rule leads to C
moment-counted : (t : ProcessTable) (p : ℕ) (place : Place) (tried : Bool) → (is_at "C" place ≡ true → tried ≡ true)
    → (meetings_in (cond tried (commit_at t p place) []) ≡ met_at place) × (withdrawals_in (cond tried (commit_at t p place) []) ≡ 0)
moment-counted t p place true h = commit-counted t p place
moment-counted t p place false h = (go (is_at "C" place) h, refl)
  where
    go : (c : Bool) → (c ≡ true → false ≡ true) → ◌≡◌ {A = ℕ} 0 (cond c 1 0)
    go true h = absurd (false≢true (h refl))
    go false h = refl

-- .. and the head counts as much
head-counted : (h : Head) (met : Bool) → let after = cond met (with_meeting h) h in (after.meetings ≡ h.meetings + cond met 1 0) × (after.withdrawn ≡ h.withdrawn) × (after.next.0 ≡ h.next.0)
head-counted h true = (refl, refl, refl)
head-counted h false = (omega arith, refl, refl)

module _ {t : ProcessTable} (good : Good t) (p : ℕ) (below : p < t.head.n) where
  applied-counts : (q : ℕ) → q < t.head.n → (e : Effect) → Moved (process t) p q e → Counts t (Step p) (applied t p q e)
  applied-counts q l Neither m = none_made _ _ refl refl (stays-made t p (process t p).place)
  applied-counts q l (Own x) m =
      let c = moment-counted t p x.place (is_at "T" (process t p).place) (λ e. absurd (false≢true (sym m.uncommitted ∙ e))) in
      let None : met_at x.place ≡ 0 = rw m.uncommitted refl in
      record {
        meetings = rw (put-there good p x below) (omega (arith, c.0, None));
        withdrawn = rw (put-there good p x below) (omega (arith, c.1));
        offers = omega arith;
      }
  applied-counts q l (Both x y) m =
      let c = moment-counted t p x.place (is_at "T" (process t p).place) m.tried in
      let h = head-counted t.head (is_at "C" x.place) in
      record {
        meetings = rw (put-two-there good p x below q y l) (omega (arith, c.0, h.0));
        withdrawn = rw (put-two-there good p x below q y l) (omega (arith, c.1, h.1));
        offers = omega (arith, h.2);
      }

  step_counts : Counts t (Step p) (stepped t p)
  unfolding stepped effect_on
  step_counts = applied-counts (partner_of (process t p)) (partner-below good p) (effect_on t p) (moved-rule (process t) good.inv p t.head.nap)

  withdrawn-counts : is_open (process t p) ≡ true → Counts t (Withdraw p) (withdrawn_or_late t p (process t p) false)
  withdrawn-counts o =
      let made : made_by t (Withdraw p) (withdrawn_or_late t p (process t p) false).table ≡ Withdrew (record { p = p; id = (process t p).transaction.0 }) ∷ [] =
      rw (lt-ltb p t.head.n below, o, put-there good p (given_up (process t p)) below) refl in
      record { meetings = rw made (omega arith); withdrawn = rw made (omega arith); offers = omega arith }

call-counts : (t : ProcessTable) → Good t → (c : Call) → Counts t c (reply_to t c)
unfolding reply_to offered
call-counts t good (Offer p gs) = offer-elim (Counts t (Offer p gs)) t (turned-away t (Offer p gs)) p gs (λ a. record { meetings = omega arith; withdrawn = omega arith; offers = refl })
call-counts t good (Step p) = step-elim (Counts t (Step p)) t (turned-away t (Step p)) p (step_counts good p)
call-counts t good (Collect p) = collect-elim (Counts t (Collect p)) t (turned-away t (Collect p)) p (λ h i m e. none_made _ _ refl refl refl)
call-counts t good (Withdraw p) = withdraw-elim (Counts t (Withdraw p)) t (turned-away t (Withdraw p)) p (none_made _ _ refl refl (kept-made (has_open_offer t p) _)) (withdrawn-counts good p)

meetings-join : (ms ns : List Moment) → meetings_in (ms ++ ns) ≡ meetings_in ms + meetings_in ns
meetings-join [] ns = omega arith
meetings-join (Joined r ∷ ms) ns = omega (arith, meetings-join ms ns)
meetings-join (Withdrew w ∷ ms) ns = meetings-join ms ns

withdrawals-join : (ms ns : List Moment) → withdrawals_in (ms ++ ns) ≡ withdrawals_in ms + withdrawals_in ns
withdrawals-join [] ns = omega arith
withdrawals-join (Joined r ∷ ms) ns = withdrawals-join ms ns
withdrawals-join (Withdrew w ∷ ms) ns = omega (arith, withdrawals-join ms ns)

-- from any good table: what the calls add
record Adds (t : ProcessTable) (calls : List Call) : Type 0 where
  good : Good (table_after_all t calls)
  meetings : (table_after_all t calls).head.meetings ≡ t.head.meetings + meetings_in (made_by_all tables t calls)
  withdrawn : (table_after_all t calls).head.withdrawn ≡ t.head.withdrawn + withdrawals_in (made_by_all tables t calls)
  offers : (table_after_all t calls).head.next.0 ≡ t.head.next.0 + accepted_offers t calls

adds : (t : ProcessTable) → Good t → (calls : List Call) → Adds t calls
unfolding after_all made_by_all accepted_offers
adds t good [] = record { good = good; meetings = omega arith; withdrawn = omega arith; offers = omega arith }
adds t good (c ∷ cs) =
    let one = call-counts t good c in
    let rest = adds (table_after t c) (good-after t good c) cs in
    record {
      good = rest.good;
      meetings = omega (arith, one.meetings, rest.meetings, meetings-join (made_by t c (table_after t c)) (made_by_all tables (table_after t c) cs));
      withdrawn = omega (arith, one.withdrawn, rest.withdrawn, withdrawals-join (made_by t c (table_after t c)) (made_by_all tables (table_after t c) cs));
      offers = omega (arith, one.offers, rest.offers);
    }

pub day-sheet : DaySheet
day-sheet n d least most naps calls =
    let a = adds (fresh_table n d) (good-fresh n d least most naps) calls in
    record { adds_up = sym a.good.totals; offers = omega (arith, a.offers); meetings = omega (arith, a.meetings); withdrawn = omega (arith, a.withdrawn) }
