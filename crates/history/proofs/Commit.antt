-- The book follows a commit, and so every step.
use Rattle.std.specs.Prelude.{Option, Some, None}
use Prim.Native.Nat.{ℕ, suc, ◌+◌, ◌<◌}
use mathlib.Core.Path.{◌≡◌, refl, sym, ◌∙◌, subst, subst⁻¹}
use mathlib.Core.Bool.{Bool, true, false, cond, true≢false, false≢true}
use mathlib.Core.List.{List, [], ◌∷◌}
use lib.Dec.{ltb}
use borrow.Author.Tests.{eq-eqb, ne_eqb}
use Rattle.alternative.specs.declared.Action.{Action}
use Rattle.alternative.specs.declared.Guard.{Guard}
use Rattle.alternative.specs.Guards.{opposite, guards_match, kept_match}
use Rattle.alternative.specs.Exchange.{sent_by, received_by}
use Rattle.process.specs.declared.Place.{Place}
use Rattle.process.specs.declared.Process.{Process}
use Rattle.rendezvous.specs.declared.ProcessTable.{ProcessTable}
use Rattle.process.specs.Process.{is_at, state_of, index_of, own_list, own_guard, posted_list, open_at}
use Rattle.rendezvous.specs.Table.{process, put}
use Rattle.process.specs.Rules.{Both, at_place, with_accepting, sleep_at, try, rule_at, rule, named_by}
use Rattle.rendezvous.specs.Calls.{applied, effect_on, stepped}
use Rattle.rendezvous.specs.Run.{Step}
use Rattle.history.specs.Book.{Transaction, Rendezvous, Moment, Joined, History, senders_message, due_message, with_rendezvous, committing, enter}
use Rattle.history.specs.Tables.{offer_by}
use Rattle.history.specs.Demand3.{Joins}
use Rattle.history.specs.NothingLost.{is_owed}
use Rattle.history.proofs.View.{View}
use Rattle.history.proofs.Invariant.{Shows, Bound, Good}
use Rattle.history.proofs.Matches.{Match, match, Searched, searched, on-there, NamesOther}
use Rattle.history.proofs.Places.{shows-elim}
use Rattle.history.proofs.Facts.{fine, at_names, shown, accepts, commit-binds, unbound}
use Rattle.history.proofs.GoodTable.{put_two, put-two-there}
use Rattle.history.proofs.Once.{once-commits}
use Rattle.history.proofs.Awaited.{hidden, awaited-commit}
use Rattle.history.proofs.Due.{lists_of, DueAt, Agrees, InStepOf, InStep, agrees-other, offer-at, owed-at, each_two}
use Rattle.history.proofs.Followed.{Followed, stays, moves, scans, scan-followed, absorbs, signals}

-- the book's messages are rule 9's
mine-message : (g h : Action) → due_message g (senders_message g h) ≡ received_by g h
mine-message Action.Receive h = refl
mine-message (Action.Send m) h = refl

theirs-message : (g h : Action) → opposite g h ≡ true → due_message h (senders_message g h) ≡ sent_by g
theirs-message Action.Receive Action.Receive e = refl
theirs-message Action.Receive (Action.Send m) e = refl
theirs-message (Action.Send m) Action.Receive e = refl
theirs-message (Action.Send m) (Action.Send n) e = absurd (false≢true e)

-- an offer shown is open while its wake count is 0
shows-open : (place : Place) (accepting : Bool) (o : Transaction) → Shows place → cond (open_at place accepting) (Some o) None ≡ cond accepting (Some o) None
shows-open place accepting o = shows-elim (λ l. cond (open_at l accepting) (Some o) None ≡ cond accepting (Some o) None) refl refl place

module _ {t : ProcessTable} (good : Good t) {b : History} (k : InStep t b) (p : ℕ) (below : p < t.head.n) (i j : ℕ) (e : (process t p).place ≡ Place.Trying i)
    (accepting : (process t (own_guard (process t p) i).partner).accepting ≡ true)
    (f : kept_match p (own_guard (process t p) i) (own_guard (process t p) i).partner (posted_list (process t (own_guard (process t p) i).partner)) ≡ Some j) where
  commits : Followed t b (Step p) (applied t p (own_guard (process t p) i).partner (Both (at_place (process t p) (Place.Committed i j)) (with_accepting (process t (own_guard (process t p) i).partner) false)))
  unfolding enter with_rendezvous committing
  commits = record {
    after = after;
    entered = rw (open-p, on-there (own_list x) i m.here, open-q, found, on-there (own_list y) j m.there);
    run = rw (tried, there, posted);
    joins = λ r z. subst (Joins b) (the_one _ r (rw (tried, there, posted) at z)) (record {
      mine = offer_by x;
      theirs = offer_by y;
      g = g;
      h = h;
      mine_open = open-p;
      theirs_open = open-q;
      mine_id = refl;
      theirs_id = refl;
      mine_guard = on-there (own_list x) i m.here;
      theirs_guard = on-there (own_list y) j m.there;
      two = partner.other;
      match = matching;
    });
    ticket = tt;
    outcome = tt;
    goes_on = subst⁻¹ (λ (v : View). InStepOf t.head.next.0 v after) (put_two good p _ below q _ partner.below) (record {
      counts = k.counts;
      each = each_two (process t) after p q _ _ refl refl mine theirs others;
      once = once-commits k.once p q (offer_by x) (offer_by y) _ partner.other open-p open-q refl refl;
      awaited = awaited-commit (process t) k.awaited p q i j partner.other refl shows e;
    });
  }
    where
      x : Process
      x = process t p

      g : Guard
      g = own_guard x i

      q : ℕ
      q = g.partner

      y : Process
      y = process t q

      h : Guard
      h = own_guard y j

      partner : NamesOther t.head.n p g
      partner = at_names (process t) good.inv p i (rw e refl)

      shows : Shows y.place
      shows = accepts (process t) good.inv q accepting

      posted : posted_list y ≡ own_list y
      posted = (shown (process t) good.inv q shows).posted

      found : kept_match p g q (own_list y) ≡ Some j
      found = rw posted at f

      tried : is_at "T" x.place ≡ true
      tried = rw e refl

      there : process (put (put t q (with_accepting y false)) p (at_place x (Place.Committed i j))) p ≡ at_place x (Place.Committed i j)
      there = put-two-there good p (at_place x (Place.Committed i j)) below q (with_accepting y false) partner.below

      matching : guards_match p g q h ≡ true
      matching = subst (Searched p g q (own_list y)) found (searched p g q (own_list y))

      m : Match p g q h
      m = match matching

      the_one : (r s : Rendezvous) → ◌≡◌ {A = List Moment} (Joined r ∷ []) (Joined s ∷ []) → r ≡ s
      the_one r s z = cc

      apart : q ≡ p → ⊥
      apart z = partner.other (sym z)

      after : History
      after = with_rendezvous b p i (offer_by x) g j (offer_by y) h

      open-p : b.opened p ≡ Some (offer_by x)
      open-p = sym (offer-at (k.each p) e)

      open-q : b.opened q ≡ Some (offer_by y)
      open-q = sym (k.each q).offer ∙ shows-open y.place _ (offer_by y) shows ∙ rw accepting refl

      mine : Agrees (lists_of (process t)) after p (at_place x (Place.Committed i j))
      mine = record {
        offer = rw (eq-eqb p p refl) refl;
        owed = rw (eq-eqb p p refl) refl;
        at = record {
          mine = rw (eq-eqb p p refl, mine-message g.action h.action);
          theirs = rw (ne_eqb q p apart, eq-eqb q q refl, theirs-message g.action h.action m.one-sends);
        };
        told = rw (fine (process t) good.inv p _ e).1 tt;
      }

      theirs : Agrees (lists_of (process t)) after q (with_accepting y false)
      theirs = record {
        offer = shows-open y.place false (offer_by y) shows ∙ rw (ne_eqb q p apart, eq-eqb q q refl) refl;
        owed = rw (ne_eqb q p apart, eq-eqb q q refl) (shows-elim (λ l. true ≡ is_owed l false) refl refl y.place shows);
        at = shows-elim (DueAt (lists_of (process t)) after.due q (own_list y)) tt tt y.place shows;
        told = rw ((shown (process t) good.inv q shows).deaf accepting) tt;
      }

      -- what another's commit has pledged is not p's or q's: p tries, and q accepts
      free : (r a c : ℕ) → (process t r).place ≡ Place.Committed a c → after.due (own_guard (process t r) a).partner ≡ b.due (own_guard (process t r) a).partner
      free r a c z = rw (
        ne_eqb (own_guard (process t r) a).partner p (unbound (process t) good.inv p _ e (λ s. s) r a c z),
        ne_eqb (own_guard (process t r) a).partner q (λ s. true≢false (sym accepting ∙ (rw s at (commit-binds (process t) good.inv r a c z).0.woken))),
      )

      others : (r : ℕ) → (r ≡ p → ⊥) → (r ≡ q → ⊥) → Agrees (lists_of (process t)) after r (process t r)
      others r rp rq = agrees-other (lists_of (process t)) (lists_of (process t)) b after r (process t r)
          (rw (ne_eqb r p rp, ne_eqb r q rq)) (rw (ne_eqb r p rp, ne_eqb r q rq)) (λ a c z. (refl, free r a c z)) (k.each r)

module _ {t : ProcessTable} (good : Good t) {b : History} (k : InStep t b) (p : ℕ) (below : p < t.head.n) where
  -- rules 7 and 8: the search found a guard and the partner accepts, or the scan goes on
  tries : (i : ℕ) → (process t p).place ≡ Place.Trying i → let q = (own_guard (process t p) i).partner in (accepting : Bool) → (process t q).accepting ≡ accepting
      → (found : Option ℕ) → kept_match p (own_guard (process t p) i) q (posted_list (process t q)) ≡ found
      → Followed t b (Step p) (applied t p q (try (process t p) i (process t q) accepting found))
  tries i e true a (Some j) f = commits good k p below i j e a f
  tries i e true a None f = scans good k p below _ e refl refl (λ i j c. c) _ (suc i)
  tries i e false a (Some j) f = scans good k p below _ e refl refl (λ i j c. c) _ (suc i)
  tries i e false a None f = scans good k p below _ e refl refl (λ i j c. c) _ (suc i)

  -- rule 2: an early step of a nap only counts
  sleeps : (s : ℕ) → (process t p).place ≡ Place.Asleep s → (early : Bool) → Followed t b (Step p) (applied t p 0 (sleep_at (process t p) s early))
  sleeps s e true = moves good k p below _ e _ (search (offer-at (k.each p) e, owed-at (k.each p) e, (k.each p).told, hidden))
  sleeps s e false = scans good k p below _ e refl refl (λ i j c. c) _ 0

  step-at : (place : Place) → (process t p).place ≡ place → let q = named_by (process t p) (index_of place) in
      Followed t b (Step p) (applied t p q (rule_at t.head.nap p (process t p) q (process t q) place))
  step-at Place.Idle e = stays good k p below
  step-at Place.Entering e = scans good k p below _ e refl refl (λ i j c. c) _ 0
  step-at (Place.Scanning i) e = scan-followed good k p below i e
      (state_of (process t (own_guard (process t p) i).partner).place) (ltb (process t (own_guard (process t p) i).partner).transaction.0 (process t p).transaction.0)
  step-at (Place.Trying i) e = tries i e _ refl _ refl
  step-at (Place.Committed i j) e = signals good k p below i j e
  step-at Place.Posting e = moves good k p below _ e _ (search (offer-at (k.each p) e, owed-at (k.each p) e, (k.each p).told, hidden))
  step-at Place.Opening e =
      let bound : (x : Process) → x.accepting ≡ true → Bound x → Bound (process t p) = λ x a b. absurd (true≢false (sym a ∙ b.woken)) in
      moves good k p below _ e _ (search (offer-at (k.each p) e, owed-at (k.each p) e, (k.each p).told, bound))
  step-at Place.Showing e =
      let bound : Bound (at_place (process t p) Place.Waiting) → Bound (process t p) = λ b. record { shows = rw e tt; woken = b.woken; deaf = b.deaf } in
      moves good k p below _ e _ (search (offer-at (k.each p) e, owed-at (k.each p) e, (k.each p).told, bound))
  step-at (Place.Asleep s) e = sleeps s e (ltb (s + 1) t.head.nap)
  step-at Place.Waiting e = absorbs good k p below e (process t p).signal refl
  step-at (Place.Met i m) e = stays good k p below

  pub step-followed : Followed t b (Step p) (stepped t p)
  unfolding stepped effect_on rule
  step-followed = step-at (process t p).place refl
