-- Nothing committed is lost.
use Rattle.std.specs.Prelude.{Option, Some, None}
use Prim.Native.Nat.{ℕ}
use mathlib.Core.Path.{◌≡◌, refl, sym, ◌∙◌, ap, subst, subst⁻¹}
use mathlib.Core.Bool.{true, false, not, false≢true, true≢false, not-not}
use Rattle.std.proofs.lemmas.Option.{same_Some}
use borrow.Author.Tests.{lt-ltb}
use Rattle.alternative.specs.declared.Message.{Message}
use Rattle.process.specs.declared.Place.{Place}
use Rattle.rendezvous.specs.declared.ProcessTable.{ProcessTable}
use Rattle.process.specs.Process.{own_guard}
use Rattle.process.specs.Rules.{hand_over, absorb, changes}
use Rattle.rendezvous.specs.Table.{process}
use Rattle.rendezvous.specs.Refusals.{process_verdict}
use Rattle.rendezvous.specs.Calls.{collected, collect}
use Rattle.rendezvous.specs.Numbers.{outcome, said}
use Rattle.rendezvous.proofs.Changes.{rest-still}
use Rattle.rendezvous.specs.Run.{Collect, reply_to, said_to}
use Rattle.history.specs.Book.{Due, History}
use Rattle.history.specs.NothingLost.{is_owed, is_due, NoneLost, NothingLost}
use Rattle.history.proofs.Invariant.{Good}
use Rattle.history.proofs.Places.{commits-elim}
use Rattle.history.proofs.Awaited.{Awaited}
use Rattle.history.proofs.Rest.{Still, still}
use Rattle.history.proofs.Due.{InStep, due-at}
use Rattle.history.proofs.Fitting.{well-formed}
use Rattle.history.proofs.Claimed.{reached}

-- Where no rule would change anything, a process that has an outcome due is at M.
module _ (t : ProcessTable) (good : Good t) (awaited : Awaited (process t)) (none_moves : Still t) where
  none-commits : (p i j : ℕ) → (process t p).place ≡ Place.Committed i j → ⊥
  unfolding hand_over
  none-commits p i j e = true≢false (still t good none_moves p ((good.inv.alone p).there (rw e refl)) _ e)

  -- at W with wake count 1: with a signal it would move, and without one the process that has committed to it would
  none-waits : (p : ℕ) → (process t p).place ≡ Place.Waiting → (process t p).accepting ≡ false → (s : Option (ℕ × Message)) → (process t p).signal ≡ s → ⊥
  none-waits p e woken None f =
      let h = awaited p (record { shows = rw e tt; woken = woken; deaf = f }) in
      commits-elim (λ pl. (process t h.by).place ≡ pl → ⊥) (none-commits h.by) _ h.at h.kept h.there refl
  none-waits p e woken (Some (j, m)) f =
      true≢false (subst (λ (s : Option (ℕ × Message)). changes (absorb (process t p) s) ≡ false) f (still t good none_moves p ((good.inv.alone p).there (rw e refl)) _ e))

  owed-met : (p : ℕ) (pl : Place) → (process t p).place ≡ pl → is_owed pl (process t p).accepting ≡ true → (i : ℕ) × (m : Message) × (pl ≡ Place.Met i m)
  owed-met p (Place.Met i m) e o = (i, m, refl)
  owed-met p (Place.Committed i j) e o = absurd (none-commits p i j e)
  owed-met p Place.Showing e o = absurd (true≢false (still t good none_moves p ((good.inv.alone p).there (rw e refl)) _ e))
  owed-met p Place.Waiting e o = absurd (none-waits p e (sym (not-not _) ∙ ap not o) _ refl)
  owed-met p Place.Idle e o = absurd (false≢true o)
  owed-met p Place.Entering e o = absurd (false≢true o)
  owed-met p (Place.Scanning i) e o = absurd (false≢true o)
  owed-met p (Place.Trying i) e o = absurd (false≢true o)
  owed-met p Place.Posting e o = absurd (false≢true o)
  owed-met p Place.Opening e o = absurd (false≢true o)
  owed-met p (Place.Asleep s) e o = absurd (false≢true o)

module _ (t : ProcessTable) (good : Good t) where
  -- a collection from a process at M gives its outcome
  met-said : (p i : ℕ) (m : Message) → (process t p).place ≡ Place.Met i m → said_to t (Collect p) ≡ outcome i (own_guard (process t p) i).partner m
  unfolding reply_to collect process_verdict
  met-said p i m e = rw (well-formed t good, lt-ltb p t.head.n ((good.inv.alone p).there (rw e refl)))
      (subst⁻¹ (λ (pl : Place). said (collected t p (process t p) pl).answer ≡ outcome i (own_guard (process t p) i).partner m) e refl)

  none-lost : (b : History) → InStep t b → NoneLost t b
  none-lost b k = record {
    owed = λ p. (k.each p).owed;
    met = λ p i m e. due-at (k.each p) e;
    given = λ rest p d e.
        let a = owed-met t good k.awaited (rest-still t (well-formed t good) rest) p (process t p).place refl (sym (k.each p).owed ∙ ap is_due e) in
        met-said p a.0 a.1 a.2 ∙ ap (λ (d : Due). outcome d.index d.partner d.message) (same_Some _ d (sym (due-at (k.each p) a.2) ∙ e));
  }

pub nothing-lost : NothingLost
nothing-lost n d least most naps calls =
    let c = reached n d least most naps calls in
    (c.book, c.never_stuck, none-lost _ c.related.good c.book c.related.in_step)
