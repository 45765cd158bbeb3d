-- A good table is well-formed.
use Rattle.std.specs.Prelude.{Some}
use Prim.Native.Nat.{ℕ, zero, suc}
use mathlib.Core.Path.{◌≡◌, refl, subst}
use mathlib.Core.Bool.{Bool, true}
use Rattle.alternative.specs.declared.Message.{Message}
use Rattle.alternative.proofs.Tests.{both}
use native.Mathlib.Omega.{arith}
use lib.Dec.{ltb}
use borrow.Author.Tests.{le-leb}
use Rattle.process.specs.declared.Place.{Place}
use Rattle.process.specs.Process.{index_of, own_guard}
use Rattle.process.specs.Rules.{partner_of}
use Rattle.process.proofs.PlaceCases.{by-carried}
use Rattle.process.specs.Fits.{place_fits, process_fits}
use Rattle.rendezvous.specs.declared.ProcessTable.{ProcessTable}
use Rattle.rendezvous.specs.Table.{process, accounted_for}
use Rattle.rendezvous.specs.WellFormed.{all_below, count_fits, nap_fits, fits_at, totals_fit, well_formed}
use Rattle.history.proofs.Invariant.{PlaceFormed, Good}
use Rattle.history.proofs.Matches.{match}
use Rattle.history.proofs.Facts.{at_on, shown, commit-binds}
use Rattle.history.proofs.Formed.{on_below}

all-below : (test : ℕ → Bool) (n : ℕ) → ((k : ℕ) → test k ≡ true) → all_below test n ≡ true
unfolding all_below
all-below test zero h = refl
all-below test (suc n) h = rw (all-below test n h, h n)

module _ (t : ProcessTable) (good : Good t) where
  place-fits : (p : ℕ) → place_fits t.head.nap (process t p).count (process t (partner_of (process t p))).altcount (process t p).place ≡ true
  place-fits p = by-carried (λ fits. fits ≡ true) true _ _ _ _ (process t p).place refl own (λ i j e. rw (own i (rw e refl), kept i j e)) sleeps outcome
    where
      own : (i : ℕ) → index_of (process t p).place ≡ Some i → ltb i (process t p).count ≡ true
      own i e = on_below (process t p).guards (process t p).count i (at_on (process t) good.inv p i e)

      -- the partner shows its list
      kept : (i j : ℕ) → (process t p).place ≡ Place.Committed i j → ltb j (process t (partner_of (process t p))).altcount ≡ true
      kept i j e =
          let q = (own_guard (process t p) i).partner in
          let b = commit-binds (process t) good.inv p i j e in
          rw e (on_below (process t q).altlist (process t q).altcount j (rw (shown (process t) good.inv q b.0.shows).posted (match b.1).there))

      sleeps : (s : ℕ) → (process t p).place ≡ Place.Asleep s → ltb s t.head.nap ≡ true
      sleeps s e = subst (PlaceFormed t.head.nap (process t p).count) e (good.formed p).place

      outcome : (i : ℕ) (m : Message) → (process t p).place ≡ Place.Met i m → ltb i (process t p).count ≡ true
      outcome i m e = subst (PlaceFormed t.head.nap (process t p).count) e (good.formed p).place

  process-fits : (p : ℕ) → fits_at t p ≡ true
  unfolding fits_at process_fits
  process-fits p = rw ((good.inv.alone p).own, (good.formed p).posted, (good.formed p).signal) (place-fits p)

  pub well-formed : well_formed t ≡ true
  unfolding well_formed count_fits nap_fits totals_fit
  well-formed = both _ _ (both _ _ (le-leb 2 t.head.n good.least) (le-leb t.head.n _ (omega (arith, good.most))))
      (both _ _ (le-leb 1 t.head.nap good.naps) (both _ _ (all-below (fits_at t) t.head.n process-fits) (le-leb (accounted_for t) t.head.next.0 (omega (arith, good.totals)))))
