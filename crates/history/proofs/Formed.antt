-- Every rule and a withdrawal keep the posted lists, the signals, the steps at S and the outcomes as refusal 7 asks.
use Rattle.std.specs.Prelude.{Option, Some, None}
use Prim.Native.Nat.{ℕ, suc, ◌+◌, ◌≤◌}
use mathlib.Core.Path.{◌≡◌, refl, subst}
use mathlib.Core.List.{List}
use mathlib.Core.Bool.{Bool, true, false, false≢true}
use native.Mathlib.Omega.{arith}
use lib.ListN.{take, length, length-take, get_or-eq_default}
use lib.Dec.{ltb}
use borrow.Author.Tests.{lt-ltb}
use Rattle.alternative.specs.declared.Guard.{Guard}
use Rattle.alternative.specs.Guards.{blank, kept_match, next_enabled}
use Rattle.process.specs.declared.Place.{Place}
use Rattle.process.specs.declared.State.{State}
use Rattle.process.specs.declared.Process.{Process}
use Rattle.process.specs.Process.{state_of, index_of, own_list, posted_list, own_guard}
use Rattle.process.specs.Rules.{at_place, scan_at, scan_from, sleep_at, scan, try, hand_over, absorb, rule_at, rule, named_by, partner_of}
use Rattle.process.specs.Fits.{signal_fits}
use Rattle.rendezvous.specs.declared.Head.{Head}
use Rattle.history.proofs.View.{split, View, upd, effected, entered-each}
use Rattle.history.proofs.Invariant.{On, Inv, PlaceFormed, Formed, AllFormed}
use Rattle.history.proofs.Matches.{match}
use Rattle.history.proofs.Facts.{at_on, commit-binds}
use Rattle.alternative.specs.declared.Message.{Message}

pub placed : {n d p : ℕ} {x : Process} → Formed n d p x → (pl : Place) → PlaceFormed d x.count pl → Formed n d p (at_place x pl)
placed f pl o = record { posted = f.posted; signal = f.signal; place = o }

-- an enabled guard of a list of count guards is there
pub on_below : (gs : List Guard) (count i : ℕ) → On (take count gs) i → ltb i count ≡ true
on_below gs count i o =
    split i count (lt-ltb i count) (λ h.
    let past : length (take count gs) ≤ i = simp length-take (omega arith) in
    absurd (false≢true (rw (get_or-eq_default (take count gs) blank {n = i} past) at o)))

module _ {head : Head} (v : View) (inv : Inv head v) (formed : AllFormed head.n head.nap v) (p : ℕ) where
  pub with-own : (x : Process) → Formed head.n head.nap p x → AllFormed head.n head.nap (upd v p x)
  with-own x f = entered-each (Formed head.n head.nap) v p x f (λ q _. formed q)

  with-both : (q : ℕ) (x y : Process) → Formed head.n head.nap p x → Formed head.n head.nap q y → AllFormed head.n head.nap (upd (upd v q y) p x)
  with-both q x y f g = entered-each (Formed head.n head.nap) (upd v q y) p x f (λ r _. entered-each (Formed head.n head.nap) v q y g (λ s _. formed s) r)

  scanned : (q s : ℕ) → AllFormed head.n head.nap (effected v p q (scan_from (v p) s))
  unfolding scan_from
  scanned q s = with-own _ (placed (formed p) _ (nowhere (next_enabled (own_list (v p)) s)))
    where
      nowhere : (f : Option ℕ) → PlaceFormed head.nap (v p).count (scan_at f)
      nowhere (Some i) = tt
      nowhere None = tt

  -- an early step of a nap is counted, and is not its last
  formed-sleep : (s q : ℕ) (early : Bool) → ltb (s + 1) head.nap ≡ early → AllFormed head.n head.nap (effected v p q (sleep_at (v p) s early))
  formed-sleep s q true e = with-own _ (placed (formed p) (Place.Asleep (s + 1)) e)
  formed-sleep s q false e = scanned q 0

  formed-scan : 1 ≤ head.nap → (i q : ℕ) (s : State) (older : Bool) → AllFormed head.n head.nap (effected v p q (scan (v p) i s older))
  formed-scan naps i q State.Running older = scanned q (suc i)
  formed-scan naps i q State.Sleeping older = scanned q (suc i)
  formed-scan naps i q State.Waiting older = with-own _ (placed (formed p) (Place.Trying i) tt)
  formed-scan naps i q State.Alt true = with-own _ (placed (formed p) (Place.Asleep 0) (lt-ltb 0 head.nap naps))
  formed-scan naps i q State.Alt false = formed

  formed-try : (i q : ℕ) (accepting : Bool) (found : Option ℕ) → AllFormed head.n head.nap (effected v p q (try (v p) i (v q) accepting found))
  formed-try i q true (Some j) =
      let f = formed q in
      with-both q _ _ (placed (formed p) (Place.Committed i j) tt) (record { posted = f.posted; signal = f.signal; place = f.place })
  formed-try i q true None = scanned q (suc i)
  formed-try i q false (Some j) = scanned q (suc i)
  formed-try i q false None = scanned q (suc i)

  -- rule 9: both guards are in their lists
  formed-hand : (i j : ℕ) → (v p).place ≡ Place.Committed i j → let q = (own_guard (v p) i).partner in AllFormed head.n head.nap (effected v p q (hand_over (v p) i j (v q)))
  unfolding hand_over
  formed-hand i j e =
      let q = (own_guard (v p) i).partner in
      let f = formed q in
      let own = on_below (v p).guards (v p).count i (at_on v inv p i (rw e refl)) in
      let kept = on_below (v q).guards (v q).count j (match (commit-binds v inv p i j e).1).there in
      with-both q _ _ (placed (formed p) (Place.Met i _) own) (record { posted = f.posted; signal = kept; place = f.place })

  formed-absorb : (q : ℕ) (signal : Option (ℕ × Message)) → (v p).signal ≡ signal → AllFormed head.n head.nap (effected v p q (absorb (v p) signal))
  formed-absorb q None e = formed
  formed-absorb q (Some (j, m)) e = with-own _ (record { posted = (formed p).posted; signal = refl; place = subst (λ (s : Option (ℕ × Message)). signal_fits (v p).count s ≡ true) e (formed p).signal })

  formed-at : 1 ≤ head.nap → (pl : Place) → (v p).place ≡ pl → let q = named_by (v p) (index_of pl) in AllFormed head.n head.nap (effected v p q (rule_at head.nap p (v p) q (v q) pl))
  formed-at naps Place.Idle e = formed
  formed-at naps Place.Entering e = scanned 0 0
  formed-at naps (Place.Scanning i) e = let q = (own_guard (v p) i).partner in formed-scan naps i q (state_of (v q).place) (ltb (v q).transaction.0 (v p).transaction.0)
  formed-at naps (Place.Trying i) e = let q = (own_guard (v p) i).partner in formed-try i q (v q).accepting (kept_match p (own_guard (v p) i) q (posted_list (v q)))
  formed-at naps (Place.Committed i j) e = formed-hand i j e
  formed-at naps Place.Posting e = with-own _ (record { posted = (inv.alone p).own; signal = (formed p).signal; place = tt })
  formed-at naps Place.Opening e = with-own _ (record { posted = (formed p).posted; signal = (formed p).signal; place = tt })
  formed-at naps Place.Showing e = with-own _ (placed (formed p) Place.Waiting tt)
  formed-at naps (Place.Asleep s) e = formed-sleep s 0 (ltb (s + 1) head.nap) refl
  formed-at naps Place.Waiting e = formed-absorb 0 (v p).signal refl
  formed-at naps (Place.Met i m) e = formed

  pub formed-rule : 1 ≤ head.nap → let q = partner_of (v p) in AllFormed head.n head.nap (effected v p q (rule head.nap p (v p) q (v q)))
  unfolding rule
  formed-rule naps = formed-at naps (v p).place refl
