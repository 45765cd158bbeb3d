-- The cases of naps hold, by computation over the definitions; and an order that settles nothing, for naps of any length.
use Rattle.std.specs.Prelude.{Ok, None}
use Prim.Native.Nat.{ℕ, zero, suc, ◌+◌, ◌≤◌, ◌<◌}
use mathlib.Core.Path.{◌≡◌, refl, ap, ◌∙◌}
use mathlib.Core.Bool.{Bool, true, false}
use mathlib.Core.List.{List, [], ◌∷◌, ◌++◌, flatten}
use native.Mathlib.Omega.{arith}
use lib.ListN.{replicate}
use lib.Dec.{ltb}
use lib.Ieee.{of_bits}
use borrow.Author.Tests.{le-leb, lt-ltb, le-ltb}
use Rattle.alternative.specs.Guards.{guards_match, any_guard, offers_match, first_from, outranked, kept_match, next_enabled, slots, lent}
use Rattle.alternative.specs.declared.Guard.{Guard}
use Rattle.process.specs.declared.{Place.Place, Process.Process}
use Rattle.process.specs.Process.{fresh_process}
use Rattle.process.specs.Rules.{scan_from, hand_over, rule}
use Rattle.process.specs.Fits.{all_guards, partner_fits, list_fits, process_fits}
use Rattle.rendezvous.specs.declared.{ProcessTable.ProcessTable, Reply.Reply}
use Rattle.rendezvous.specs.Table.{process, fresh_table, count_below}
use Rattle.rendezvous.specs.WellFormed.{all_below, count_fits, nap_fits, fits_at, totals_fit, well_formed}
use Rattle.rendezvous.specs.Refusals.{require_guards, create_verdict, table_verdict, process_verdict, list_verdict, state_verdict, offer_tests, offer_verdict, withdraw_verdict}
use Rattle.rendezvous.specs.Calls.{if_accepted, create, entering, offered, offer_list, effect_on, stepped, step, collect, withdraw}
use Rattle.rendezvous.specs.Movers.{set_below, runnable_set, runnable}
use Rattle.rendezvous.specs.Run.{Offer, Step, reply_to, table_after, after_all, table_after_all}
use Rattle.rendezvous.specs.Commands.{reply_to_command}
use Rattle.history.specs.Cases.{Hold, receive, send, all_said}
use Rattle.history.specs.Further.{by_hand, table}
use Rattle.history.specs.NapCases.{with_nap, crossing, crossing_calls, stories, NapCases}

-- the computation, before all that rests on lemmas: with a definition under which a case comes out otherwise it fails first
stories-hold : Hold stories
unfolding guards_match any_guard first_from outranked kept_match next_enabled slots lent scan_from hand_over rule all_guards all_below count_fits nap_fits partner_fits list_fits process_fits fits_at totals_fit count_below well_formed require_guards create_verdict table_verdict process_verdict list_verdict state_verdict offer_verdict withdraw_verdict create entering offered offer_list effect_on stepped step collect withdraw set_below runnable_set runnable reply_to after_all reply_to_command all_said stories flatten of_bits lib.Ieee.is_nan
stories-hold = refl

-- a step of a well-formed table is the rule's
whole : (t : ProcessTable) (p : ℕ) → well_formed t ≡ true → ltb p t.head.n ≡ true → step t p ≡ stepped t p
unfolding process_verdict step
whole t p formed below = rw (formed, below)

taken : (t : ProcessTable) (p : ℕ) → well_formed t ≡ true → ltb p t.head.n ≡ true → table_after t (Step p) ≡ (stepped t p).table
unfolding reply_to
taken t p formed below = ap (λ (r : Reply). r.table) (whole t p formed below)

-- one turn of an endless order, step by step: process 1 goes to S, makes its early steps there, and leaves it at the d-th; process 0 finds it at A again
module _ (d : ℕ) (naps : 1 ≤ d) where
  formed-at-a : well_formed (crossing d (Place.Scanning 0)) ≡ true
  unfolding slots all_guards all_below count_fits nap_fits partner_fits list_fits process_fits fits_at totals_fit count_below well_formed
  formed-at-a = rw (le-leb 1 d naps)

  formed-at-s : (s : ℕ) → s < d → well_formed (crossing d (Place.Asleep s)) ≡ true
  unfolding slots all_guards all_below count_fits nap_fits partner_fits list_fits process_fits fits_at totals_fit count_below well_formed
  formed-at-s s h = rw (le-leb 1 d naps, lt-ltb s d h)

  falls : table_after (crossing d (Place.Scanning 0)) (Step 1) ≡ crossing d (Place.Asleep 0)
  unfolding slots rule effect_on stepped
  falls = taken (crossing d (Place.Scanning 0)) 1 formed-at-a refl

  counts : (s : ℕ) → s + 1 < d → table_after (crossing d (Place.Asleep s)) (Step 1) ≡ crossing d (Place.Asleep (s + 1))
  unfolding slots rule effect_on stepped
  counts s h = taken (crossing d (Place.Asleep s)) 1 (formed-at-s s (omega arith)) refl ∙ rw (lt-ltb (s + 1) d h)

  wakes : (s : ℕ) → s + 1 ≡ d → table_after (crossing d (Place.Asleep s)) (Step 1) ≡ crossing d (Place.Scanning 0)
  unfolding slots first_from next_enabled scan_from rule effect_on stepped
  wakes s e = taken (crossing d (Place.Asleep s)) 1 (formed-at-s s (omega arith)) refl ∙ rw (le-ltb (s + 1) d (omega arith))

  holds : table_after (crossing d (Place.Scanning 0)) (Step 0) ≡ crossing d (Place.Scanning 0)
  unfolding slots rule effect_on stepped
  holds = taken (crossing d (Place.Scanning 0)) 0 formed-at-a refl

  sleeps : (k s : ℕ) → s + k + 1 ≡ d → table_after_all (crossing d (Place.Asleep s)) (replicate (suc k) (Step 1) ++ (Step 0 ∷ [])) ≡ crossing d (Place.Scanning 0)
  unfolding after_all
  sleeps zero s e = ap (λ (t : ProcessTable). table_after_all t (Step 0 ∷ [])) (wakes s (omega arith)) ∙ holds
  sleeps (suc k) s e = ap (λ (t : ProcessTable). table_after_all t (replicate (suc k) (Step 1) ++ (Step 0 ∷ []))) (counts s (omega arith)) ∙ sleeps k (s + 1) (omega arith)

endless : (d : ℕ) → 1 ≤ d → table_after_all (crossing d (Place.Scanning 0)) (replicate (suc d) (Step 1) ++ (Step 0 ∷ [])) ≡ crossing d (Place.Scanning 0)
unfolding after_all
endless zero naps = absurd (omega arith)
endless (suc k) naps = ap (λ (t : ProcessTable). table_after_all t (replicate (suc k) (Step 1) ++ (Step 0 ∷ []))) (falls (suc k) naps) ∙ sleeps (suc k) naps k 0 (omega arith)

-- two processes on the way to it, by their places
abbrev stage : ℕ → ℕ → Process → Process → ProcessTable
stage d next x y = with_nap d (table 2 next (x ∷ y ∷ []))

abbrev first : Place → Process
first at = by_hand 0 at None false (send 1 0x40970a3d ∷ []) []

abbrev second : Place → Process
second at = by_hand 1 at None false (receive 0 ∷ []) []

-- an offer that nothing turns away
admitted : (t : ProcessTable) (p : ℕ) (gs : List Guard) → well_formed t ≡ true → offer_tests true t.head p (lent gs) (process t p).place ≡ Ok tt → table_after t (Offer p gs) ≡ (offered t p (lent gs)).table
unfolding offer_verdict offer_list reply_to
admitted t p gs formed passes = ap (λ (r : Reply). r.table) (whole-offer (well_formed t) formed)
  where
    whole-offer : (b : Bool) → b ≡ true → if_accepted (offer_tests b t.head p (lent gs) (process t p).place) t (offered t p (lent gs)) ≡ offered t p (lent gs)
    whole-offer b e = rw (e, passes)

module _ (d : ℕ) (naps : 1 ≤ d) where
  fresh-formed : well_formed (fresh_table 2 d) ≡ true
  unfolding all_guards all_below count_fits nap_fits list_fits process_fits fits_at totals_fit count_below well_formed
  fresh-formed = rw (le-leb 1 d naps)

  one-formed : well_formed (stage d 1 (first Place.Entering) fresh_process) ≡ true
  unfolding slots all_guards all_below count_fits nap_fits partner_fits list_fits process_fits fits_at totals_fit count_below well_formed
  one-formed = rw (le-leb 1 d naps)

  two_formed : well_formed (stage d 2 (first Place.Entering) (second Place.Entering)) ≡ true
  unfolding slots all_guards all_below count_fits nap_fits partner_fits list_fits process_fits fits_at totals_fit count_below well_formed
  two_formed = rw (le-leb 1 d naps)

  three-formed : well_formed (stage d 2 (first (Place.Scanning 0)) (second Place.Entering)) ≡ true
  unfolding slots all_guards all_below count_fits nap_fits partner_fits list_fits process_fits fits_at totals_fit count_below well_formed
  three-formed = rw (le-leb 1 d naps)

  first-offers : table_after (fresh_table 2 d) (Offer 0 (send 1 0x40970a3d ∷ [])) ≡ stage d 1 (first Place.Entering) fresh_process
  unfolding any_guard slots lent partner_fits require_guards list_verdict state_verdict entering offered of_bits lib.Ieee.is_nan
  first-offers = admitted (fresh_table 2 d) 0 (send 1 0x40970a3d ∷ []) fresh-formed refl

  second-offers : table_after (stage d 1 (first Place.Entering) fresh_process) (Offer 1 (receive 0 ∷ [])) ≡ stage d 2 (first Place.Entering) (second Place.Entering)
  unfolding any_guard slots lent partner_fits require_guards list_verdict state_verdict entering offered
  second-offers = admitted (stage d 1 (first Place.Entering) fresh_process) 1 (receive 0 ∷ []) one-formed refl

  first-enters : table_after (stage d 2 (first Place.Entering) (second Place.Entering)) (Step 0) ≡ stage d 2 (first (Place.Scanning 0)) (second Place.Entering)
  unfolding slots first_from next_enabled scan_from rule effect_on stepped
  first-enters = taken (stage d 2 (first Place.Entering) (second Place.Entering)) 0 two_formed refl

  second-enters : table_after (stage d 2 (first (Place.Scanning 0)) (second Place.Entering)) (Step 1) ≡ crossing d (Place.Scanning 0)
  unfolding slots first_from next_enabled scan_from rule effect_on stepped
  second-enters = taken (stage d 2 (first (Place.Scanning 0)) (second Place.Entering)) 1 three-formed refl

  reached : table_after_all (fresh_table 2 d) crossing_calls ≡ crossing d (Place.Scanning 0)
  unfolding after_all
  reached =
      ap (λ (t : ProcessTable). table_after_all t (Offer 1 (receive 0 ∷ []) ∷ Step 0 ∷ Step 1 ∷ [])) first-offers
      ∙ ap (λ (t : ProcessTable). table_after_all t (Step 0 ∷ Step 1 ∷ [])) second-offers
      ∙ ap (λ (t : ProcessTable). table_after_all t (Step 1 ∷ [])) first-enters
      ∙ second-enters

pub nap-cases-hold : NapCases
unfolding guards_match any_guard offers_match first_from outranked kept_match next_enabled slots lent scan_from hand_over rule all_guards all_below count_fits nap_fits partner_fits list_fits process_fits fits_at totals_fit count_below well_formed require_guards create_verdict table_verdict process_verdict list_verdict state_verdict offer_verdict withdraw_verdict create entering offered offer_list effect_on stepped step collect withdraw set_below runnable_set runnable reply_to after_all reply_to_command all_said stories flatten of_bits lib.Ieee.is_nan
nap-cases-hold = record { cases = stories-hold; counts = refl; begins = refl; matching = λ d. refl; reached = reached; endless = endless }
