-- What a call that is not turned away has passed, and that tests in order either hand on to what follows or stop there.
use Rattle.std.specs.Prelude.{Result, Ok, Err, ⊤}
use Prim.Native.Nat.{ℕ, ◌≤◌, ◌<◌}
use mathlib.Core.Path.{◌≡◌, refl, sym, ◌∙◌}
use mathlib.Core.Bool.{Bool, true, false, not, ◌&&◌, false≢true}
use mathlib.Core.List.{List, [], ◌∷◌}
use native.Mathlib.Omega.{arith}
use lib.ListN.{take}
use lib.Dec.{ltb, leb}
use borrow.Author.Tests.{ltb-true, leb-true}
use Rattle.alternative.specs.declared.Guard.{Guard}
use Rattle.alternative.specs.declared.GuardList.{GuardList}
use Rattle.alternative.specs.Guards.{most_guards, any_guard}
use Rattle.alternative.specs.Exchange.{action_holds_nan}
use Rattle.process.specs.declared.Place.{Place}
use Rattle.rendezvous.specs.declared.{Head.Head, ProcessTable.ProcessTable}
use Rattle.rendezvous.specs.declared.Refusal.{Refusal}
use Rattle.rendezvous.specs.Table.{last_transaction, process}
use Rattle.rendezvous.specs.WellFormed.{well_formed}
use Rattle.alternative.proofs.Tests.{and_parts}
use Rattle.process.specs.Process.{is_at, is_idle, open_at}
use Rattle.process.specs.Fits.{all_guards, partner_fits}
use Rattle.rendezvous.specs.Refusals.{require, require_guards, process_tests, process_verdict, list_verdict, state_verdict, offer_tests, offer_verdict}
use Rattle.rendezvous.specs.Refusals.{withdraw_verdict}
use Rattle.rendezvous.specs.Calls.{commit_came_first}

never : (r : Refusal) → ◌≡◌ {A = Result ⊤ Refusal} (Ok tt) (Err r) → ⊥
never r e = let z : ◌≡◌ {A = ℕ} 0 1 = cc in omega arith

-- a test that was passed, and the rest
pub passed : (b : Bool) (r : Refusal) (rest : Result ⊤ Refusal) → require b r rest ≡ Ok tt → (b ≡ true) × (rest ≡ Ok tt)
passed true r rest e = (refl, e)
passed false r rest e = absurd (never r (sym e))

pub guards-passed : (n p : ℕ) (gs : List Guard) (rest : Result ⊤ Refusal) → require_guards n p gs rest ≡ Ok tt → (all_guards (partner_fits n p) gs ≡ true) × (rest ≡ Ok tt)
unfolding require_guards all_guards
guards-passed n p [] rest e = (refl, e)
guards-passed n p (g ∷ gs) rest e =
    let a = passed (partner_fits n p g) Refusal.Partner _ e in
    let b = passed (not (action_holds_nan g.action)) Refusal.NotANumber _ a.1 in
    let c = guards-passed n p gs rest b.1 in
    (rw a.0 c.0, c.1)

pub record Named (t : ProcessTable) (p : ℕ) : Type 0 where
  pub formed : well_formed t ≡ true
  pub below : p < t.head.n

pub process-passed : (t : ProcessTable) (p : ℕ) → process_verdict t p ≡ Ok tt → Named t p
unfolding process_verdict
process-passed t p e =
    let a = passed (well_formed t) Refusal.NotWellFormed _ e in
    let b = passed (ltb p t.head.n) Refusal.NoSuchProcess _ a.1 in
    record { formed = a.0; below = ltb-true p t.head.n b.0 }

-- what an offer has passed, of which this was read
pub record Passed (form : Bool) (h : Head) (p : ℕ) (list : GuardList) (place : Place) : Type 0 where
  pub formed : form ≡ true
  pub below : p < h.n
  pub least : 1 ≤ list.count
  pub most : list.count ≤ most_guards
  pub partners : all_guards (partner_fits h.n p) (take list.count list.guards) ≡ true
  pub enabled : any_guard (λ g. g.enabled) (take list.count list.guards) ≡ true
  pub idle : is_idle place ≡ true
  pub left : h.next.0 < last_transaction

pub tests-passed : (formed : Bool) (h : Head) (p : ℕ) (list : GuardList) (place : Place) (verdict : Result ⊤ Refusal)
    → verdict ≡ offer_tests formed h p list place → verdict ≡ Ok tt → Passed formed h p list place
unfolding list_verdict state_verdict
tests-passed formed h p list place verdict asked e =
    let a = passed formed Refusal.NotWellFormed _ (sym asked ∙ e) in
    let b = passed (ltb p h.n) Refusal.NoSuchProcess _ a.1 in
    let c = passed (leb 1 list.count && leb list.count most_guards) Refusal.GuardCount _ b.1 in
    let d = guards-passed h.n p (take list.count list.guards) _ c.1 in
    let f = passed (any_guard (λ g. g.enabled) (take list.count list.guards)) Refusal.NoneEnabled _ d.1 in
    let g = passed (is_idle place) Refusal.NotIdle _ f.1 in
    let l = passed (ltb h.next.0 last_transaction) Refusal.LastTransaction _ g.1 in
    let k = and_parts (leb 1 list.count) _ c.0 in
    record {
      formed = a.0;
      below = ltb-true p h.n b.0;
      least = leb-true 1 list.count k.0;
      most = leb-true list.count most_guards k.1;
      partners = d.0;
      enabled = f.0;
      idle = g.0;
      left = ltb-true h.next.0 last_transaction l.0;
    }

abbrev pub Admitted : ProcessTable → ℕ → GuardList → Type 0
Admitted t p list = Passed (well_formed t) t.head p list (process t p).place

pub offer-passed : (t : ProcessTable) (p : ℕ) (list : GuardList) → offer_verdict t p list ≡ Ok tt → Admitted t p list
unfolding offer_verdict
offer-passed t p list e = tests-passed (well_formed t) t.head p list (process t p).place (offer_verdict t p list) refl e

-- what a withdrawal has passed: the process is neither at I nor at M
pub record Busy (t : ProcessTable) (p : ℕ) : Type 0 where
  pub below : p < t.head.n
  pub elsewhere : not (is_at "IM" (process t p).place) ≡ true

pub withdraw-passed : (t : ProcessTable) (p : ℕ) → withdraw_verdict t p ≡ Ok tt → Busy t p
unfolding withdraw_verdict
withdraw-passed t p e =
    let a = passed (well_formed t) Refusal.NotWellFormed _ e in
    let b = passed (ltb p t.head.n) Refusal.NoSuchProcess _ a.1 in
    let c = passed (not (is_at "IM" (process t p).place)) Refusal.NothingToWithdraw _ b.1 in
    record { below = ltb-true p t.head.n b.0; elsewhere = c.0 }

-- there a commit came first exactly where the offer is no longer open
pub first-closed : (place : Place) (accepting : Bool) → not (is_at "IM" place) ≡ true → commit_came_first place accepting ≡ not (open_at place accepting)
first-closed Place.Idle accepting e = absurd (false≢true e)
first-closed Place.Entering accepting e = refl
first-closed (Place.Scanning i) accepting e = refl
first-closed (Place.Trying i) accepting e = refl
first-closed (Place.Committed i j) accepting e = refl
first-closed Place.Posting accepting e = refl
first-closed Place.Opening accepting e = refl
first-closed Place.Showing accepting e = refl
first-closed (Place.Asleep s) accepting e = refl
first-closed Place.Waiting accepting e = refl
first-closed (Place.Met i m) accepting e = absurd (false≢true e)

-- Tests in order: all hand on to the verdict that follows, or one stops there whatever follows.
pub data Tests (F : Result ⊤ Refusal → Result ⊤ Refusal) : Type 0 where
  pass : ((rest : Result ⊤ Refusal) → F rest ≡ rest) → Tests F
  stop : (r : Refusal) → ((rest : Result ⊤ Refusal) → F rest ≡ Err r) → Tests F

require-tests : (b : Bool) (r : Refusal) → Tests (require b r)
require-tests true r = pass (λ rest. refl)
require-tests false r = stop r (λ rest. refl)

then-tests : (F G : Result ⊤ Refusal → Result ⊤ Refusal) → Tests F → Tests G → Tests (λ rest. F (G rest))
then-tests F G (pass f) (pass g) = pass (λ rest. f (G rest) ∙ g rest)
then-tests F G (pass f) (stop r g) = stop r (λ rest. f (G rest) ∙ g rest)
then-tests F G (stop r f) g = stop r (λ rest. f (G rest))

process-tests : (formed : Bool) (n p : ℕ) → Tests (process_tests formed n p)
process-tests formed n p = then-tests _ _ (require-tests formed Refusal.NotWellFormed) (require-tests (ltb p n) Refusal.NoSuchProcess)

guards-tests : (n p : ℕ) (gs : List Guard) → Tests (require_guards n p gs)
unfolding require_guards
guards-tests n p [] = pass (λ rest. refl)
guards-tests n p (g ∷ gs) =
    then-tests _ _ (require-tests (partner_fits n p g) Refusal.Partner)
    (then-tests _ _ (require-tests (not (action_holds_nan g.action)) Refusal.NotANumber) (guards-tests n p gs))

list-tests : (n p : ℕ) (list : GuardList) → Tests (list_verdict n p list)
unfolding list_verdict
list-tests n p list =
    then-tests _ _ (require-tests (leb 1 list.count && leb list.count most_guards) Refusal.GuardCount)
    (then-tests _ _ (guards-tests n p (take list.count list.guards))
    (require-tests (any_guard (λ g. g.enabled) (take list.count list.guards)) Refusal.NoneEnabled))

all_pass : (F : Result ⊤ Refusal → Result ⊤ Refusal) → Tests F → F (Ok tt) ≡ Ok tt → (rest : Result ⊤ Refusal) → F rest ≡ rest
all_pass F (pass f) e rest = f rest
all_pass F (stop r f) e rest = absurd (never r (sym e ∙ f (Ok tt)))

one-stops : (F : Result ⊤ Refusal → Result ⊤ Refusal) → Tests F → (r : Refusal) → F (Ok tt) ≡ Err r → (rest : Result ⊤ Refusal) → F rest ≡ Err r
one-stops F (pass f) r e rest = absurd (never r (sym (f (Ok tt)) ∙ e))
one-stops F (stop q f) r e rest = f rest ∙ sym (f (Ok tt)) ∙ e

pub guards-pass : (n p : ℕ) (gs : List Guard) (rest : Result ⊤ Refusal) → Ok tt ≡ require_guards n p gs (Ok tt) → require_guards n p gs rest ≡ rest
guards-pass n p gs rest e = all_pass (require_guards n p gs) (guards-tests n p gs) (sym e) rest

pub guards-stop : (n p : ℕ) (gs : List Guard) (r : Refusal) (rest : Result ⊤ Refusal) → Err r ≡ require_guards n p gs (Ok tt) → require_guards n p gs rest ≡ Err r
guards-stop n p gs r rest e = one-stops (require_guards n p gs) (guards-tests n p gs) r (sym e) rest

pub list-pass : (n p : ℕ) (list : GuardList) (rest : Result ⊤ Refusal) → Ok tt ≡ list_verdict n p list (Ok tt) → list_verdict n p list rest ≡ rest
list-pass n p list rest e = all_pass (list_verdict n p list) (list-tests n p list) (sym e) rest

pub list-stop : (n p : ℕ) (list : GuardList) (r : Refusal) (rest : Result ⊤ Refusal) → Err r ≡ list_verdict n p list (Ok tt) → list_verdict n p list rest ≡ Err r
list-stop n p list r rest e = one-stops (list_verdict n p list) (list-tests n p list) r (sym e) rest

pub process-pass : (formed : Bool) (n p : ℕ) (rest : Result ⊤ Refusal) → Ok tt ≡ process_tests formed n p (Ok tt) → process_tests formed n p rest ≡ rest
process-pass formed n p rest e = all_pass (process_tests formed n p) (process-tests formed n p) (sym e) rest

pub process-stop : (formed : Bool) (n p : ℕ) (r : Refusal) (rest : Result ⊤ Refusal) → Err r ≡ process_tests formed n p (Ok tt) → process_tests formed n p rest ≡ Err r
process-stop formed n p r rest e = one-stops (process_tests formed n p) (process-tests formed n p) r (sym e) rest
