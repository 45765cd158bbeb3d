-- Laws of acts: carried out on the table that was read, an act is the call.
use Rattle.std.specs.Prelude.{Result, Ok, Err, ⊤, Option, Some, None}
use Prim.Native.Nat.{ℕ, ◌+◌, ◌%◌}
use mathlib.Core.Path.{◌≡◌, refl, sym, ap, ◌∙◌}
use mathlib.Core.Bool.{Bool, true, false, not}
use mathlib.Core.List.{List}
use lib.ListN.{length, set, length-set}
use lib.Seq.{set-get_or}
use lib.Dec.{ltb}
use Rattle.alternative.specs.declared.GuardList.{GuardList}
use Rattle.process.specs.Process.{is_at, nobody}
use Rattle.process.specs.Rules.{Effect, Neither, Own, Both, changed, rule, partner_of}
use Rattle.process.specs.InCode.{change_of, outcome_of}
use Rattle.process.proofs.PlaceCases.{both-carried}
use Rattle.process.proofs.OnlyTold.{OnlyTold, rule-only-told}
use Rattle.process.specs.declared.Told.{Told}
use Rattle.rendezvous.specs.declared.Act.{Act}
use Rattle.rendezvous.specs.Types.{Place, Process, Head, ProcessTable, Refusal, Answer, Reply}
use Rattle.rendezvous.specs.Table.{most_processes, process, put, with_next}
use Rattle.rendezvous.specs.WellFormed.{well_formed}
use Rattle.rendezvous.specs.Forms.{Form, form_end}
use Rattle.rendezvous.specs.Refusals.{require, process_tests, process_verdict, list_verdict, state_verdict, offer_verdict, withdraw_tests}
use Rattle.rendezvous.specs.Refusals.{withdraw_verdict}
use Rattle.rendezvous.specs.Calls.{if_accepted, entering, offered, offer_list, effect_on, applied, stepped, step, collected, collect, commit_came_first}
use Rattle.rendezvous.specs.Calls.{withdrawn_or_late, withdraw}
use Rattle.rendezvous.specs.Acts.{alone, unless_refused, offer_act, moved_act, step_act, collected_act, collect_act, withdrawn_or_late_act, withdraw_act, told_to, done}
use Rattle.rendezvous.specs.Acts.{FormOf, AllActsAreCalls}
use Rattle.rendezvous.proofs.Steps.{inside}

-- an act that changes nothing: what was read is written again
pub nothing-done : (t : ProcessTable) (i j : ℕ) (answer : Result Answer Refusal) → done t i j (alone answer t.head (process t i)) ≡ record { answer = answer; table = t }
unfolding done
nothing-done t i j answer = ap with-list (set-get_or t.processes i nobody)
  where
    with-list : List Process → Reply
    with-list l = record { answer = answer; table = record { head = t.head; processes = l } }

module _ (t : ProcessTable) (p : ℕ) where
  -- behind a verdict, the act and the reply of a call that is not refused
  if-done : (q : ℕ) (v : Result ⊤ Refusal) (act : Act) (reply : Reply) → done t p q act ≡ reply → done t p q (unless_refused v t.head (process t p) act) ≡ if_accepted v t reply
  if-done q (Ok tt) act reply e = e
  if-done q (Err r) act reply e = nothing-done t p q (Err r)

  applied-done : (q : ℕ) (e : Effect) → OnlyTold (process t q) e → done t p q (moved_act t.head (process t p) (change_of e)) ≡ applied t p q e
  unfolding done
  applied-done q Neither k = nothing-done t p q (Ok Answer.Unchanged)
  applied-done q (Own x) k = refl
  applied-done q (Both x y) k = rw k

  collected-done : (q : ℕ) (place : Place) → done t p q (collected_act t.head (process t p) (outcome_of place)) ≡ collected t p (process t p) place
  unfolding done
  collected-done q place =
      let refused = nothing-done t p q (Err Refusal.NotMet) in
      both-carried (λ s r. done t p q (collected_act t.head (process t p) s) ≡ r) _ _ _ _ _ _ _ _ _ _ place refused (λ i e. refused) (λ i j e. refused) (λ s e. refused) (λ i m e. refl)

  withdrawn-done : (q : ℕ) (first : Bool) → let x = process t p in done t p q (withdrawn_or_late_act t.head x first) ≡ withdrawn_or_late t p x first
  unfolding done
  withdrawn-done q true = nothing-done t p q (Ok Answer.TooLate)
  withdrawn-done q false = refl

pub acts-are-calls : AllActsAreCalls
unfolding done offer_act step_act collect_act withdraw_act process_verdict offer_verdict withdraw_verdict offer_list offered step stepped effect_on collect withdraw
acts-are-calls t form e = record {
  offers = λ p q list. rw e (if-done t p q (offer_verdict t p list) _ (offered t p list) refl);
  steps = λ p. let x = process t p in let q = partner_of x in rw e (if-done t p q (process_verdict t p) _ _ (applied-done t p q (rule t.head.nap p x q (process t q)) (rule-only-told t.head.nap p x q (process t q))));
  collects = λ p q. rw e (if-done t p q (process_verdict t p) _ _ (collected-done t p q (process t p).place));
  withdraws = λ p q. rw e (if-done t p q (withdraw_verdict t p) _ _ (withdrawn-done t p q (commit_came_first (process t p).place (process t p).accepting)));
}

-- as the code carries an act out: the partner's record, where it is told something, then the own record and the head
pub told-carried : (t u : ProcessTable) (i j : ℕ) (act : Act) (told : Told) → act.told ≡ Some told
    → u ≡ put t j (changed (process t j) (process t j).place told.signal told.accepting)
    → record { answer = act.answer; table = record { head = act.head; processes = set u.processes i act.own } } ≡ done t i j act
unfolding done
told-carried t u i j act told e f = rw (f, e)

pub alone-carried : (t u : ProcessTable) (i j : ℕ) (act : Act) → act.told ≡ None → u ≡ t
    → record { answer = act.answer; table = record { head = act.head; processes = set u.processes i act.own } } ≡ done t i j act
unfolding done
alone-carried t u i j act e f = rw (f, e)

-- there are as many records as there were
pub done-long : (t : ProcessTable) (p q : ℕ) (act : Act) → length (done t p q act).table.processes ≡ length t.processes
unfolding done
done-long t p q act = length-set (told_to t q act.told) p act.own ∙ go act.told
  where
    go : (told : Option Told) → length (told_to t q told) ≡ length t.processes
    go (Some told) = length-set t.processes q _
    go None = refl

-- The code reads and writes the records at i = p % most_processes and j = q % most_processes: those of p and q where 7 and 2 let p pass. Where they do not, what was read is written again,
-- wherever it was.
at_places : (t : ProcessTable) (form : Form) → FormOf t form → (p q i j : ℕ) (rest : Process → Result ⊤ Refusal) (act : Process → Process → Act) → (process_verdict t p ≡ Ok tt → (i ≡ p) × (j ≡ q))
    → done t i j (unless_refused (process_tests (form_end form t.head) t.head.n p (rest (process t i))) t.head (process t i) (act (process t i) (process t j)))
    ≡ done t p q (unless_refused (process_tests (form_end form t.head) t.head.n p (rest (process t p))) t.head (process t p) (act (process t p) (process t q)))
unfolding process_verdict
at_places t form told p q i j rest act same = go (form_end form t.head) (sym told) (ltb p t.head.n) refl
  where
    go : (a : Bool) → well_formed t ≡ a → (b : Bool) → ltb p t.head.n ≡ b
        → done t i j (unless_refused (require a Refusal.NotWellFormed (require b Refusal.NoSuchProcess (rest (process t i)))) t.head (process t i) (act (process t i) (process t j)))
        ≡ done t p q (unless_refused (require a Refusal.NotWellFormed (require b Refusal.NoSuchProcess (rest (process t p)))) t.head (process t p) (act (process t p) (process t q)))
    go true e true f = let s = same (rw (e, f)) in rw (s.0, s.1)
    go true e false f = nothing-done t i j (Err Refusal.NoSuchProcess) ∙ sym (nothing-done t p q (Err Refusal.NoSuchProcess))
    go false e b f = nothing-done t i j (Err Refusal.NotWellFormed) ∙ sym (nothing-done t p q (Err Refusal.NotWellFormed))

-- a withdrawal tells no partner
if-untold : (v : Result ⊤ Refusal) (h : Head) (x : Process) (act : Act) → act.told ≡ None → (unless_refused v h x act).told ≡ None
if-untold (Ok tt) h x act e = e
if-untold (Err r) h x act e = refl

withdrawn-untold : (h : Head) (x : Process) (first : Bool) → (withdrawn_or_late_act h x first).told ≡ None
withdrawn-untold h x true = refl
withdrawn-untold h x false = refl

-- from the record x that the code has read: the act, carried out where it was read, is the call
module _ (t : ProcessTable) (p : ℕ) (form : Form) (told : FormOf t form) (x : Process) (own : x ≡ process t (p % most_processes)) (act : Act) where
  -- the own record and the head alone, as a withdrawal writes them
  abbrev written : Reply
  written = record { answer = act.answer; table = record { head = act.head; processes = set t.processes (p % most_processes) act.own } }

  pub offer-done : (list : GuardList) (j : ℕ) → act ≡ offer_act form t.head p x list → done t (p % most_processes) j act ≡ offer_list t p list
  unfolding offer_act
  offer-done list j e =
      rw (e, own)
      (at_places t form told p j (p % most_processes) j (λ x. list_verdict t.head.n p list (state_verdict x.place t.head.next))
      (λ x y. alone (Ok (Answer.Offered t.head.next)) (with_next t.head (t.head.next.0 + 1)) (entering x t.head.next list)) (λ a. ((inside t p a).own, refl))
      ∙ (acts-are-calls t form told).offers p j list)

  pub step-done : (q : ℕ) (y : Process) → q ≡ partner_of x → y ≡ process t (q % most_processes) → act ≡ step_act form t.head p x q y
      → done t (p % most_processes) (q % most_processes) act ≡ step t p
  unfolding step_act
  step-done q y named other e =
      rw (e, other, named, own)
      (at_places t form told p (partner_of (process t p)) (p % most_processes) (partner_of (process t (p % most_processes)) % most_processes) (λ x. (Ok tt)) (λ x y. moved_act t.head x (change_of (rule t.head.nap p x (partner_of x) y))) (λ a. ((inside t p a).own, rw (inside t p a).own (inside t p a).partner))
      ∙ (acts-are-calls t form told).steps p)

  pub collect-done : (j : ℕ) → act ≡ collect_act form t.head p x → done t (p % most_processes) j act ≡ collect t p
  unfolding collect_act
  collect-done j e =
      rw (e, own)
      (at_places t form told p j (p % most_processes) j (λ x. (Ok tt)) (λ x y. collected_act t.head x (outcome_of x.place)) (λ a. ((inside t p a).own, refl)) ∙ (acts-are-calls t form told).collects p j)

  pub withdraw-done : (j : ℕ) → act ≡ withdraw_act form t.head p x → done t (p % most_processes) j act ≡ withdraw t p
  unfolding withdraw_act
  withdraw-done j e =
      rw (e, own)
      (at_places t form told p j (p % most_processes) j (λ x. require (not (is_at "IM" x.place)) Refusal.NothingToWithdraw (Ok tt)) (λ x y. withdrawn_or_late_act t.head x (commit_came_first x.place x.accepting)) (λ a. ((inside t p a).own, refl))
      ∙ (acts-are-calls t form told).withdraws p j)

  pub withdraw-written : act ≡ withdraw_act form t.head p x → written ≡ withdraw t p
  unfolding withdraw_act
  withdraw-written e = alone-carried t t (p % most_processes) 0 act (rw e (if-untold (withdraw_tests (form_end form t.head) t.head.n p x.place) t.head x _ (withdrawn-untold t.head x (commit_came_first x.place x.accepting)))) refl ∙ withdraw-done 0 e
