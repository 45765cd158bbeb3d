-- A call that 7 or 2 turns away, and one that they let pass.
use Rattle.std.specs.Prelude.{Result, Ok, ⊤, Err}
use Rattle.std.specs.Result.{IsErr, IsErrAnd}
use Prim.Native.Nat.{ℕ, ◌≤◌}
use mathlib.Core.Path.{◌≡◌, ap}
use mathlib.Core.Bool.{Bool, true, false, not, cond}
use mathlib.Core.List.{List}
use native.Mathlib.Omega.{arith}
use lib.ListN.{length}
use lib.Dec.{ltb}
use borrow.Author.Tests.{lt-ltb}
use Rattle.wire.specs.Reading.{byte}
use Rattle.rendezvous.specs.Table.{process}
use Rattle.rendezvous.specs.WellFormed.{well_formed}
use Rattle.process.specs.Process.{is_at}
use Rattle.rendezvous.specs.Refusals.{require, process_tests, process_verdict, withdraw_verdict}
use Rattle.rendezvous.specs.Calls.{if_accepted, stepped, step, collected, collect, commit_came_first, withdrawn_or_late, withdraw}
use Rattle.rendezvous.proofs.Verdicts.{process-passed}
use Rattle.inplace.specs.Layout.{table_length}
use Rattle.inplace.specs.Types.{Process, Refusal, Answer, Reply}
use Rattle.inplace.specs.Reading.{head_of, table_of}
use Rattle.inplace.specs.Leaves.{Leaves}
use Rattle.inplace.specs.Calls.{stepped_by}
use Rattle.inplace.specs.Private.{Ready, Steps}

-- the tests that every call of a process begins with, before the rest of them
module _ (t : List ℕ) (p : ℕ) (rest : Result ⊤ Refusal) (reply : Reply) where
  abbrev tested : Reply
  tested = if_accepted (process_tests (well_formed (table_of t)) (table_of t).head.n p rest) (table_of t) reply

  pub turned : (r : Refusal) → process_verdict (table_of t) p ≡ Err r → tested ≡ record { answer = Err r; table = table_of t }
  unfolding process_verdict
  turned r e = rw (stops (well_formed (table_of t)) (ltb p (table_of t).head.n) e)
    where
      stops : (a b : Bool) → require a Refusal.NotWellFormed (require b Refusal.NoSuchProcess (Ok tt)) ≡ Err r → require a Refusal.NotWellFormed (require b Refusal.NoSuchProcess rest) ≡ Err r
      stops false b e = e
      stops true false e = e
      stops true true e = let z : ◌≡◌ {A = ℕ} 0 1 = cc in absurd (omega arith)

  pub passed : Ready t p → tested ≡ if_accepted rest (table_of t) reply
  unfolding table_of head_of
  passed h = rw (h.1, lt-ltb p (byte t 0) h.2)

-- what a `?` hands on
pub told : (answer : Result Answer Refusal) (r : Refusal) → IsErr answer × IsErrAnd answer (λ f. f ≡ r) → answer ≡ Err r
told (Ok a) r e = absurd e.1
told (Err f) r e = ap Err e.1

-- what 7 and 2 have tested
pub ready : (t : List ℕ) (p : ℕ) → table_length ≤ length t → process_verdict (table_of t) p ≡ Ok tt → Ready t p
unfolding table_of head_of
ready t p h e = let a = process-passed (table_of t) p e in (h, a.formed, a.below)

module _ (t : List ℕ) (p : ℕ) where
  pub step-turned : (r : Refusal) → process_verdict (table_of t) p ≡ Err r → step (table_of t) p ≡ record { answer = Err r; table = table_of t }
  unfolding step
  step-turned r e = rw e

  step-passed : Ready t p → step (table_of t) p ≡ stepped (table_of t) p
  unfolding step process_verdict
  step-passed h = passed t p (Ok tt) (stepped (table_of t) p) h

  -- what a step that is not turned away leaves
  pub step_left : Ready t p → (t' : List ℕ) (moved : Bool) (answer : Result Answer Refusal) → Steps t p t' moved → answer ≡ cond moved (Ok (Answer.Moved (process (table_of t') p).place)) (Ok Answer.Unchanged)
      → Leaves (step (table_of t) p) (stepped_by (table_of t) p) t t' answer
  step_left h t' moved answer l e = rw (step-passed h, e) l

-- a collection: 7 and 2 turn it away, or it goes on
module _ (t : List ℕ) (p : ℕ) where
  abbrev taken : Reply
  taken = collected (table_of t) p (process (table_of t) p) (process (table_of t) p).place

  pub collect-turned : (r : Refusal) → process_verdict (table_of t) p ≡ Err r → collect (table_of t) p ≡ record { answer = Err r; table = table_of t }
  unfolding collect
  collect-turned r e = rw e

  pub collect-passed : Ready t p → collect (table_of t) p ≡ collected (table_of t) p (process (table_of t) p) (process (table_of t) p).place
  unfolding collect process_verdict
  collect-passed h = passed t p (Ok tt) taken h

-- a withdrawal, likewise: what is tested after 7 and 2, and what is done
module _ (t : List ℕ) (p : ℕ) where
  abbrev x : Process
  x = process (table_of t) p

  abbrev rest : Result ⊤ Refusal
  rest = require (not (is_at "IM" x.place)) Refusal.NothingToWithdraw (Ok tt)

  abbrev given : Reply
  given = withdrawn_or_late (table_of t) p x (commit_came_first x.place x.accepting)

  pub withdraw-turned : (r : Refusal) → process_verdict (table_of t) p ≡ Err r → withdraw (table_of t) p ≡ record { answer = Err r; table = table_of t }
  unfolding withdraw withdraw_verdict
  withdraw-turned r e = turned t p rest given r e

  pub withdraw-passed : Ready t p → withdraw (table_of t) p ≡ if_accepted rest (table_of t) given
  unfolding withdraw withdraw_verdict
  withdraw-passed h = passed t p rest given h
