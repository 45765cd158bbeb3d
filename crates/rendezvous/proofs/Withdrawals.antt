-- A withdrawal is answered "withdrawn" exactly where an offer is open, which then is open no more.
use Rattle.std.specs.Prelude.{Result, Ok, Err, ⊤}
use Prim.Native.Nat.{ℕ}
use mathlib.Core.Path.{◌≡◌, refl}
use mathlib.Core.Bool.{Bool, true, false, not, ◌&&◌, cond}
use native.Mathlib.Omega.{arith}
use lib.ListN.{length, set, length-set, get_or-eq_default}
use lib.Seq.{get_or-set_same}
use lib.Dec.{ltb}
use borrow.Author.Tests.{lt-ltb, ltb-true, ltb-false}
use Rattle.process.specs.Process.{nobody, is_open}
use Rattle.rendezvous.specs.Types.{Process, ProcessTable, Refusal, Answer}
use Rattle.rendezvous.specs.Table.{process, put, has_open_offer}
use Rattle.rendezvous.specs.Refusals.{withdraw_verdict}
use Rattle.rendezvous.specs.Calls.{if_accepted, commit_came_first, given_up, withdrawn_or_late, withdraw}
use Rattle.rendezvous.specs.Withdrawals.{WithdrawsOpen}
use Rattle.rendezvous.proofs.Verdicts.{withdraw-passed, first-closed}

answers : (t : ProcessTable) (p : ℕ) → withdraw_verdict t p ≡ Ok tt → (withdraw t p).answer ≡ cond (has_open_offer t p) (Ok Answer.Withdrawn) (Ok Answer.TooLate)
unfolding withdraw
answers t p e = let a = withdraw-passed t p e in rw (e, lt-ltb p t.head.n a.below, first-closed (process t p).place (process t p).accepting a.elsewhere) (go (is_open (process t p)))
  where
    go : (is_it : Bool) → (withdrawn_or_late t p (process t p) (not is_it)).answer ≡ cond is_it (Ok Answer.Withdrawn) (Ok Answer.TooLate)
    go true = refl
    go false = refl

-- the record put at p is read there, or nobody's, whose offers are none
given-up-closed : (t : ProcessTable) (p : ℕ) (x : Process) → is_open x ≡ false → has_open_offer (put t p x) p ≡ false
given-up-closed t p x closed = None (ltb p t.head.n) (read (ltb p (length t.processes)) refl)
  where
    None : (b : Bool) → is_open (process (put t p x) p) ≡ false → (b && is_open (process (put t p x) p)) ≡ false
    None true e = e
    None false e = refl

    read : (b : Bool) → ltb p (length t.processes) ≡ b → is_open (process (put t p x) p) ≡ false
    read true e = rw (get_or-set_same t.processes p x nobody (ltb-true p (length t.processes) e)) closed
    read false e = rw (get_or-eq_default (set t.processes p x) nobody {n = p} (omega (arith, length-set t.processes p x, ltb-false p (length t.processes) e)))

closes : (t : ProcessTable) (p : ℕ) → (withdraw t p).answer ≡ Ok Answer.Withdrawn → has_open_offer (withdraw t p).table p ≡ false
unfolding withdraw
closes t p = go (withdraw_verdict t p) (commit_came_first (process t p).place (process t p).accepting)
  where
    go : (v : Result ⊤ Refusal) (first : Bool) → let r = if_accepted v t (withdrawn_or_late t p (process t p) first) in r.answer ≡ Ok Answer.Withdrawn → has_open_offer r.table p ≡ false
    go (Ok tt) true e = absurd (let z : ◌≡◌ {A = ℕ} 0 1 = cc in omega arith)
    go (Ok tt) false e = given-up-closed t p (given_up (process t p)) refl
    go (Err r) first e = absurd (let z : ◌≡◌ {A = ℕ} 0 1 = cc in omega arith)

pub withdraws-open : WithdrawsOpen
withdraws-open = record { answers = answers; closes = closes }
