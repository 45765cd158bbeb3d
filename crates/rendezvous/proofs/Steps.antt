-- Laws of a step. The code reads and writes the records at p and q modulo most_processes, which are those of p and its partner where p is a process.
use Rattle.std.specs.Prelude.{Ok}
use Prim.Native.Nat.{ℕ, ◌<◌, ◌%◌}
use mathlib.Core.Path.{◌≡◌, sym}
use mathlib.Core.Bool.{Bool, true}
use native.Mathlib.Nat.{mod-eq_of_lt}
use native.Mathlib.Omega.{arith}
use borrow.Author.Tests.{lt-ltb}
use Rattle.process.specs.Rules.{rule, partner_of, changes}
use Rattle.process.proofs.OnlyTold.{partner-below}
use Rattle.rendezvous.specs.Types.{Process, ProcessTable}
use Rattle.rendezvous.specs.Table.{most_processes, process}
use Rattle.rendezvous.specs.WellFormed.{fits_at, well_formed}
use Rattle.rendezvous.specs.Refusals.{process_verdict}
use Rattle.rendezvous.specs.Calls.{effect_on}
use Rattle.rendezvous.proofs.Forms.{formed-most, formed-fits}
use Rattle.rendezvous.proofs.Verdicts.{process-passed}

-- a process that fits, and its partner, below n
partner-inside : (t : ProcessTable) (p : ℕ) → fits_at t p ≡ true → 0 < t.head.n → partner_of (process t p) < t.head.n
unfolding fits_at
partner-inside t p e h = partner-below t.head.n t.head.nap p (process t p) _ e h

pub record Inside (t : ProcessTable) (p : ℕ) : Type 0 where
  pub own : p % most_processes ≡ p
  pub partner : partner_of (process t p) % most_processes ≡ partner_of (process t p)

pub inside : (t : ProcessTable) (p : ℕ) → process_verdict t p ≡ Ok tt → Inside t p
inside t p e =
    let a = process-passed t p e in
    let m = formed-most t a.formed in
    let b : partner_of (process t p) < t.head.n = partner-inside t p (formed-fits t p a.formed a.below) (omega (arith, a.below)) in
    let c : p < most_processes = omega (arith, a.below, m) in
    let d : partner_of (process t p) < most_processes = omega (arith, b, m) in
    record { own = mod-eq_of_lt c; partner = mod-eq_of_lt d }

pub process-accepted : (t : ProcessTable) (p : ℕ) → well_formed t ≡ true → p < t.head.n → process_verdict t p ≡ Ok tt
unfolding process_verdict
process-accepted t p e h = rw (e, lt-ltb p t.head.n h)

-- what the code reads of process p tells whether a step changes the table
pub member-read : (t : ProcessTable) (p q : ℕ) (x y : Process) (r : Bool) → well_formed t ≡ true → p < t.head.n → x ≡ process t (p % most_processes) → q ≡ partner_of x
    → y ≡ process t (q % most_processes) → ((d m n : ℕ) → r ≡ changes (rule d m x n y)) → changes (effect_on t p) ≡ r
unfolding effect_on
member-read t p q x y r e h own f other g =
    let i = inside t p (process-accepted t p e h) in
    let at-p : x ≡ process t p = rw i.own at own in
    let at-q : q ≡ partner_of (process t p) = rw at-p at f in
    let read : r ≡ changes (rule t.head.nap p x q y) = g t.head.nap p q in
    sym (rw (other, at-p, at-q, i.partner) at read)
