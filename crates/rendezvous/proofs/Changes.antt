-- A step of process p changes a well-formed table exactly where the rule of p changes anything.
use Prim.Native.Nat.{ℕ, ◌≤◌, ◌<◌}
use mathlib.Core.Path.{◌≡◌, refl, sym, ap, ◌∙◌}
use mathlib.Core.Bool.{Bool, true, false, false≢true}
use native.Mathlib.Omega.{arith}
use lib.ListN.{length, set, length-set, get_or-eq_default}
use lib.Seq.{get_or-set_same}
use lib.Dec.{ltb}
use borrow.Author.Tests.{ltb-true, ltb-false, lt-ltb}
use Rattle.process.specs.Process.{nobody}
use Rattle.process.specs.Rules.{Effect, Neither, Own, Both, rule, changes}
use Rattle.process.proofs.Differs.{Differs, rule-differs}
use Rattle.rendezvous.specs.Types.{Process, ProcessTable}
use Rattle.rendezvous.specs.Table.{process}
use Rattle.rendezvous.specs.WellFormed.{well_formed}
use Rattle.rendezvous.specs.Refusals.{process_verdict}
use Rattle.rendezvous.specs.Calls.{effect_on, applied, stepped, step, Quiescent}

-- another place in the record of p is another table
placed : (t u : ProcessTable) (p : ℕ) (x : Process) → process u p ≡ x → (x.place ≡ (process t p).place → ⊥) → u ≡ t → ⊥
placed t u p x e h f = h (ap (λ (y : Process). y.place) (sym e ∙ ap (λ (v : ProcessTable). process v p) f))

changed : (t : ProcessTable) (p q : ℕ) (e : Effect) → p < length t.processes → Differs (process t p).place e → changes e ≡ true → (applied t p q e).table ≡ t → ⊥
changed t p q Neither h d c = absurd (false≢true c)
changed t p q (Own x) h d c = placed t _ p x (get_or-set_same t.processes p x nobody h) d
changed t p q (Both x y) h d c = placed t _ p x (get_or-set_same (set t.processes q y) p x nobody (omega (arith, length-set t.processes q y))) d

unchanged : (t : ProcessTable) (p q : ℕ) (e : Effect) → changes e ≡ false → (applied t p q e).table ≡ t
unchanged t p q Neither c = refl
unchanged t p q (Own x) c = absurd (false≢true (sym c))
unchanged t p q (Both x y) c = absurd (false≢true (sym c))

-- past the end of the records stands a process at I, whose rule changes nothing
nobody-stays : (t : ProcessTable) (p : ℕ) → length t.processes ≤ p → changes (effect_on t p) ≡ false
unfolding effect_on rule
nobody-stays t p h = rw (get_or-eq_default t.processes nobody {n = p} h)

module _ (t : ProcessTable) (formed : well_formed t ≡ true) (p : ℕ) where
  taken : p < t.head.n → step t p ≡ stepped t p
  unfolding step process_verdict
  taken below = rw (formed, lt-ltb p t.head.n below)

  -- a step of no process is refused
  pub step-outside : t.head.n ≤ p → (step t p).table ≡ t
  unfolding step process_verdict
  step-outside above = go (ltb p t.head.n) refl
    where
      go : (b : Bool) → ltb p t.head.n ≡ b → (step t p).table ≡ t
      go true e = absurd (omega (arith, ltb-true p t.head.n e))
      go false e = rw (formed, e)

  pub step_same : p < t.head.n → changes (effect_on t p) ≡ false → (step t p).table ≡ t
  unfolding stepped
  step_same below c = rw (taken below) (unchanged t p _ (effect_on t p) c)

  pub step_other : p < t.head.n → changes (effect_on t p) ≡ true → (step t p).table ≡ t → ⊥
  unfolding stepped effect_on
  step_other below c = rw (taken below) (changed t p _ (effect_on t p) (there (ltb p (length t.processes)) refl) (rule-differs t.head.nap p (process t p) _ _) c)
    where
      there : (b : Bool) → ltb p (length t.processes) ≡ b → p < length t.processes
      there true e = ltb-true p (length t.processes) e
      there false e = absurd (false≢true (sym (nobody-stays t p (ltb-false p (length t.processes) e)) ∙ c))

-- at rest no rule changes anything
pub rest-still : (t : ProcessTable) → well_formed t ≡ true → Quiescent t → (p : ℕ) → p < t.head.n → changes (effect_on t p) ≡ false
rest-still t formed rest p below = go (changes (effect_on t p)) refl
  where
    go : (b : Bool) → changes (effect_on t p) ≡ b → b ≡ false
    go true e = absurd (step_other t formed p below e (rest p))
    go false e = refl
