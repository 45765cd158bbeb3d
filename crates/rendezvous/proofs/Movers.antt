-- The set of processes that can move holds bit p exactly where a step of p changes the table, and is empty exactly where none does.
use Prim.Native.Nat.{ℕ, ◌≤◌, ◌<◌}
use mathlib.Core.Path.{◌≡◌, refl, sym, ◌∙◌}
use mathlib.Core.Bool.{Bool, true, false, cond}
use native.Mathlib.Omega.{arith}
use lib.Dec.{ltb}
use borrow.Author.Tests.{ltb-true, ltb-false}
use Rattle.process.specs.Rules.{changes}
use Rattle.rendezvous.specs.Types.{ProcessTable}
use Rattle.rendezvous.specs.WellFormed.{well_formed}
use Rattle.rendezvous.specs.Calls.{effect_on}
use Rattle.rendezvous.specs.Movers.{runnable_set, bit, Tells, RestsWhenEmpty, MoversChange}
use Rattle.rendezvous.proofs.Sets.{bit-of, bit-outside, bit-of-none, none_below}
use Rattle.rendezvous.proofs.Changes.{step-outside, step_same, step_other, rest-still}

clash : ◌≡◌ {A = ℕ} 0 1 → ⊥
clash e = omega arith

module _ (t : ProcessTable) (formed : well_formed t ≡ true) where
  abbrev moves : ℕ → Bool
  moves p = changes (effect_on t p)

  -- of a process, the bit is that of its rule's effect
  tells-inside : (p : ℕ) → p < t.head.n → Tells t p
  unfolding runnable_set
  tells-inside p below = go (moves p) refl (bit-of moves p t.head.n below)
    where
      go : (b : Bool) → moves p ≡ b → bit p (runnable_set t) ≡ cond (moves p) 1 0 → Tells t p
      go true e is = record { one = λ _. step_other t formed p below e; zero = λ h. absurd (clash (sym h ∙ is ∙ rw e)) }
      go false e is = record { one = λ h. absurd (clash (sym (rw e at is) ∙ h)); zero = λ _. step_same t formed p below e }

  -- past the processes the bit is 0, and a step is refused
  tells-outside : (p : ℕ) → t.head.n ≤ p → Tells t p
  unfolding runnable_set
  tells-outside p above = record { one = λ h. absurd (clash (sym (bit-outside moves p t.head.n above) ∙ h)); zero = λ _. step-outside t formed p above }

  tells : (p : ℕ) → Tells t p
  tells p = go (ltb p t.head.n) refl
    where
      go : (b : Bool) → ltb p t.head.n ≡ b → Tells t p
      go true e = tells-inside p (ltb-true p t.head.n e)
      go false e = tells-outside p (ltb-false p t.head.n e)

  rests-when-empty : RestsWhenEmpty t
  unfolding runnable_set
  rests-when-empty = record { rests = λ e p. (tells p).zero (rw e (bit-of-none p)); empty = λ rest. none_below moves t.head.n (rest-still t formed rest) }

pub movers-change : MoversChange
movers-change t formed = (tells t formed, rests-when-empty t formed)
