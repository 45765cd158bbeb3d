-- To be believed. Document 01, "Calls": movers; and, as a claim about the definitions, what the set tells of the steps and of rest.
use Rattle.std.specs.Prelude.{◌/◌, ◌%◌, ◌+◌, ◌^◌, ◌≡◌, Ok}
use Rattle.process.specs.Rules.{changes}
use Rattle.rendezvous.specs.Types.{ℕ, zero, suc, Bool, true, cond, ProcessTable, Answer, Reply}
use Rattle.rendezvous.specs.WellFormed.{well_formed}
use Rattle.rendezvous.specs.Refusals.{table_verdict}
use Rattle.rendezvous.specs.Calls.{if_accepted, effect_on, step, Quiescent}

-- "bit p is 1 exactly if p is a party and a step of p would change the desk."
unfoldable pub set_below : (ℕ → Bool) → ℕ → ℕ
set_below member zero = 0
set_below member (suc n) = set_below member n + cond (member n) (2 ^ n) 0

unfoldable pub runnable_set : ProcessTable → ℕ
runnable_set t = set_below (λ p. changes (effect_on t p)) t.head.n

unfoldable pub runnable : ProcessTable → Reply
runnable t = if_accepted (table_verdict t) t (record { answer = Ok (Answer.Runnable (runnable_set t)); table = t })

abbrev pub bit : ℕ → ℕ → ℕ
bit p set = set / 2 ^ p % 2

-- "bit p is 1 exactly if p is a party and a step of p would change the desk.": where bit p is 1 the table after a step of p is another, where it is 0 it is the same
pub record Tells (t : ProcessTable) (p : ℕ) : Type 0 where
  pub one : bit p (runnable_set t) ≡ 1 → (step t p).table ≡ t → ⊥
  pub zero : bit p (runnable_set t) ≡ 0 → (step t p).table ≡ t

-- "The desk is at rest when the set is empty.": then, and only then, no step changes the table
pub record RestsWhenEmpty (t : ProcessTable) : Type 0 where
  pub rests : runnable_set t ≡ 0 → Quiescent t
  pub empty : Quiescent t → runnable_set t ≡ 0

-- of every table that is not refused by 7
abbrev pub MoversChange : Type 0
MoversChange = (t : ProcessTable) → well_formed t ≡ true → ((p : ℕ) → Tells t p) × RestsWhenEmpty t
