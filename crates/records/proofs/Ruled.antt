-- The rules, by the tag in a record's bytes.
use Rattle.std.specs.Prelude.{Some, None}
use Prim.Native.Nat.{ℕ, ◌+◌, ◌≤◌, ◌<◌}
use mathlib.Core.Path.{◌≡◌, refl, ap, ◌∙◌}
use mathlib.Core.Bool.{Bool, true, false≢true}
use mathlib.Core.List.{List, [], ◌∷◌}
use mathlib.Core.Logic.{◌⊎◌, inl, inr, ⊎_elim}
use native.Mathlib.Numerals.{add-one}
use native.Mathlib.Omega.{arith}
use lib.ListN.{get_or-eq_default}
use Rattle.process.specs.Process.{state_of}
use Rattle.process.specs.Rules.{Neither, Own, at_place, with_signal, scan_from, scan, absorb, rule_at, rule}
use Rattle.wire.specs.Reading.{byte, message_of}
use Rattle.records.specs.Types.{Message, Place, Process}
use Rattle.process.specs.declared.State.{State}
use Rattle.records.specs.Layout.{part}
use Rattle.records.specs.Reading.{place_by, place_of, signal_of, process_of}
use Rattle.records.specs.Private.{passes_by}
use Rattle.records.proofs.Tags.{by-tag, last_place}

-- the rule of a record is that of its tag
pub rule-by : (d p q : ℕ) (y : Process) (r : List ℕ) (tag : ℕ) → byte r 0 ≡ tag
    → rule d p (process_of r) q y ≡ rule_at d p (process_of r) q y (place_by tag (byte r 1) (byte r 2) (message_of (part r 28 9)))
unfolding rule process_of place_of
rule-by d p q y r tag e = ap (λ (k : ℕ). rule_at d p (process_of r) q y (place_by k (byte r 1) (byte r 2) (message_of (part r 28 9)))) e

-- rules 13 and 14, by the signal's tag
pub absorbs : (r : List ℕ) → (byte r 3 ≡ 0 → ⊥) → absorb (process_of r) (process_of r).signal ≡ Own (at_place (with_signal (process_of r) None) (Place.Met (byte r 4) (message_of (part r 37 9))))
unfolding process_of signal_of
absorbs r e = ap (absorb (process_of r)) (get_or-eq_default (None ∷ []) (Some ((byte r 4), (message_of (part r 37 9)))) {n = byte r 3} (omega arith))

pub absorbs-not : (r : List ℕ) → byte r 3 ≡ 0 → absorb (process_of r) (process_of r).signal ≡ Neither
unfolding process_of signal_of
absorbs-not r e = rw e

-- what is left where no rule but those of A, T and C changes the record, and the place is not W: I and M
module _ (d p q : ℕ) (y : Process) (r : List ℕ) where
  abbrev Left : ℕ → Type 0
  Left tag = (tag < 2) ⊎ (4 < tag) → (tag ≡ 1 → ⊥) → (tag ≡ 8 → ⊥) → (tag ≡ 5 → ⊥) → (tag ≡ 6 → ⊥) → (tag ≡ 7 → ⊥) → (tag ≡ 9 → ⊥)
      → rule_at d p (process_of r) q y (place_by tag (byte r 1) (byte r 2) (message_of (part r 28 9))) ≡ Neither

  between : {A : Type 0} (k : ℕ) → 2 ≤ k → k ≤ 4 → (k < 2) ⊎ (4 < k) → A
  between k h l s = ⊎_elim (λ a. absurd (omega arith)) (λ a. absurd (omega arith)) s

  left_alone : (tag : ℕ) → Left tag
  left_alone tag = by-tag Left
      (λ s a b c e f g. refl)
      (λ s a b c e f g. absurd (a refl))
      (λ s a b c e f g. between 2 (omega arith) (omega arith) s)
      (λ s a b c e f g. between 3 (omega arith) (omega arith) s)
      (λ s a b c e f g. between 4 (omega arith) (omega arith) s)
      (λ s a b c e f g. absurd (c refl))
      (λ s a b c e f g. absurd (e refl))
      (λ s a b c e f g. absurd (f refl))
      (λ s a b c e f g. absurd (b refl))
      (λ s a b c e f g. absurd (g refl))
      (λ k h s a b c e f g. ap (rule_at d p (process_of r) q y) (last_place k (byte r 1) (byte r 2) (message_of (part r 28 9)) h))
      tag

  pub no-rule : (byte r 0 < 2) ⊎ (4 < byte r 0) → (byte r 0 ≡ 1 → ⊥) → (byte r 0 ≡ 8 → ⊥) → (byte r 0 ≡ 5 → ⊥) → (byte r 0 ≡ 6 → ⊥) → (byte r 0 ≡ 7 → ⊥) → (byte r 0 ≡ 9 → ⊥)
      → rule d p (process_of r) q y ≡ Neither
  no-rule s a b c e f g = rule-by d p q y r (byte r 0) refl ∙ left_alone (byte r 0) s a b c e f g

-- the words of places, by tags
module _ (i j : ℕ) (m : Message) where
  abbrev word : ℕ → State
  word tag = state_of (place_by tag i j m)

  pub passing : (tag : ℕ) → passes_by tag ≡ true → (word tag ≡ State.Running) ⊎ (word tag ≡ State.Sleeping)
  passing tag = by-tag (λ k. passes_by k ≡ true → (word k ≡ State.Running) ⊎ (word k ≡ State.Sleeping))
      (λ e. inl refl) (λ e. inl refl) (λ e. absurd (false≢true e)) (λ e. absurd (false≢true e)) (λ e. absurd (false≢true e)) (λ e. absurd (false≢true e)) (λ e. absurd (false≢true e)) (λ e. absurd (false≢true e))
      (λ e. inr refl) (λ e. absurd (false≢true e)) (λ k h e. inl (ap state_of (last_place k i j m h))) tag

-- rules 3 to 6, at A, by the tag of the partner's place
module _ (x : Process) (k i j : ℕ) (m : Message) (older : Bool) (tag : ℕ) where
  pub scan-passes : passes_by tag ≡ true → scan x k (state_of (place_by tag i j m)) older ≡ scan_from x (k + 1)
  scan-passes e = rw add-one (⊎_elim (λ f. rw f) (λ f. rw f) (passing i j m tag e))
