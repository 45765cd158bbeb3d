-- Whether a step changes anything, by the bytes of the records that its rule reads; and the set of the processes whose step does.
use Rattle.std.specs.Prelude.{Ok, Err}
use Rattle.std.specs.Int.{from_bool}
use Prim.Native.Nat.{ℕ, zero, suc, ◌+◌, ◌≤◌}
use mathlib.Core.Path.{◌≡◌, refl, ap, ◌∙◌}
use mathlib.Core.Bool.{Bool, true, false, not, ◌||◌, cond}
use mathlib.Core.List.{List}
use native.Mathlib.Omega.{arith}
use lib.Dec.{eqb, ltb, leb}
use borrow.Author.Tests.{le-leb, lt-leb, ne_eqb}
use Rattle.alternative.specs.declared.Message.{Message}
use Rattle.process.specs.declared.{State.State, Process.Process}
use Rattle.wire.specs.Reading.{byte, word_of, message_of}
use Rattle.alternative.specs.Guards.{kept_match}
use Rattle.process.specs.Process.{state_of, own_guard, posted_list}
use Rattle.process.specs.Rules.{scan_from, scan, hand_over, absorb, rule_at, rule, partner_of, changes}
use Rattle.process.proofs.Movers.{sleep-changes, try-changes}
use Rattle.rendezvous.specs.Table.{process}
use Rattle.rendezvous.specs.declared.{Refusal.Refusal, Answer.Answer, Reply.Reply}
use Rattle.rendezvous.specs.WellFormed.{well_formed}
use Rattle.rendezvous.specs.Calls.{effect_on}
use Rattle.rendezvous.specs.Movers.{runnable}
use Rattle.rendezvous.proofs.Sets.{Above, above-end, runnable-gives, runnable-refused}
use Rattle.records.specs.Layout.{part}
use Rattle.records.specs.Reading.{place_by, place_of, signal_by, signal_of, process_of}
use Rattle.records.specs.Private.{passes_by}
use Rattle.records.proofs.Tags.{by-tag, last_place}
use Rattle.records.proofs.Ruled.{rule-by}
use Rattle.inplace.specs.Layout.{record_start, record_bytes}
use Rattle.inplace.specs.Reading.{head_of, table_of}
use Rattle.inplace.specs.Private.{Ready}
use Rattle.inplace.proofs.Rows.{record-at, byte_of, row-part}
use Rattle.inplace.proofs.Ready.{below-most, partner-ready}

-- rules 3 to 6, at A, by the tag of the partner's place
scan-changes : (x : Process) (k i j : ℕ) (m : Message) (older : Bool) (tag : ℕ) → changes (scan x k (state_of (place_by tag i j m)) older) ≡ (passes_by tag || (eqb tag 9 || older))
unfolding scan_from
scan-changes x k i j m older tag = by-tag (λ n. changes (scan x k (state_of (place_by n i j m)) older) ≡ (passes_by n || (eqb n 9 || older)))
    refl refl (busy older) (busy older) (busy older) (busy older) (busy older) (busy older) refl refl last tag
  where
    busy : (b : Bool) → changes (scan x k State.Alt b) ≡ b
    busy true = refl
    busy false = refl

    last : (n : ℕ) → 10 ≤ n → changes (scan x k (state_of (place_by n i j m)) older) ≡ (passes_by n || (eqb n 9 || older))
    last n h = rw (last_place n i j m h, lt-leb n 1 (omega arith), ne_eqb n 8 (λ e. omega arith), le-leb 10 n h)

-- rules 13 and 14, at W, by the signal's tag
absorb-changes : (x : Process) (i : ℕ) (m : Message) (tag : ℕ) → changes (absorb x (signal_by tag i m)) ≡ not (eqb tag 0)
absorb-changes x i m zero = refl
absorb-changes x i m (suc k) = rw (ne_eqb (suc k) 0 (λ e. omega arith))

-- the rules of all other places
module _ (d p : ℕ) (x : Process) (q : ℕ) (y : Process) (i j : ℕ) (m : Message) where
  abbrev Else : ℕ → Type 0
  Else tag = (tag ≡ 2 → ⊥) → (tag ≡ 9 → ⊥) → changes (rule_at d p x q y (place_by tag i j m)) ≡ not (eqb tag 0 || leb 10 tag)

  else-changes : (tag : ℕ) → Else tag
  unfolding scan_from hand_over
  else-changes tag = by-tag Else
      (λ a b. refl) (λ a b. refl) (λ a b. absurd (a refl)) (λ a b. try-changes x i y y.accepting (kept_match p (own_guard x i) q (posted_list y))) (λ a b. refl) (λ a b. refl) (λ a b. refl) (λ a b. refl) (λ a b. sleep-changes x i (ltb (i + 1) d)) (λ a b. absurd (b refl))
      (λ n h a b. rw (last_place n i j m h, ne_eqb n 0 (λ e. omega arith), le-leb 10 n h)) tag

module _ (t : List ℕ) (p : ℕ) (ready : Ready t p) where
  abbrev r : List ℕ
  r = record_bytes t p

  abbrev q₀ : ℕ
  q₀ = partner_of (process (table_of t) p)

  -- what a step does is the rule of the record's tag
  effect-by : (tag : ℕ) → byte t (record_start p + 0) ≡ tag
      → effect_on (table_of t) p ≡ rule_at (table_of t).head.nap p (process_of r) q₀ (process (table_of t) q₀) (place_by tag (byte r 1) (byte r 2) (message_of (part r 28 9)))
  unfolding effect_on
  effect-by tag e =
      ap (λ (x : Process). rule (table_of t).head.nap p x q₀ (process (table_of t) q₀)) (record-at t p (below-most t p ready))
      ∙ rule-by (table_of t).head.nap p q₀ (process (table_of t) q₀) r tag (byte_of t p 0 (omega arith) ∙ e)

  -- at A it changes something where the partner q passes or waits, or its ticket is smaller
  pub scanning-moves : byte t (record_start p + 0) ≡ 2 → (q : ℕ) → q ≡ partner_of (process (table_of t) p)
      → changes (effect_on (table_of t) p) ≡ (passes_by (byte t (record_start q + 0)) || (eqb (byte t (record_start q + 0)) 9 || ltb (word_of (part t (record_start q + 24) 4)) (word_of (part t (record_start p + 24) 4))))
  unfolding process_of place_of
  scanning-moves e q f =
      let other = partner-ready t p ready (omega arith) (omega arith) q f in
      let s = record_bytes t q in
      let y : process (table_of t) q₀ ≡ process_of s = rw (← f) (record-at t q (below-most t q other)) in
      ap changes (effect-by 2 e)
      ∙ ap (λ (z : Process). changes (scan (process_of r) (byte r 1) (state_of z.place) (ltb z.transaction.0 (process_of r).transaction.0))) y
      ∙ scan-changes (process_of r) (byte r 1) (byte s 1) (byte s 2) (message_of (part s 28 9)) (ltb (word_of (part s 24 4)) (word_of (part r 24 4))) (byte s 0)
      ∙ rw (byte_of t q 0 (omega arith), row-part t q 24 4 ready.0 (below-most t q other) (omega arith), row-part t p 24 4 ready.0 (below-most t p ready) (omega arith))

  -- at W where there is a signal
  pub waiting-moves : byte t (record_start p + 0) ≡ 9 → changes (effect_on (table_of t) p) ≡ not (eqb (byte t (record_start p + 3)) 0)
  unfolding process_of signal_of
  waiting-moves e = ap changes (effect-by 9 e) ∙ absorb-changes (process_of r) (byte r 4) (message_of (part r 37 9)) (byte r 3) ∙ ap (λ (k : ℕ). not (eqb k 0)) (byte_of t p 3 (omega arith))

  -- elsewhere but at I and M
  pub else-moves : (byte t (record_start p + 0) ≡ 2 → ⊥) → (byte t (record_start p + 0) ≡ 9 → ⊥) → changes (effect_on (table_of t) p) ≡ not (eqb (byte t (record_start p + 0)) 0 || leb 10 (byte t (record_start p + 0)))
  else-moves a b =
      ap changes (effect-by (byte t (record_start p + 0)) refl)
      ∙ else-changes (table_of t).head.nap p (process_of r) q₀ (process (table_of t) q₀) (byte r 1) (byte r 2) (message_of (part r 28 9)) (byte t (record_start p + 0)) a b

-- the members of the set
abbrev pub mover : List ℕ → ℕ → Bool
mover t r = changes (effect_on (table_of t) r)

-- the bit of a member
pub bit-is : (b : Bool) → from_bool b ≡ cond b 1 0
bit-is true = refl
bit-is false = refl

-- the set, once it is put together
pub set_gives : (t : List ℕ) (p set : ℕ) → well_formed (table_of t) ≡ true → p ≡ 0 → Above (mover t) (byte t 0) p set → Ok (Answer.Runnable set) ≡ (runnable (table_of t)).answer
unfolding table_of head_of
set_gives t p set formed e a = ap (λ (r : Reply). r.answer) (runnable-gives (table_of t) set formed (above-end (mover t) (byte t 0) p set e a))

-- a table that is not well-formed has none
pub set-refused : (t : List ℕ) → well_formed (table_of t) ≡ false → Err Refusal.NotWellFormed ≡ (runnable (table_of t)).answer
set-refused t e = ap (λ (r : Reply). r.answer) (runnable-refused (table_of t) e)
