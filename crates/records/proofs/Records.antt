-- A record whose bytes are written.
use Rattle.std.specs.Prelude.{Some, None}
use Prim.Native.Nat.{ℕ, ◌+◌, ◌*◌, ◌≤◌, ◌<◌}
use mathlib.Core.Path.{◌≡◌, refl, sym, ap, ◌∙◌}
use mathlib.Core.Bool.{true, false, not}
use mathlib.Core.List.{List, [], ◌∷◌}
use native.Mathlib.Omega.{arith}
use lib.ListN.{length, get_or, set, take, drop}
use lib.Seq.{get_or-take, get_or-drop, drop-drop}
use lib.ListN.{length-drop, get_or-eq_default}
use Rattle.alternative.specs.Exchange.{sent_by, received_by}
use lib.Dec.{eqb}
use Rattle.records.specs.Types.{Message, Action, Place}
use Rattle.wire.specs.Reading.{byte, word_of, message_of}
use Rattle.rendezvous.specs.Calls.{given_up}
use Rattle.process.specs.Rules.{at_place, with_signal, with_accepting, with_own_posted}
use Rattle.records.specs.Layout.{part}
use Rattle.records.specs.Reading.{action_of, place_of, signal_of, guards_at, process_of}
use Rattle.records.proofs.Cuts.{Wrote, part-take, part-before, part-after, byte-before}

-- the first eight bytes spelt out: what writes them computes
pub heads : (P : List ℕ → Type 0) → ((a b c d e f g h : ℕ) (rest : List ℕ) → P (a ∷ b ∷ c ∷ d ∷ e ∷ f ∷ g ∷ h ∷ rest)) → (r : List ℕ) → 8 ≤ length r → P r
heads P k (a ∷ b ∷ c ∷ d ∷ e ∷ f ∷ g ∷ h ∷ rest) l = k a b c d e f g h rest
heads P k [] l = absurd (omega arith)
heads P k (a ∷ []) l = absurd (omega arith)
heads P k (a ∷ b ∷ []) l = absurd (omega arith)
heads P k (a ∷ b ∷ c ∷ []) l = absurd (omega arith)
heads P k (a ∷ b ∷ c ∷ d ∷ []) l = absurd (omega arith)
heads P k (a ∷ b ∷ c ∷ d ∷ e ∷ []) l = absurd (omega arith)
heads P k (a ∷ b ∷ c ∷ d ∷ e ∷ f ∷ []) l = absurd (omega arith)
heads P k (a ∷ b ∷ c ∷ d ∷ e ∷ f ∷ g ∷ []) l = absurd (omega arith)

-- what a place's tag and index alone say
pub idle_is : (r : List ℕ) → 8 ≤ length r → process_of (set r 0 0) ≡ at_place (process_of r) Place.Idle
unfolding process_of place_of signal_of
idle_is = heads (λ r. process_of (set r 0 0) ≡ at_place (process_of r) Place.Idle) (λ a b c d e f g h rest. refl)

pub scanning_is : (i : ℕ) → (r : List ℕ) → 8 ≤ length r → process_of (set (set r 0 2) 1 i) ≡ at_place (process_of r) (Place.Scanning i)
unfolding process_of place_of signal_of
scanning_is i = heads (λ r. process_of (set (set r 0 2) 1 i) ≡ at_place (process_of r) (Place.Scanning i)) (λ a b c d e f g h rest. refl)

pub posting_is : (r : List ℕ) → 8 ≤ length r → process_of (set r 0 5) ≡ at_place (process_of r) Place.Posting
unfolding process_of place_of signal_of
posting_is = heads (λ r. process_of (set r 0 5) ≡ at_place (process_of r) Place.Posting) (λ a b c d e f g h rest. refl)

pub asleep_is : (s : ℕ) → (r : List ℕ) → 8 ≤ length r → process_of (set (set r 0 8) 1 s) ≡ at_place (process_of r) (Place.Asleep s)
unfolding process_of place_of signal_of
asleep_is s = heads (λ r. process_of (set (set r 0 8) 1 s) ≡ at_place (process_of r) (Place.Asleep s)) (λ a b c d e f g h rest. refl)

pub waiting_is : (r : List ℕ) → 8 ≤ length r → process_of (set r 0 9) ≡ at_place (process_of r) Place.Waiting
unfolding process_of place_of signal_of
waiting_is = heads (λ r. process_of (set r 0 9) ≡ at_place (process_of r) Place.Waiting) (λ a b c d e f g h rest. refl)

pub trying_is : (r : List ℕ) → 8 ≤ length r → process_of (set r 0 3) ≡ at_place (process_of r) (Place.Trying (byte r 1))
unfolding process_of place_of signal_of
trying_is = heads (λ r. process_of (set r 0 3) ≡ at_place (process_of r) (Place.Trying (byte r 1))) (λ a b c d e f g h rest. refl)

-- rule 11
pub showing_is : (r : List ℕ) → 8 ≤ length r → process_of (set (set r 7 1) 0 7) ≡ at_place (with_accepting (process_of r) true) Place.Showing
unfolding process_of place_of signal_of
showing_is = heads (λ r. process_of (set (set r 7 1) 0 7) ≡ at_place (with_accepting (process_of r) true) Place.Showing) (λ a b c d e f g h rest. refl)

-- rule 7, both records
pub committed_is : (j : ℕ) → (r : List ℕ) → 8 ≤ length r → process_of (set (set r 0 4) 2 j) ≡ at_place (process_of r) (Place.Committed (byte r 1) j)
unfolding process_of place_of signal_of
committed_is j = heads (λ r. process_of (set (set r 0 4) 2 j) ≡ at_place (process_of r) (Place.Committed (byte r 1) j)) (λ a b c d e f g h rest. refl)

pub closed_is : (r : List ℕ) → 8 ≤ length r → process_of (set r 7 0) ≡ with_accepting (process_of r) false
unfolding process_of place_of signal_of
closed_is = heads (λ r. process_of (set r 7 0) ≡ with_accepting (process_of r) false) (λ a b c d e f g h rest. refl)

-- a withdrawal
pub given_up_is : (r : List ℕ) → 8 ≤ length r → process_of (set (set r 7 0) 0 0) ≡ given_up (process_of r)
unfolding process_of place_of signal_of
given_up_is = heads (λ r. process_of (set (set r 7 0) 0 0) ≡ given_up (process_of r)) (λ a b c d e f g h rest. refl)

-- rule 10: the head after both lists are copied
counted_is : (r : List ℕ) → 8 ≤ length r → process_of (set (set r 6 (byte r 5)) 0 6)
    ≡ record { place = Place.Opening; signal = signal_of r; transaction = record { 0 = word_of (part r 24 4) }; accepting = not (eqb (byte r 7) 0); count = byte r 5; altcount = byte r 5; guards = guards_at r 8 48; altlist = guards_at r 16 152 }
unfolding process_of place_of signal_of
counted_is = heads (λ r. process_of (set (set r 6 (byte r 5)) 0 6)
    ≡ record { place = Place.Opening; signal = signal_of r; transaction = record { 0 = word_of (part r 24 4) }; accepting = not (eqb (byte r 7) 0); count = byte r 5; altcount = byte r 5; guards = guards_at r 8 48; altlist = guards_at r 16 152 }) (λ a b c d e f g h rest. refl)

pub posted-is : (r r₁ r₂ : List ℕ) → 8 ≤ length r₂ → Wrote r r₁ 16 8 (part r 8 8) → Wrote r₁ r₂ 152 104 (part r₁ 48 104)
    → process_of (set (set r₂ 6 (byte r₂ 5)) 0 6) ≡ at_place (with_own_posted (process_of r)) Place.Opening
unfolding process_of signal_of
posted-is r r₁ r₂ l w v =
    let byte-is : (k : ℕ) → k < 16 → byte r₂ k ≡ byte r k = λ k h. byte-before v k (omega arith) ∙ byte-before w k h in
    let own : part r₂ 8 8 ≡ part r 8 8 = part-before v 8 8 (omega arith) ∙ part-before w 8 8 (omega arith) in
    let posted : part r₂ 16 8 ≡ part r 8 8 = part-before v 16 8 (omega arith) ∙ w.there in
    let ticket : part r₂ 24 4 ≡ part r 24 4 = part-before v 24 4 (omega arith) ∙ part-after w 24 4 (omega arith) in
    let message : part r₂ 37 9 ≡ part r 37 9 = part-before v 37 9 (omega arith) ∙ part-after w 37 9 (omega arith) in
    let rest : part r₂ 48 104 ≡ part r 48 104 = part-before v 48 104 (omega arith) ∙ part-after w 48 104 (omega arith) in
    let copied : part r₂ 152 104 ≡ part r 48 104 = v.there ∙ part-after w 48 104 (omega arith) in
    counted_is r₂ l ∙ rw (byte-is 3 (omega arith), byte-is 4 (omega arith), byte-is 5 (omega arith), byte-is 7 (omega arith), own, posted, ticket, message, rest, copied)

-- rule 13: the head after the message is copied
taken_is : (r : List ℕ) → 8 ≤ length r → process_of (set (set (set r 1 (byte r 4)) 3 0) 0 10)
    ≡ record { place = Place.Met (byte r 4) (message_of (part r 28 9)); signal = None; transaction = record { 0 = word_of (part r 24 4) }; accepting = not (eqb (byte r 7) 0); count = byte r 5; altcount = byte r 6; guards = guards_at r 8 48; altlist = guards_at r 16 152 }
unfolding process_of place_of signal_of
taken_is = heads (λ r. process_of (set (set (set r 1 (byte r 4)) 3 0) 0 10)
    ≡ record { place = Place.Met (byte r 4) (message_of (part r 28 9)); signal = None; transaction = record { 0 = word_of (part r 24 4) }; accepting = not (eqb (byte r 7) 0); count = byte r 5; altcount = byte r 6; guards = guards_at r 8 48; altlist = guards_at r 16 152 }) (λ a b c d e f g h rest. refl)

pub absorbed-is : (r r₁ : List ℕ) → 8 ≤ length r₁ → Wrote r r₁ 28 9 (part r 37 9)
    → process_of (set (set (set r₁ 1 (byte r₁ 4)) 3 0) 0 10) ≡ at_place (with_signal (process_of r) None) (Place.Met (byte r 4) (message_of (part r 37 9)))
unfolding process_of
absorbed-is r r₁ l w =
    taken_is r₁ l ∙ rw (byte-before w 4 (omega arith), byte-before w 5 (omega arith), byte-before w 6 (omega arith), byte-before w 7 (omega arith), part-before w 8 8 (omega arith), part-before w 16 8 (omega arith), part-before w 24 4 (omega arith), w.there, part-after w 48 104 (omega arith), part-after w 152 104 (omega arith))

-- rule 9
met-head : (r : List ℕ) → 8 ≤ length r → process_of (set r 0 10) ≡ at_place (process_of r) (Place.Met (byte r 1) (message_of (part r 28 9)))
unfolding process_of place_of signal_of
met-head = heads (λ r. process_of (set r 0 10) ≡ at_place (process_of r) (Place.Met (byte r 1) (message_of (part r 28 9)))) (λ a b c d e f g h rest. refl)

-- the outcome's bytes are read at M alone: a record that differs in them is the same at another place
module _ (r r₁ m : List ℕ) (long : 8 ≤ length r₁) where
  pub met-is : Wrote r r₁ 28 9 m → process_of (set r₁ 0 10) ≡ at_place (process_of r) (Place.Met (byte r 1) (message_of m))
  unfolding process_of signal_of
  met-is w =
      met-head r₁ long
      ∙ rw (byte-before w 1 (omega arith), byte-before w 3 (omega arith), byte-before w 4 (omega arith), byte-before w 5 (omega arith), byte-before w 6 (omega arith), byte-before w 7 (omega arith), part-before w 8 8 (omega arith), part-before w 16 8 (omega arith), part-before w 24 4 (omega arith), w.there, part-after w 37 9 (omega arith), part-after w 48 104 (omega arith), part-after w 152 104 (omega arith))

signal-head : (j : ℕ) (r : List ℕ) → 8 ≤ length r → process_of (set (set r 3 1) 4 j) ≡ with_signal (process_of r) (Some (j, message_of (part r 37 9)))
unfolding process_of place_of signal_of
signal-head j = heads (λ r. process_of (set (set r 3 1) 4 j) ≡ with_signal (process_of r) (Some (j, message_of (part r 37 9)))) (λ a b c d e f g h rest. refl)

module _ (r r₁ m : List ℕ) (long : 8 ≤ length r₁) where
  pub signalled-is : (j : ℕ) → Wrote r r₁ 37 9 m → process_of (set (set r₁ 3 1) 4 j) ≡ with_signal (process_of r) (Some (j, message_of m))
  unfolding process_of place_of
  signalled-is j w =
      signal-head j r₁ long
      ∙ rw (byte-before w 0 (omega arith), byte-before w 1 (omega arith), byte-before w 2 (omega arith), byte-before w 5 (omega arith), byte-before w 6 (omega arith), byte-before w 7 (omega arith), part-before w 8 8 (omega arith), part-before w 16 8 (omega arith), part-before w 24 4 (omega arith), part-before w 28 9 (omega arith), w.there, part-after w 48 104 (omega arith), part-after w 152 104 (omega arith))

-- what a guard sends
module _ (r : List ℕ) (at k : ℕ) (room : at + 104 ≤ length r) (below : k < 8) where
  tag_is : byte (part r at 104) (8 + k) ≡ byte r (at + 8 + k)
  tag_is = get_or-take 104 (drop at r) (8 + k) 0 (omega arith) ∙ get_or-drop at r (8 + k) 0 ∙ ap (byte r) (omega arith)

  pub receives-nothing : byte r (at + 8 + k) ≡ 0 → sent_by (action_of (part r at 104) k) ≡ Message.Nothing
  unfolding action_of
  receives-nothing e = ap (λ (n : ℕ). sent_by (get_or (Action.Receive ∷ []) n (Action.Send (message_of (part (part r at 104) (32 + 9 * k) 9))))) (tag_is ∙ e)

  pub sends-nine : (byte r (at + 8 + k) ≡ 0 → ⊥) → message_of (part r (at + 32 + 9 * k) 9) ≡ sent_by (action_of (part r at 104) k)
  unfolding action_of
  sends-nine e =
      let tag : 1 ≤ byte (part r at 104) (8 + k) = omega (arith, tag_is) in
      let place : at + 32 + 9 * k ≡ at + (32 + 9 * k) = omega arith in
      let cut : part r (at + 32 + 9 * k) 9 ≡ part (part r at 104) (32 + 9 * k) 9 = ap (λ (n : ℕ). part r n 9) place ∙ ap (take 9) (sym (drop-drop (32 + 9 * k) at r)) ∙ part-take (drop at r) 104 (32 + 9 * k) 9 (omega arith) (omega (arith, length-drop at r)) in
      ap message_of cut
      ∙ sym (ap sent_by (get_or-eq_default (Action.Receive ∷ []) (Action.Send (message_of (part (part r at 104) (32 + 9 * k) 9))) tag))

  pub receives : byte r (at + 8 + k) ≡ 0 → (other : Action) → received_by (action_of (part r at 104) k) other ≡ sent_by other
  unfolding action_of
  receives e other = ap (λ (n : ℕ). received_by (get_or (Action.Receive ∷ []) n (Action.Send (message_of (part (part r at 104) (32 + 9 * k) 9)))) other) (tag_is ∙ e)

  pub sends : (byte r (at + 8 + k) ≡ 0 → ⊥) → (other : Action) → received_by (action_of (part r at 104) k) other ≡ Message.Nothing
  unfolding action_of
  sends e other =
      let tag : 1 ≤ byte (part r at 104) (8 + k) = omega (arith, tag_is) in
      ap (λ (x : Action). received_by x other) (get_or-eq_default (Action.Receive ∷ []) (Action.Send (message_of (part (part r at 104) (32 + 9 * k) 9))) tag)
