-- One slot of the own list, written: its guard is read back, and all else is as it was. And all of them, made blank.
use Prim.Native.Nat.{ℕ, ◌+◌, ◌*◌, ◌≤◌, ◌<◌}
use mathlib.Core.Path.{◌≡◌, refl, sym, ap, ◌∙◌}
use mathlib.Core.Bool.{Bool, true, false, not}
use mathlib.Core.List.{List, [], ◌∷◌, append-nil}
use native.Mathlib.Omega.{arith}
use borrow.Author.Rules.{rules}
use lib.ListN.{length, get_or, set, take, drop, replicate, length-take, length-drop, length-set, get_or-replicate}
use lib.Seq.{sets, drop-drop, ext_get_or, get_or-take, get_or-drop, get_or-set_same, get_or-set_other}
use lib.Dec.{eqb, leb}
use borrow.Author.Tests.{leb-true, leb-false}
use Rattle.alternative.specs.Guards.{blank, slots}
use Rattle.alternative.proofs.Slots.{slots-are}
use Rattle.wire.specs.Reading.{byte, message_of}
use Rattle.wire.specs.Writing.{flag, message_bytes}
use Rattle.wire.specs.Claims.{MessageHeld}
use Rattle.wire.proofs.Back.{flag-back}
use Rattle.wire.proofs.Back.{message-back}
use Rattle.wire.proofs.Lengths.{message-length}
use Rattle.records.specs.Types.{Message, Action, Guard}
use Rattle.records.specs.Layout.{part}
use Rattle.records.specs.Reading.{action_of, guard_of, guards_of, guards_at, place_of, signal_of, process_of}
use Rattle.records.specs.Private.{with_guards, with_guard}
use Rattle.records.proofs.Cuts.{Wrote, part-take, part-before, part-after, byte-before, byte-after, byte-there, wrote-sets}
use Rattle.records.proofs.Guards.{guards-length, guard-at}
use Rattle.records.proofs.Values.{values-set}

-- parts whose bytes are the same
part_same : (l l' : List ℕ) (a n : ℕ) → length l' ≡ length l → ((i : ℕ) → a ≤ i → i < a + n → byte l' i ≡ byte l i) → part l' a n ≡ part l a n
part_same l l' a n e h =
    ext_get_or 0 (part l' a n) (part l a n) (omega (arith, length-take n (drop a l'), length-drop a l', length-take n (drop a l), length-drop a l))
    (λ i b.
    let c : i < n = omega (arith, length-take n (drop a l')) in
    get_or-take n (drop a l') i 0 c ∙ get_or-drop a l' i 0 ∙ h (a + i) (omega arith) (omega arith) ∙ sym (get_or-take n (drop a l) i 0 c ∙ get_or-drop a l i 0))

-- own guard j by the bytes of its slot and its message
abbrev slot : List ℕ → ℕ → Guard
slot r j = record {
  enabled = not (eqb (byte r (48 + j)) 0);
  partner = byte r (8 + j);
  kind = byte r (64 + j);
  rank = byte r (72 + j);
  action = get_or (Action.Receive ∷ []) (byte r (56 + j)) (Action.Send (message_of (part r (80 + 9 * j) 9)));
}

-- that is how it is read
slot_read : (r : List ℕ) (j : ℕ) → 152 ≤ length r → j < 8 → guard_of (part r 8 8) (part r 48 104) j ≡ slot r j
unfolding guard_of action_of
slot_read r j l h =
    let at : (i n : ℕ) → i < 104 → 48 + i ≡ n → byte (part r 48 104) i ≡ byte r n = λ i n b e. get_or-take 104 (drop 48 r) i 0 b ∙ get_or-drop 48 r i 0 ∙ ap (byte r) e in
    let place : 48 + (32 + 9 * j) ≡ 80 + 9 * j = omega arith in
    let cut : part (part r 48 104) (32 + 9 * j) 9 ≡ part r (80 + 9 * j) 9 =
    sym (part-take (drop 48 r) 104 (32 + 9 * j) 9 (omega arith) (omega (arith, length-drop 48 r)))
    ∙ ap (take 9) (drop-drop (32 + 9 * j) 48 r) ∙ ap (λ (n : ℕ). part r n 9) place in
    rw (get_or-take 8 (drop 8 r) j 0 h, get_or-drop 8 r j 0, at j (48 + j) (omega arith) refl, at (8 + j) (56 + j) (omega arith) (omega arith), at (16 + j) (64 + j) (omega arith) (omega arith), at (24 + j) (72 + j) (omega arith) (omega arith), cut)

-- a guard with another action
abbrev made : Guard → Action → Guard
made g a = record { enabled = g.enabled; partner = g.partner; kind = g.kind; rank = g.rank; action = a }

-- byte i is none of slot k
abbrev pub Away : ℕ → ℕ → Type 0
Away k i = (i ≡ 8 + k → ⊥) × (i ≡ 48 + k → ⊥) × (i ≡ 56 + k → ⊥) × (i ≡ 64 + k → ⊥) × (i ≡ 72 + k → ⊥) × (80 + 9 * k ≤ i → i < 89 + 9 * k → ⊥)

-- l' is l with guard g in slot k
pub record Slotted (l l' : List ℕ) (k : ℕ) (g : Guard) : Type 0 where
  pub long : length l' ≡ length l
  pub away : (i : ℕ) → Away k i → byte l' i ≡ byte l i
  pub here : slot l' k ≡ g

module _ {l l' : List ℕ} {k : ℕ} {g : Guard} (room : 256 ≤ length l) (below : k < 8) (w : Slotted l l' k g) where
  -- a part away from the slot is as it was
  parts-away : (a n : ℕ) → ((i : ℕ) → a ≤ i → i < a + n → Away k i) → part l' a n ≡ part l a n
  parts-away a n h = part_same l l' a n w.long (λ i b c. w.away i (h i b c))

  -- and so is another slot
  slots-away : (j : ℕ) → j < 8 → (j ≡ k → ⊥) → slot l' j ≡ slot l j
  slots-away j h ne =
      let message : part l' (80 + 9 * j) 9 ≡ part l (80 + 9 * j) 9 = parts-away (80 + 9 * j) 9 (λ i a b. (λ e. omega arith, λ e. omega arith, λ e. omega arith, λ e. omega arith, λ e. omega arith, λ c d. ne (omega arith))) in
      let same : (a : ℕ) → Away k (a + j) → byte l' (a + j) ≡ byte l (a + j) = λ a. w.away (a + j) in
      rw (same 8 (search rules), same 48 (search rules), same 56 (search rules), same 64 (search rules), same 72 (search rules), message)

  -- the guards, and the whole record
  guards-slotted : guards_at l' 8 48 ≡ set (guards_at l 8 48) k g
  unfolding guards_of
  guards-slotted = values-set (guard_of (part l' 8 8) (part l' 48 104)) (guard_of (part l 8 8) (part l 48 104)) blank 8 k g below
      (slot_read l' k (omega (arith, w.long)) below ∙ w.here)
      (λ j h ne. slot_read l' j (omega (arith, w.long)) h ∙ slots-away j h ne ∙ sym (slot_read l j (omega arith) h))

  pub slotted-is : process_of l' ≡ with_guard (process_of l) k g
  unfolding process_of place_of signal_of
  slotted-is =
      let low : (i : ℕ) → i < 8 → byte l' i ≡ byte l i = λ i h. w.away i (search rules) in
      let mid : (a n : ℕ) → 16 ≤ a → a + n ≤ 48 → part l' a n ≡ part l a n = λ a n g h. parts-away a n (λ i b c. search rules) in
      let high : part l' 152 104 ≡ part l 152 104 = parts-away 152 104 (λ i b c. search rules) in
      rw (low 0 (omega arith), low 1 (omega arith), low 2 (omega arith), low 3 (omega arith), low 4 (omega arith), low 5 (omega arith), low 6 (omega arith), low 7 (omega arith))
      (rw (mid 16 8 (omega arith) (omega arith), mid 24 4 (omega arith) (omega arith), mid 28 9 (omega arith) (omega arith), mid 37 9 (omega arith) (omega arith), high, guards-slotted))

-- what the code clears: the eight partners, and all of the rest but the messages
module _ (r r₁ r₂ : List ℕ) (room : 256 ≤ length r₂) (w : Wrote r r₁ 8 8 (replicate 8 0)) (v : Wrote r₁ r₂ 48 32 (replicate 32 0)) where
  slot-clear : (j : ℕ) → j < 8 → slot r₂ j ≡ blank
  slot-clear j h =
      let partner : byte r₂ (8 + j) ≡ 0 = byte-before v (8 + j) (omega arith) ∙ byte-there w j h ∙ get_or-replicate 8 j 0 0 h in
      let zero-at : (i n : ℕ) → i < 32 → 48 + i ≡ n → byte r₂ n ≡ 0 = λ i n b e. ap (byte r₂) (sym e) ∙ byte-there v i b ∙ get_or-replicate 32 i 0 0 b in
      rw (partner, zero-at j (48 + j) (omega arith) refl, zero-at (8 + j) (56 + j) (omega arith) (omega arith), zero-at (16 + j) (64 + j) (omega arith) (omega arith), zero-at (24 + j) (72 + j) (omega arith) (omega arith))

  guards-clear : guards_at r₂ 8 48 ≡ slots []
  guards-clear = slots-are [] (guards_at r₂ 8 48) (guards-length r₂ 8 48) (λ j h. guard-at r₂ 8 48 j h ∙ slot_read r₂ j (omega arith) h ∙ slot-clear j h)

  pub cleared-is : process_of r₂ ≡ with_guards (process_of r) (slots [])
  unfolding process_of place_of signal_of
  cleared-is =
      let low : (i : ℕ) → i < 8 → byte r₂ i ≡ byte r i = λ i h. byte-before v i (omega arith) ∙ byte-before w i h in
      let mid : (a n : ℕ) → 16 ≤ a → a + n ≤ 48 → part r₂ a n ≡ part r a n = λ a n g h. part-before v a n h ∙ part-after w a n g in
      let high : part r₂ 152 104 ≡ part r 152 104 = part-after v 152 104 (omega arith) ∙ part-after w 152 104 (omega arith) in
      rw (low 0 (omega arith), low 1 (omega arith), low 2 (omega arith), low 3 (omega arith), low 4 (omega arith), low 5 (omega arith), low 6 (omega arith), low 7 (omega arith))
      (rw (mid 16 8 (omega arith) (omega arith), mid 24 4 (omega arith) (omega arith), mid 28 9 (omega arith) (omega arith), mid 37 9 (omega arith) (omega arith), high, guards-clear))

-- what the code writes into slot k before the message: the partner, whether it is enabled, the kind, the rank and whether it sends
module _ (r : List ℕ) (k : ℕ) (g : Guard) (flagged : ℕ) (room : 256 ≤ length r) (below : k < 8) (e : flagged ≡ flag g.enabled) where
  abbrev one : List ℕ
  one = set r (8 + k) g.partner

  abbrev two : List ℕ
  two = set one (48 + k) flagged

  abbrev three : List ℕ
  three = set two (64 + k) g.kind

  abbrev four : List ℕ
  four = set three (72 + k) g.rank

  abbrev pub five : ℕ → List ℕ
  five sends = set four (56 + k) sends

  five-length : (sends : ℕ) → length (five sends) ≡ length r
  five-length sends = simp length-set

  module _ (sends : ℕ) where
    -- the last two writes leave a byte that is not theirs
    past_three : (i : ℕ) → (i ≡ 56 + k → ⊥) → (i ≡ 72 + k → ⊥) → byte (five sends) i ≡ byte three i
    past_three i a b = get_or-set_other four (56 + k) i sends 0 a ∙ get_or-set_other three (72 + k) i g.rank 0 b

    -- all five leave what is away from the slot
    five-away : (i : ℕ) → Away k i → byte (five sends) i ≡ byte r i
    five-away i a =
        past_three i a.2 a.4 ∙ get_or-set_other two (64 + k) i g.kind 0 a.3
        ∙ get_or-set_other one (48 + k) i flagged 0 a.1 ∙ get_or-set_other r (8 + k) i g.partner 0 a.0

    -- each of the five bytes is there
    partner-there : byte (five sends) (8 + k) ≡ g.partner
    partner-there =
        past_three (8 + k) (λ i. omega arith) (λ i. omega arith) ∙ get_or-set_other two (64 + k) (8 + k) g.kind 0 (λ i. omega arith)
        ∙ get_or-set_other one (48 + k) (8 + k) flagged 0 (λ i. omega arith) ∙ get_or-set_same r (8 + k) g.partner 0 (omega arith)

    enabled-there : byte (five sends) (48 + k) ≡ flag g.enabled
    enabled-there =
        past_three (48 + k) (λ i. omega arith) (λ i. omega arith) ∙ get_or-set_other two (64 + k) (48 + k) g.kind 0 (λ i. omega arith)
        ∙ get_or-set_same one (48 + k) flagged 0 (simp length-set (omega arith)) ∙ e

    kind-there : byte (five sends) (64 + k) ≡ g.kind
    kind-there = past_three (64 + k) (λ i. omega arith) (λ i. omega arith) ∙ get_or-set_same two (64 + k) g.kind 0 (simp length-set (omega arith))

    rank-there : byte (five sends) (72 + k) ≡ g.rank
    rank-there = get_or-set_other four (56 + k) (72 + k) sends 0 (λ i. omega arith) ∙ get_or-set_same three (72 + k) g.rank 0 (simp length-set (omega arith))

    sends-there : byte (five sends) (56 + k) ≡ sends
    sends-there = get_or-set_same four (56 + k) sends 0 (simp length-set (omega arith))

  -- a guard that receives
  pub receiver-put : g.action ≡ Action.Receive → process_of (five 0) ≡ with_guard (process_of r) k g
  receiver-put a = slotted-is room below (record {
    long = five-length 0;
    away = five-away 0;
    here = rw (partner-there 0, enabled-there 0, kind-there 0, rank-there 0, sends-there 0, flag-back g.enabled) (ap (made g) (sym a));
  })

  -- a guard that sends a message, whose bytes are written behind those
  module _ (m : Message) (held : MessageHeld m) (vs : List ℕ) (spelt : vs ≡ message_bytes m) (l : List ℕ) (written : l ≡ sets (five 1) (80 + 9 * k) vs) where
    message-put : Wrote (five 1) l (80 + 9 * k) 9 vs
    message-put = wrote-sets (five 1) (80 + 9 * k) 9 vs l (ap length spelt ∙ message-length m) (omega (arith, five-length 1)) written

    -- what is away from the slot lies before the message or behind it
    sent-away : (i : ℕ) → Away k i → byte l i ≡ byte r i
    sent-away i a = go (leb (80 + 9 * k) i) (leb (89 + 9 * k) i) refl refl ∙ five-away 1 i a
      where
        go : (b c : Bool) → leb (80 + 9 * k) i ≡ b → leb (89 + 9 * k) i ≡ c → byte l i ≡ byte (five 1) i
        go false c p q = byte-before message-put i (leb-false (80 + 9 * k) i p)
        go true true p q = byte-after message-put i (omega (arith, leb-true (89 + 9 * k) i q))
        go true false p q = absurd (a.5 (leb-true (80 + 9 * k) i p) (leb-false (89 + 9 * k) i q))

    -- the message is read back
    message-there : message_of (part l (80 + 9 * k) 9) ≡ m
    message-there = ap message_of (message-put.there ∙ spelt ∙ sym (append-nil (message_bytes m))) ∙ message-back m held []

    pub sender-put : g.action ≡ Action.Send m → process_of l ≡ with_guard (process_of r) k g
    sender-put a = slotted-is room below (record {
      long = message-put.long ∙ five-length 1;
      away = sent-away;
      here =
          let same : (i : ℕ) → i < 80 → byte l i ≡ byte (five 1) i = λ i h. byte-before message-put i (omega arith) in
          rw (same (8 + k) (omega arith), same (48 + k) (omega arith), same (56 + k) (omega arith), same (64 + k) (omega arith), same (72 + k) (omega arith), message-there)
          (rw (partner-there 1, enabled-there 1, kind-there 1, rank-there 1, sends-there 1, flag-back g.enabled) (ap (made g) (sym a)));
    })
