-- What a table holds is read back from its bytes, whatever follows them.
use Rattle.std.specs.Prelude.{Option, Some, None}
use Prim.Native.Nat.{ℕ, ◌+◌, ◌*◌, ◌/◌, ◌%◌, ◌^◌, ◌<◌}
use mathlib.Core.Path.{◌≡◌, refl, sym, ap, subst, ◌∙◌}
use mathlib.Core.Bool.{Bool, true, false, not}
use mathlib.Core.List.{List, ◌++◌, flatten, append_assoc}
use native.Mathlib.Nat.{div-add-mod, div-div-eq-div-mul}
use native.Mathlib.Omega.{arith}
use lib.ListN.{drop, get_or}
use lib.Seq.{drop_at, get_or-drop}
use lib.Dec.{eqb}
use lib.Ieee.{Float, binary32, of_bits, to_bits}
use lib.Ieee.Bits.{of_bits-to_bits, to_bits-lt}
use mir.Syntax.{w32}
use mir.Val.{to_z, of_z}
use mir.Facts.{to_z-of_z, Fits-of_z}
use Rattle.wire.specs.Types.{Message, Action, Guard, Place, Process, Head}
use Rattle.wire.specs.Layout.{guard_length, signal_at, ticket_at, accepting_at, guards_at, altlist_at, record_length, next_at, meetings_at, withdrawn_at, head_length}
use Rattle.wire.specs.Reading.{word_of, long_of, message_of, action_of, guard_of, place_of, signal_of, guards_of, process_of, head_of, table_of}
use Rattle.wire.specs.Writing.{flag, word_bytes, long_bytes, message_bytes, action_bytes, guard_bytes, place_bytes, signal_bytes, each_bytes, guards_bytes, process_parts}
use Rattle.wire.specs.Writing.{process_bytes, head_bytes, bytes_of}
use Rattle.wire.specs.Claims.{Single, MessageHeld, ActionHeld, SignalHeld, PlaceHeld, GuardsHeld, ProcessHeld, HeadHeld, ReadsBack}
use Rattle.wire.proofs.Lengths.{word-length, guard-length, place-length, signal-length, guards-length, process-length, head-length, records-length}
use Rattle.wire.proofs.Lengths.{table-length}
use Rattle.wire.proofs.Lists.{each_back}
use Rattle.wire.proofs.Parts.{followed, from-part}

pub flag-back : (b : Bool) → not (eqb (flag b) 0) ≡ b
flag-back true = refl
flag-back false = refl

-- a number from its four bytes: y, z and w are what is left above each
digits : (x y z w a b c : ℕ) → 256 * y + a ≡ x → 256 * z + b ≡ y → 256 * w + c ≡ z → a + 256 * b + 65536 * c + 16777216 * w ≡ x
digits x y z w a b c e f g = omega arith

top_byte : (x : ℕ) → x < 2 ^ 32 → x / 16777216 % 256 ≡ x / 16777216
top_byte x h = omega arith

pub word_back : (x : ℕ) → x < 2 ^ 32 → (rest : List ℕ) → word_of (word_bytes x ++ rest) ≡ x
unfolding word_of word_bytes
word_back x h rest =
    rw (top_byte x h)
    (digits x (x / 256) (x / 65536) (x / 16777216) (x % 256) (x / 256 % 256) (x / 65536 % 256)
    (div-add-mod x 256)
    (subst (λ (z : ℕ). 256 * z + x / 256 % 256 ≡ x / 256) (div-div-eq-div-mul x 256 256) (div-add-mod (x / 256) 256))
    (subst (λ (w : ℕ). 256 * w + x / 65536 % 256 ≡ x / 65536) (div-div-eq-div-mul x 65536 256) (div-add-mod (x / 65536) 256)))

pub long-back : (x : ℕ) → x < 2 ^ 64 → (rest : List ℕ) → long_of (long_bytes x ++ rest) ≡ x
unfolding long_of long_bytes word_bytes
long-back x h rest =
    let low = x % 2 ^ 32 in
    let high = x / 2 ^ 32 in
    rw (word_back low (omega arith) (word_bytes high ++ rest), word_back high (omega arith) rest) (omega arith)

-- the word of an f32
float_back : (x : Float) → Single x → (rest : List ℕ) → of_bits binary32 (word_of (word_bytes (to_bits binary32 x) ++ rest)) ≡ x
float_back x h rest = ap (of_bits binary32) (word_back (to_bits binary32 x) (to_bits-lt binary32 x h) rest) ∙ of_bits-to_bits binary32 x h

pub message-back : (m : Message) → MessageHeld m → (rest : List ℕ) → message_of (message_bytes m ++ rest) ≡ m
unfolding message_of message_bytes word_bytes
message-back Message.Nothing h rest = refl
message-back (Message.Whole z) h rest = ap (λ (w : ℕ). Message.Whole (to_z w32 w)) (word_back (of_z w32 z) (Fits-of_z h).fits (word_bytes 0 ++ rest)) ∙ ap Message.Whole (to_z-of_z h)
message-back (Message.Reading x) h rest = ap Message.Reading (float_back x h (word_bytes 0 ++ rest))
message-back (Message.Limit low high) h rest =
    ap (λ (a : Float). Message.Limit a (of_bits binary32 (word_of (word_bytes (to_bits binary32 high) ++ rest)))) (float_back low h.0 (word_bytes (to_bits binary32 high) ++ rest))
    ∙ ap (Message.Limit low) (float_back high h.1 rest)

action-back : (a : Action) → ActionHeld a → (rest : List ℕ) → action_of (action_bytes a ++ rest) ≡ a
unfolding action_of action_bytes
action-back Action.Receive h rest = refl
action-back (Action.Send m) h rest = ap Action.Send (message-back m h rest)

guard-back : (g : Guard) → ActionHeld g.action → (rest : List ℕ) → guard_of (guard_bytes g ++ rest) ≡ g
unfolding guard_of guard_bytes
guard-back g h rest = rw (flag-back g.enabled, action-back g.action h rest)

place-back : (p : Place) → PlaceHeld p → (rest : List ℕ) → place_of (place_bytes p ++ rest) ≡ p
unfolding place_of place_bytes
place-back Place.Idle h rest = refl
place-back Place.Entering h rest = refl
place-back (Place.Scanning i) h rest = refl
place-back (Place.Trying i) h rest = refl
place-back (Place.Committed i kept) h rest = refl
place-back Place.Posting h rest = refl
place-back Place.Opening h rest = refl
place-back Place.Showing h rest = refl
place-back (Place.Asleep steps) h rest = refl
place-back Place.Waiting h rest = refl
place-back (Place.Met i m) h rest = ap (Place.Met i) (message-back m h rest)

signal-back : (s : Option (ℕ × Message)) → SignalHeld s → (rest : List ℕ) → signal_of (signal_bytes s ++ rest) ≡ s
unfolding signal_of signal_bytes
signal-back None h rest = refl
signal-back (Some (i, m)) h rest = ap (λ m. Some (i, m)) (message-back m h rest)

guards-back : (gs : List Guard) → GuardsHeld gs → (rest : List ℕ) → guards_of (guards_bytes gs ++ rest) ≡ gs
unfolding guards_of guards_bytes
guards-back gs h rest =
    rw h.slots at (each_back (λ (g : Guard). ActionHeld g.action) guard_bytes guard_length (λ g u. guard-length g) guard_of guard-back gs rest h.each)

process-back : (x : Process) → ProcessHeld x → (rest : List ℕ) → process_of (process_bytes x ++ rest) ≡ x
unfolding process_of process_bytes
process-back x h rest =
    let parts = process_parts x in
    let from = from-part parts in
    let place = place-length x.place in
    let signal = signal-length x.signal in
    let ticket = word-length x.transaction.0 in
    let at-accepting = from 3 accepting_at rest (rw (place, signal, ticket)) in
    let byte_of : (i : ℕ) → get_or (flatten parts ++ rest) (accepting_at + i) 0 ≡ get_or (followed (drop 3 parts) rest) i 0 = λ i. sym (get_or-drop accepting_at (flatten parts ++ rest) i 0) ∙ ap (λ (l : List ℕ). get_or l i 0) at-accepting in
    rw (
      from 1 signal_at rest (rw place),
      signal-back x.signal h.signal,
      from 2 ticket_at rest (rw (place, signal)),
      word_back x.transaction.0 h.ticket,
      byte_of 0,
      flag-back x.accepting,
      byte_of 1,
      byte_of 2,
      from 4 guards_at rest (rw (place, signal, ticket)),
      guards-back x.guards h.own,
      from 5 altlist_at rest (rw (place, signal, ticket, guards-length x.guards h.own)),
      guards-back x.altlist h.posted,
      from 0 0 rest refl,
      place-back x.place h.place,
    )

head-back : (h : Head) → HeadHeld h → (rest : List ℕ) → head_of (head_bytes h ++ rest) ≡ h
unfolding head_of head_bytes word_bytes long_bytes
head-back h fits rest =
    let bytes = head_bytes h ++ rest in
    let next : word_of (drop next_at bytes) ≡ h.next.0 = word_back h.next.0 fits.next (long_bytes h.meetings ++ long_bytes h.withdrawn ++ rest) in
    let meetings : long_of (drop meetings_at bytes) ≡ h.meetings = long-back h.meetings fits.meetings (long_bytes h.withdrawn ++ rest) in
    let withdrawn : long_of (drop withdrawn_at bytes) ≡ h.withdrawn = long-back h.withdrawn fits.withdrawn rest in
    rw (next, meetings, withdrawn)

pub table-back : ReadsBack
unfolding table_of bytes_of
table-back t h =
    let head = head_bytes t.head in
    let records = each_bytes process_bytes t.processes in
    record {
      long = table-length t (records-length t.processes h.records h.each);
      read_back = λ rest.
          let back = rw h.records at (each_back ProcessHeld process_bytes record_length process-length process_of process-back t.processes rest h.each) in
          rw (append_assoc head records rest, head-back t.head h.head, drop_at head (records ++ rest) head_length (head-length t.head), back);
    }
