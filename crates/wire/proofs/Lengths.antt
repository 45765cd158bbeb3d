-- How long the parts of a table are.
use Rattle.std.specs.Prelude.{Option, Some, None}
use Prim.Native.Nat.{ℕ}
use mathlib.Core.Path.{◌≡◌, refl, ◌∙◌}
use mathlib.Core.List.{List}
use native.Mathlib.Omega.{arith}
use lib.ListN.{length, length-append}
use Rattle.rendezvous.specs.Table.{most_processes}
use Rattle.wire.specs.Types.{Message, Action, Guard, Place, Process, Head, ProcessTable}
use Rattle.wire.specs.Layout.{word_length, message_length, action_length, guard_length, guards_length, place_length, signal_length, record_length, records_length}
use Rattle.wire.specs.Layout.{head_length, table_length}
use Rattle.wire.specs.Writing.{word_bytes, long_bytes, message_bytes, action_bytes, guard_bytes, place_bytes, signal_bytes, each_bytes, guards_bytes, process_parts}
use Rattle.wire.specs.Writing.{process_bytes, head_bytes, bytes_of}
use Rattle.wire.specs.Claims.{ActionHeld, Each, GuardsHeld, ProcessHeld}
use Rattle.wire.proofs.Lists.{each-length}
use Rattle.wire.proofs.Parts.{total, total-is}

pub word-length : (x : ℕ) → length (word_bytes x) ≡ word_length
unfolding word_bytes
word-length x = refl

pub message-length : (m : Message) → length (message_bytes m) ≡ message_length
unfolding message_bytes word_bytes
message-length Message.Nothing = refl
message-length (Message.Whole z) = refl
message-length (Message.Reading x) = refl
message-length (Message.Limit low high) = refl

action-length : (a : Action) → length (action_bytes a) ≡ action_length
unfolding action_bytes
action-length Action.Receive = omega (arith, message-length Message.Nothing)
action-length (Action.Send m) = omega (arith, message-length m)

pub guard-length : (g : Guard) → length (guard_bytes g) ≡ guard_length
unfolding guard_bytes
guard-length g = omega (arith, action-length g.action)

pub place-length : (p : Place) → length (place_bytes p) ≡ place_length
unfolding place_bytes
place-length Place.Idle = omega (arith, message-length Message.Nothing)
place-length Place.Entering = omega (arith, message-length Message.Nothing)
place-length (Place.Scanning i) = omega (arith, message-length Message.Nothing)
place-length (Place.Trying i) = omega (arith, message-length Message.Nothing)
place-length (Place.Committed i kept) = omega (arith, message-length Message.Nothing)
place-length Place.Posting = omega (arith, message-length Message.Nothing)
place-length Place.Opening = omega (arith, message-length Message.Nothing)
place-length Place.Showing = omega (arith, message-length Message.Nothing)
place-length (Place.Asleep steps) = omega (arith, message-length Message.Nothing)
place-length Place.Waiting = omega (arith, message-length Message.Nothing)
place-length (Place.Met i m) = omega (arith, message-length m)

pub signal-length : (s : Option (ℕ × Message)) → length (signal_bytes s) ≡ signal_length
unfolding signal_bytes
signal-length None = omega (arith, message-length Message.Nothing)
signal-length (Some (i, m)) = omega (arith, message-length m)

pub guards-length : (gs : List Guard) → GuardsHeld gs → length (guards_bytes gs) ≡ guards_length
unfolding guards_bytes
guards-length gs h = rw h.slots at (each-length (λ (g : Guard). ActionHeld g.action) guard_bytes guard_length (λ g u. guard-length g) gs h.each)

-- a record's parts, where its lists are as long as they should be
pub parts-length : (x : Process) → length (guards_bytes x.guards) ≡ guards_length → length (guards_bytes x.altlist) ≡ guards_length → total (process_parts x) ≡ record_length
parts-length x own posted = rw (place-length x.place, signal-length x.signal, word-length x.transaction.0, own, posted)

pub process-length : (x : Process) → ProcessHeld x → length (process_bytes x) ≡ record_length
unfolding process_bytes
process-length x h = total-is (process_parts x) ∙ parts-length x (guards-length x.guards h.own) (guards-length x.altlist h.posted)

pub head-length : (h : Head) → length (head_bytes h) ≡ head_length
unfolding head_bytes word_bytes long_bytes
head-length h = refl

pub records-length : (ps : List Process) → length ps ≡ most_processes → Each ProcessHeld ps → length (each_bytes process_bytes ps) ≡ records_length
records-length ps n h = rw n at (each-length ProcessHeld process_bytes record_length process-length ps h)

pub table-length : (t : ProcessTable) → length (each_bytes process_bytes t.processes) ≡ records_length → length (bytes_of t) ≡ table_length
unfolding bytes_of
table-length t e = omega (arith, length-append (head_bytes t.head) (each_bytes process_bytes t.processes), head-length t.head)
