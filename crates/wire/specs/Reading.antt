-- To be believed. The bytes of a table, read: any bytes are a table. Too few are read as if zeros followed, and what follows a whole table is passed over. A tag past the
-- last variant's is read as the last variant, and any byte but 0 as true.
use Rattle.std.specs.Prelude.{◌+◌, ◌*◌, ◌/◌, ◌^◌, ◌∷◌, Option, Some, None}
use Rattle.alternative.specs.Guards.{most_guards}
use Rattle.rendezvous.specs.Table.{most_processes}
use Rattle.wire.specs.Layout.{first_at, second_at, sent_at, action_at, outcome_at, signalled_at, guard_length, word_length, next_at, meetings_at, withdrawn_at, head_length, record_length}
use Rattle.wire.specs.Layout.{signal_at, ticket_at, accepting_at, count_at, altcount_at, guards_at, altlist_at}
use Rattle.wire.specs.Types.{ℕ, zero, suc, not, List, [], length, get_or, drop, eqb, binary32, of_bits, w32, to_z, Message, Action}
use Rattle.wire.specs.Types.{Guard, Place, Process, Head, ProcessTable}

abbrev pub byte : List ℕ → ℕ → ℕ
byte bytes k = get_or bytes k 0

-- the lowest byte first
unfoldable pub word_of : List ℕ → ℕ
word_of bytes = byte bytes 0 + 256 * byte bytes 1 + 65536 * byte bytes 2 + 16777216 * byte bytes 3

-- a number of 64 bits, the low word first
unfoldable pub long_of : List ℕ → ℕ
long_of bytes = word_of bytes + 2 ^ 32 * word_of (drop word_length bytes)

-- A whole number stands in the first word in two's complement, a reading by its bits; a limit has low in the first and high in the second.
unfoldable pub message_of : List ℕ → Message
message_of bytes =
    let first = word_of (drop first_at bytes) in
    let second = word_of (drop second_at bytes) in
    get_or (Message.Nothing ∷ Message.Whole (to_z w32 first) ∷ Message.Reading (of_bits binary32 first) ∷ []) (byte bytes 0) (Message.Limit (of_bits binary32 first) (of_bits binary32 second))

unfoldable pub action_of : List ℕ → Action
action_of bytes = get_or (Action.Receive ∷ []) (byte bytes 0) (Action.Send (message_of (drop sent_at bytes)))

unfoldable pub guard_of : List ℕ → Guard
guard_of bytes = record { enabled = not (eqb (byte bytes 0) 0); partner = byte bytes 1; kind = byte bytes 2; rank = byte bytes 3; action = action_of (drop action_at bytes) }

unfoldable pub place_of : List ℕ → Place
place_of bytes =
    let i = byte bytes 1 in
    get_or (Place.Idle ∷ Place.Entering ∷ Place.Scanning i ∷ Place.Trying i ∷ Place.Committed i (byte bytes 2) ∷ Place.Posting ∷ Place.Opening ∷ Place.Showing ∷ Place.Asleep i ∷ Place.Waiting ∷ []) (byte bytes 0) (Place.Met i (message_of (drop outcome_at bytes)))

unfoldable pub signal_of : List ℕ → Option (ℕ × Message)
signal_of bytes = get_or (None ∷ []) (byte bytes 0) (Some ((byte bytes 1), (message_of (drop signalled_at bytes))))

-- values that stand one after another, each `size` bytes long
unfoldable pub each_of : {A : Type 0} → (List ℕ → A) → ℕ → ℕ → List ℕ → List A
each_of read size zero bytes = []
each_of read size (suc count) bytes = read bytes ∷ each_of read size count (drop size bytes)

unfoldable pub guards_of : List ℕ → List Guard
guards_of bytes = each_of guard_of guard_length most_guards bytes

-- the guards of an offer, as many as there are bytes for
unfoldable pub offer_of : List ℕ → List Guard
offer_of bytes = each_of guard_of guard_length (length bytes / guard_length) bytes

unfoldable pub process_of : List ℕ → Process
process_of bytes = record {
  place = place_of bytes;
  signal = signal_of (drop signal_at bytes);
  transaction = record { 0 = word_of (drop ticket_at bytes) };
  accepting = not (eqb (byte bytes accepting_at) 0);
  count = byte bytes count_at;
  altcount = byte bytes altcount_at;
  guards = guards_of (drop guards_at bytes);
  altlist = guards_of (drop altlist_at bytes);
}

unfoldable pub head_of : List ℕ → Head
head_of bytes = record {
  n = byte bytes 0;
  nap = byte bytes 1;
  next = record { 0 = word_of (drop next_at bytes) };
  meetings = long_of (drop meetings_at bytes);
  withdrawn = long_of (drop withdrawn_at bytes);
}

unfoldable pub table_of : List ℕ → ProcessTable
table_of bytes = record { head = head_of bytes; processes = each_of process_of record_length most_processes (drop head_length bytes) }
