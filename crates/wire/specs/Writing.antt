-- To be believed. The bytes of a table, written, in the order in which Reading reads them.
use Rattle.std.specs.Prelude.{◌/◌, ◌%◌, ◌^◌, ◌∷◌, ◌++◌, Option, Some, None}
use Rattle.wire.specs.Types.{ℕ, Bool, cond, List, [], flatten, length, drop, leb, binary32, to_bits, w32, of_z, Message, Action}
use Rattle.wire.specs.Types.{Guard, Place, Process, Head, ProcessTable}

abbrev pub flag : Bool → ℕ
flag b = cond b 1 0

-- the lowest byte first
unfoldable pub word_bytes : ℕ → List ℕ
word_bytes x = x % 256 ∷ x / 256 % 256 ∷ x / 65536 % 256 ∷ x / 16777216 % 256 ∷ []

-- a number of 64 bits, the low word first
unfoldable pub long_bytes : ℕ → List ℕ
long_bytes x = word_bytes (x % 2 ^ 32) ++ word_bytes (x / 2 ^ 32)

-- the variant and two words, 0 where a message has none
unfoldable pub message_bytes : Message → List ℕ
message_bytes Message.Nothing = 0 ∷ word_bytes 0 ++ word_bytes 0
message_bytes (Message.Whole z) = 1 ∷ word_bytes (of_z w32 z) ++ word_bytes 0
message_bytes (Message.Reading x) = 2 ∷ word_bytes (to_bits binary32 x) ++ word_bytes 0
message_bytes (Message.Limit low high) = 3 ∷ word_bytes (to_bits binary32 low) ++ word_bytes (to_bits binary32 high)

unfoldable pub action_bytes : Action → List ℕ
action_bytes Action.Receive = 0 ∷ message_bytes Message.Nothing
action_bytes (Action.Send m) = 1 ∷ message_bytes m

unfoldable pub guard_bytes : Guard → List ℕ
guard_bytes g = flag g.enabled ∷ g.partner ∷ g.kind ∷ g.rank ∷ action_bytes g.action

-- the variant, the index or, at S, the steps, the kept index and the message, 0 or nothing where a place has none
unfoldable pub place_bytes : Place → List ℕ
place_bytes Place.Idle = 0 ∷ 0 ∷ 0 ∷ message_bytes Message.Nothing
place_bytes Place.Entering = 1 ∷ 0 ∷ 0 ∷ message_bytes Message.Nothing
place_bytes (Place.Scanning i) = 2 ∷ i ∷ 0 ∷ message_bytes Message.Nothing
place_bytes (Place.Trying i) = 3 ∷ i ∷ 0 ∷ message_bytes Message.Nothing
place_bytes (Place.Committed i kept) = 4 ∷ i ∷ kept ∷ message_bytes Message.Nothing
place_bytes Place.Posting = 5 ∷ 0 ∷ 0 ∷ message_bytes Message.Nothing
place_bytes Place.Opening = 6 ∷ 0 ∷ 0 ∷ message_bytes Message.Nothing
place_bytes Place.Showing = 7 ∷ 0 ∷ 0 ∷ message_bytes Message.Nothing
place_bytes (Place.Asleep steps) = 8 ∷ steps ∷ 0 ∷ message_bytes Message.Nothing
place_bytes Place.Waiting = 9 ∷ 0 ∷ 0 ∷ message_bytes Message.Nothing
place_bytes (Place.Met i m) = 10 ∷ i ∷ 0 ∷ message_bytes m

unfoldable pub signal_bytes : Option (ℕ × Message) → List ℕ
signal_bytes None = 0 ∷ 0 ∷ message_bytes Message.Nothing
signal_bytes (Some (i, m)) = 1 ∷ i ∷ message_bytes m

-- values one after another
unfoldable pub each_bytes : {A : Type 0} → (A → List ℕ) → List A → List ℕ
each_bytes write [] = []
each_bytes write (x ∷ xs) = write x ++ each_bytes write xs

unfoldable pub guards_bytes : List Guard → List ℕ
guards_bytes gs = each_bytes guard_bytes gs

-- the parts of a record, one after another
abbrev pub process_parts : Process → List (List ℕ)
process_parts x =
    place_bytes x.place
    ∷ signal_bytes x.signal
    ∷ word_bytes x.transaction.0
    ∷ (flag x.accepting ∷ x.count ∷ x.altcount ∷ [])
    ∷ guards_bytes x.guards
    ∷ guards_bytes x.altlist
    ∷ []

unfoldable pub process_bytes : Process → List ℕ
process_bytes x = flatten (process_parts x)

unfoldable pub head_bytes : Head → List ℕ
head_bytes h = h.n ∷ h.nap ∷ word_bytes h.next.0 ++ long_bytes h.meetings ++ long_bytes h.withdrawn

unfoldable pub bytes_of : ProcessTable → List ℕ
bytes_of t = head_bytes t.head ++ each_bytes process_bytes t.processes

-- a buffer of `size` bytes at least gets the bytes at its front and keeps what stands behind them; a shorter one stays as it is
unfoldable pub onto : ℕ → List ℕ → List ℕ → List ℕ
onto size bytes out = cond (leb size (length out)) (bytes ++ drop size out) out
