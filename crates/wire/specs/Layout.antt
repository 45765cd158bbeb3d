-- To be believed. How many bytes each part of a table takes, and where it stands in what holds it. The first part stands at 0; a part without a name here is one byte, and stands behind the one before it.
use Rattle.std.specs.Prelude.{◌+◌, ◌*◌, ◌≡◌}
use Rattle.alternative.specs.Guards.{most_guards}
use Rattle.rendezvous.specs.Table.{most_processes}
use Rattle.wire.specs.Types.{ℕ}

-- a word, which is a number of 32 bits, and a number of 64 bits, which is two words
abbrev pub word_length : ℕ
word_length = 4

abbrev pub long_length : ℕ
long_length = 2 * word_length

-- a message: the variant, two words
abbrev pub first_at : ℕ
first_at = 1

abbrev pub second_at : ℕ
second_at = first_at + word_length

abbrev pub message_length : ℕ
message_length = second_at + word_length

-- an action: the variant, the message that is sent
abbrev pub sent_at : ℕ
sent_at = 1

abbrev pub action_length : ℕ
action_length = sent_at + message_length

-- a guard: enabled, the partner, the kind, the rank, the action
abbrev pub action_at : ℕ
action_at = 4

abbrev pub guard_length : ℕ
guard_length = action_at + action_length

-- the slots of a list of guards
abbrev pub guards_length : ℕ
guards_length = guard_length * most_guards

-- a place: the variant, the index or, at S, the steps, the kept index, the outcome's message
abbrev pub outcome_at : ℕ
outcome_at = 3

abbrev pub place_length : ℕ
place_length = outcome_at + message_length

-- a signal: the variant, the index, its message
abbrev pub signalled_at : ℕ
signalled_at = 2

abbrev pub signal_length : ℕ
signal_length = signalled_at + message_length

-- a record: the place, the signal, the ticket, accepting, the counts of the own and of the posted list, the own guards, the posted guards
abbrev pub signal_at : ℕ
signal_at = place_length

abbrev pub ticket_at : ℕ
ticket_at = signal_at + signal_length

abbrev pub accepting_at : ℕ
accepting_at = ticket_at + word_length

abbrev pub count_at : ℕ
count_at = accepting_at + 1

abbrev pub altcount_at : ℕ
altcount_at = count_at + 1

abbrev pub guards_at : ℕ
guards_at = altcount_at + 1

abbrev pub altlist_at : ℕ
altlist_at = guards_at + guards_length

abbrev pub record_length : ℕ
record_length = altlist_at + guards_length

-- a head: the number of processes, the length of a nap, the next ticket, the meetings, the withdrawn offers
abbrev pub next_at : ℕ
next_at = 2

abbrev pub meetings_at : ℕ
meetings_at = next_at + word_length

abbrev pub withdrawn_at : ℕ
withdrawn_at = meetings_at + long_length

abbrev pub head_length : ℕ
head_length = withdrawn_at + long_length

-- a table: its head, a record for each process
abbrev pub records_length : ℕ
records_length = record_length * most_processes

abbrev pub table_length : ℕ
table_length = head_length + records_length

-- how long a message, a guard, a record, a head and a table are, where in a record the signal, the ticket, accepting, the own and the posted guards stand, and where in a head the totals: the numbers of docs/BYTES.md
abbrev pub Lengths : Type 0
Lengths =
    (message_length ≡ 9) × (guard_length ≡ 14) × (record_length ≡ 254) × (head_length ≡ 22) × (table_length ≡ 8150) ×
    (signal_at ≡ 12) × (ticket_at ≡ 23) × (accepting_at ≡ 27) × (guards_at ≡ 30) × (altlist_at ≡ 142) ×
    (meetings_at ≡ 6) × (withdrawn_at ≡ 14)
