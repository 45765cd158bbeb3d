-- To be believed. Where each part of a record stands in its bytes; a part without a length here is one byte. What one test of refusal 7 reads lies together.
use Rattle.records.specs.Types.{ℕ, List, take, drop}

-- n bytes from byte a on
abbrev pub part : List ℕ → ℕ → ℕ → List ℕ
part bytes a n = take n (drop a bytes)

-- the place; the guard's index at A, T, C and M, and at S the steps made there; the kept index
abbrev pub place_at : ℕ
place_at = 0

abbrev pub index_at : ℕ
index_at = 1

abbrev pub kept_at : ℕ
kept_at = 2

-- the signal, its index
abbrev pub signal_at : ℕ
signal_at = 3

abbrev pub signal_index_at : ℕ
signal_index_at = 4

-- how many guards the own list has, and the posted one; accepting
abbrev pub count_at : ℕ
count_at = 5

abbrev pub altcount_at : ℕ
altcount_at = 6

abbrev pub accepting_at : ℕ
accepting_at = 7

-- the eight partners of the own list, and of the posted one
abbrev pub partners_at : ℕ
partners_at = 8

abbrev pub posted_partners_at : ℕ
posted_partners_at = 16

-- the ticket, four bytes
abbrev pub ticket_at : ℕ
ticket_at = 24

-- the messages of the outcome and of the signal, nine bytes each; two bytes behind them have no use
abbrev pub outcome_at : ℕ
outcome_at = 28

abbrev pub signalled_at : ℕ
signalled_at = 37

-- the rest of the own list, and of the posted one
abbrev pub own_at : ℕ
own_at = 48

abbrev pub posted_at : ℕ
posted_at = 152

abbrev pub record_length : ℕ
record_length = 256

-- the rest of a list: eight bytes of enabled, eight of sends, eight kinds, eight ranks, eight messages of nine bytes
abbrev pub sends_in : ℕ
sends_in = 8

abbrev pub kinds_in : ℕ
kinds_in = 16

abbrev pub ranks_in : ℕ
ranks_in = 24

abbrev pub messages_in : ℕ
messages_in = 32

abbrev pub rest_length : ℕ
rest_length = 104
