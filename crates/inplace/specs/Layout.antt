-- To be believed. Where each part of a table stands in its bytes: its head, then a record for each process.
use Rattle.std.specs.Prelude.{◌+◌, ◌*◌}
use Rattle.records.specs.Layout.{part, record_length}
use Rattle.inplace.specs.Types.{ℕ, List}

-- a head: the number of processes and the length of a nap, one byte each, the next ticket, a word from byte 4 on, the meetings and the withdrawn offers, eight bytes each; the
-- bytes between and behind them have no use
abbrev pub count_at : ℕ
count_at = 0

abbrev pub nap_at : ℕ
nap_at = 1

abbrev pub next_at : ℕ
next_at = 4

abbrev pub meetings_at : ℕ
meetings_at = 8

abbrev pub withdrawn_at : ℕ
withdrawn_at = 16

abbrev pub head_length : ℕ
head_length = 32

abbrev pub record_start : ℕ → ℕ
record_start p = head_length + record_length * p

abbrev pub table_length : ℕ
table_length = 8224

-- the bytes of the record of process p
abbrev pub record_bytes : List ℕ → ℕ → List ℕ
record_bytes bytes p = part bytes (record_start p) record_length
