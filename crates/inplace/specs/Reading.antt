-- To be believed. The bytes of a table, read: any bytes are a table. Too few are read as if zeros followed, and what follows a whole table is passed over.
use Rattle.wire.specs.Layout.{word_length, long_length}
use Rattle.wire.specs.Reading.{byte, word_of, long_of}
use Rattle.rendezvous.specs.Table.{most_processes}
use Rattle.records.specs.Layout.{part}
use Rattle.records.specs.Reading.{values, process_of}
use Rattle.inplace.specs.Types.{ℕ, List, Head, ProcessTable}
use Rattle.inplace.specs.Layout.{count_at, nap_at, next_at, meetings_at, withdrawn_at, record_bytes}

unfoldable pub head_of : List ℕ → Head
head_of bytes = record {
  n = byte bytes count_at;
  nap = byte bytes nap_at;
  next = record { 0 = word_of (part bytes next_at word_length) };
  meetings = long_of (part bytes meetings_at long_length);
  withdrawn = long_of (part bytes withdrawn_at long_length);
}

unfoldable pub table_of : List ℕ → ProcessTable
table_of bytes = record { head = head_of bytes; processes = values (λ p. process_of (record_bytes bytes p)) 0 most_processes }
