use Rattle.std.proofs.Common.{ℕ, ◌+◌, ◌*◌, ◌<◌, ◌≡◌, length, get_or, drop}
use Rattle.process.specs.Process.{nobody}
use Rattle.rendezvous.specs.Table.{most_processes}
use Rattle.wire.specs.Layout.{head_length, record_length}
use Rattle.wire.specs.Reading.{process_of}
use Rattle.wire.proofs.decode.Given as goal

-- the records below p are read
abbrev pub invariant-loop-p : goal.invariant-loop-p
invariant-loop-p l = (length l.x-items ≡ most_processes) × ((i : ℕ) → i < l.p → get_or l.x-items i nobody ≡ process_of (drop (head_length + record_length * i) l.bytes))
