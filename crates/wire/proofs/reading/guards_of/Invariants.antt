use Rattle.std.proofs.Common.{ℕ, ◌*◌, ◌<◌, ◌≡◌, length, get_or, drop}
use Rattle.alternative.specs.Guards.{most_guards, blank}
use Rattle.wire.specs.Layout.{guard_length}
use Rattle.wire.specs.Reading.{guard_of}
use Rattle.wire.proofs.reading.guards_of.Given as goal

-- the guards below k are read
abbrev pub invariant-loop-k : goal.invariant-loop-k
invariant-loop-k l = (length l.g-items ≡ most_guards) × ((i : ℕ) → i < l.k → get_or l.g-items i blank ≡ guard_of (drop (guard_length * i) l.bytes))
