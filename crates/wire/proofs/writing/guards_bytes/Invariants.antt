use Rattle.alternative.specs.Guards.{most_guards}
use Rattle.wire.specs.Layout.{guard_length}
use Rattle.wire.specs.Writing.{guard_bytes}
use Rattle.wire.proofs.Lists.{WrittenTo}
use Rattle.wire.proofs.writing.guards_bytes.Given as goal

abbrev pub invariant-loop-k : goal.invariant-loop-k
invariant-loop-k l = WrittenTo guard_bytes guard_length most_guards l.guards 0 l.initial.out l.k l.out
