use Rattle.rendezvous.specs.Table.{most_processes}
use Rattle.wire.specs.Layout.{head_length, record_length}
use Rattle.wire.specs.Writing.{process_bytes}
use Rattle.wire.proofs.Lists.{WrittenTo}
use Rattle.wire.proofs.encode.Given as goal

abbrev pub invariant-loop-p : goal.invariant-loop-p
invariant-loop-p l = WrittenTo process_bytes record_length most_processes l.x-items head_length l.initial.out l.p l.out
