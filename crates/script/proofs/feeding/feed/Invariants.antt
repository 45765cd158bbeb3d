use Rattle.std.proofs.Common.{◌≡◌, ◌≤◌, length, take}
use Rattle.script.specs.Lines.{begun_length}
use Rattle.script.proofs.Going.{Going}
use Rattle.script.proofs.feeding.feed.Given as goal

abbrev pub invariant-loop-b : goal.invariant-loop-b
invariant-loop-b l = record {
  begun : l.held ≤ begun_length;
  long : length l.bytes ≡ begun_length;
  going : Going (record { begun = take l.initial.held l.initial.bytes; table = l.initial.table }) (take l.taken l.piece) l.fn.out (record { begun = take l.held l.bytes; table = l.table }) l.b-index l.out l.filled;
}
