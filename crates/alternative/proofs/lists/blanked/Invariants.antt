use Rattle.std.proofs.Common.{◌≡◌, length}
use Rattle.alternative.proofs.Blanks.{Read}
use Rattle.alternative.proofs.lists.blanked.Given as goal

-- the slots below k are those of the list
abbrev pub invariant-loop-k : goal.invariant-loop-k
invariant-loop-k l = (length l.out ≡ 8) × Read l.out l.k l.fn.guards l.count
