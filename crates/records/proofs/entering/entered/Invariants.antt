use Rattle.std.proofs.Common.{◌≡◌, length}
use Rattle.records.proofs.Offers.{Filled}
use Rattle.records.proofs.entering.entered.Given as goal

-- the first k guards are written
abbrev pub invariant-loop-k : goal.invariant-loop-k
invariant-loop-k l = (length l.r ≡ length l.initial.r) × Filled l.initial.r l.fn.list.guards l.r l.k
