use Rattle.std.proofs.Common.{◌≡◌, drop}
use Rattle.alternative.specs.Guards.{first_from, next_enabled}
use Rattle.alternative.proofs.matching.next_enabled.Given as goal

-- the search from the start index gives what the search in the rest gives
abbrev pub invariant-loop-k : goal.invariant-loop-k
invariant-loop-k l = next_enabled l.searched l.from ≡ first_from (λ g. g.enabled) (drop l.k l.searched) l.k
