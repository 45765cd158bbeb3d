use Rattle.alternative.specs.Guards.{guards_match}
use Rattle.alternative.proofs.Kept.{SoFar}
use Rattle.alternative.proofs.matching.kept_match.Given as goal

-- what is kept of the first k guards, and the least rank that takes its place
abbrev pub invariant-loop-k : goal.invariant-loop-k
invariant-loop-k l = SoFar (guards_match l.p l.g l.q) l.searched l.k l.kept l.least
