use Rattle.alternative.specs.Guards.{guards_match}
use Rattle.alternative.proofs.Kept.{SoFar}
use Rattle.process.specs.Process.{own_guard, posted_list}
use Rattle.records.specs.Reading.{process_of}
use Rattle.records.proofs.lists.kept_in.Given as goal

-- what is kept of the first k posted guards, and the least rank that takes its place
abbrev pub invariant-loop-k : goal.invariant-loop-k
invariant-loop-k l =
    SoFar (guards_match l.p (own_guard (process_of l.x) l.i) l.q) (posted_list (process_of l.y)) l.k l.kept l.least
