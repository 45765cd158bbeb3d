use Rattle.std.proofs.Common.{◌≡◌, drop}
use Rattle.alternative.specs.Guards.{first_from, next_enabled}
use Rattle.process.specs.Process.{own_list}
use Rattle.records.specs.Reading.{process_of}
use Rattle.records.proofs.lists.next_own.Given as goal

-- the search over the whole list finds what the search from guard k on finds
abbrev pub invariant-loop-k : goal.invariant-loop-k
invariant-loop-k l = next_enabled (own_list (process_of l.r)) l.from ≡ first_from (λ g. g.enabled) (drop l.k (own_list (process_of l.r))) l.k
