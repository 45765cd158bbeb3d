use Rattle.std.proofs.Common.{rules}
use Rattle.alternative.specs.Guards.{guards_match}
use Rattle.alternative.proofs.matching.guards_match.Goals as goal

pub returns-then-are_opposite : goal.returns-then-are_opposite
unfolding guards_match
returns-then-are_opposite c = search rules

pub returns-else-are_opposite : goal.returns-else-are_opposite
unfolding guards_match
returns-else-are_opposite c = search rules
