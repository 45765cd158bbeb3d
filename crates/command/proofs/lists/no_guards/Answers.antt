use Rattle.alternative.specs.Guards.{slots, lent}
use Rattle.command.proofs.lists.no_guards.Goals as goal

pub returns : goal.returns
unfolding lent slots
returns c = rw c.blank_guard.ensures
