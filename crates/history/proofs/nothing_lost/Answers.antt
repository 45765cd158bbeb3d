use Rattle.history.proofs.NothingLost.{nothing-lost}
use Rattle.history.proofs.nothing_lost.Goals as goal

pub returns : goal.returns
returns c = nothing-lost
