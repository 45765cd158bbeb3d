use Rattle.history.proofs.Claimed.{demand3}
use Rattle.history.proofs.demand3.Goals as goal

pub returns : goal.returns
returns c = demand3
