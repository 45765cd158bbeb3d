use Rattle.alternative.proofs.Decided.{ranks-decide}
use Rattle.alternative.proofs.ranks_decide.Goals as goal

pub returns : goal.returns
returns c = ranks-decide
