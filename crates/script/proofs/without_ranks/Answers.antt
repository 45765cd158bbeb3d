use Rattle.script.proofs.WithoutRanks.{without-ranks}
use Rattle.script.proofs.without_ranks.Goals as goal

pub returns : goal.returns
returns c = without-ranks
