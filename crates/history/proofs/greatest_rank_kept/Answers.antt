use Rattle.history.proofs.Ranked.{greatest-rank-kept}
use Rattle.history.proofs.greatest_rank_kept.Goals as goal

pub returns : goal.returns
returns c = greatest-rank-kept
