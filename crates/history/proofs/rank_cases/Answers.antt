use Rattle.history.proofs.RankCases.{rank-cases-hold}
use Rattle.history.proofs.rank_cases.Goals as goal

pub returns : goal.returns
returns c = rank-cases-hold
