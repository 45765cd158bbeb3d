use Rattle.command.proofs.Unranked.{rank-left-out}
use Rattle.command.proofs.rank_left_out.Goals as goal

pub returns : goal.returns
returns c = rank-left-out
