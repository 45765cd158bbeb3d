use Rattle.rendezvous.proofs.Unranked.{calls-without-ranks}
use Rattle.rendezvous.proofs.calls_without_ranks.Goals as goal

pub returns : goal.returns
returns c = calls-without-ranks
