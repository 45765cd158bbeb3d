use Rattle.rendezvous.proofs.Movers.{movers-change}
use Rattle.rendezvous.proofs.movers_change.Goals as goal

pub returns : goal.returns
returns c = movers-change
