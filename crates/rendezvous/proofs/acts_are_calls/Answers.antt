use Rattle.rendezvous.proofs.Done.{acts-are-calls}
use Rattle.rendezvous.proofs.acts_are_calls.Goals as goal

pub returns : goal.returns
returns c = acts-are-calls
