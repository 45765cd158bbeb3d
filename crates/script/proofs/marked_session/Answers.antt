use Rattle.script.proofs.Examples.{examples-hold}
use Rattle.script.proofs.marked_session.Goals as goal

pub returns : goal.returns
returns c = examples-hold.0
