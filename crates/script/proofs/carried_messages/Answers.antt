use Rattle.script.proofs.Examples.{examples-hold}
use Rattle.script.proofs.carried_messages.Goals as goal

pub returns : goal.returns
returns c = examples-hold.1
