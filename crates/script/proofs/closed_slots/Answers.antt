use Rattle.script.proofs.Examples.{examples-hold}
use Rattle.script.proofs.closed_slots.Goals as goal

pub returns : goal.returns
returns c = examples-hold.3
