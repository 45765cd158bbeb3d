use Rattle.script.proofs.Examples.{examples-hold}
use Rattle.script.proofs.naps.Goals as goal

pub returns : goal.returns
returns c = examples-hold.5
