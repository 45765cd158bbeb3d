use Rattle.script.proofs.Examples.{examples-hold}
use Rattle.script.proofs.two_sensors.Goals as goal

pub returns : goal.returns
returns c = examples-hold.4
