use Rattle.script.proofs.Examples.{examples-hold}
use Rattle.script.proofs.alarm_first.Goals as goal

pub returns : goal.returns
returns c = examples-hold.6
