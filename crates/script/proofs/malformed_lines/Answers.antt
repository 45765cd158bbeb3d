use Rattle.script.proofs.Examples.{examples-hold}
use Rattle.script.proofs.malformed_lines.Goals as goal

pub returns : goal.returns
returns c = examples-hold.2
