use Rattle.command.proofs.LeftOut.{kind-left-out}
use Rattle.command.proofs.kind_left_out.Goals as goal

pub returns : goal.returns
returns c = kind-left-out
