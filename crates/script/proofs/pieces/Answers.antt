use Rattle.script.proofs.Cuts.{pieces-hold}
use Rattle.script.proofs.pieces.Goals as goal

pub returns : goal.returns
returns c = pieces-hold
