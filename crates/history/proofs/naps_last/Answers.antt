use Rattle.history.proofs.NapsLast.{naps-last}
use Rattle.history.proofs.naps_last.Goals as goal

pub returns : goal.returns
returns c = naps-last
