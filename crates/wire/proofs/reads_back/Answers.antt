use Rattle.wire.proofs.Back.{table-back}
use Rattle.wire.proofs.reads_back.Goals as goal

pub returns : goal.returns
returns c = table-back
