use Rattle.history.proofs.OneKind.{kinds-never-cross}
use Rattle.history.proofs.kinds_never_cross.Goals as goal

pub returns : goal.returns
returns c = kinds-never-cross
