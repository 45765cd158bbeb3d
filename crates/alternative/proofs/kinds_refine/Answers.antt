use Rattle.alternative.proofs.OneKind.{kinds-refine}
use Rattle.alternative.proofs.kinds_refine.Goals as goal

pub returns : goal.returns
returns c = kinds-refine
