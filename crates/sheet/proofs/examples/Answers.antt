use Rattle.sheet.proofs.ByHand.{examples-hold}
use Rattle.sheet.proofs.examples.Goals as goal

pub returns : goal.returns
returns c = examples-hold
