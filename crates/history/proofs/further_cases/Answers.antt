use Rattle.history.proofs.Further.{further-hold}
use Rattle.history.proofs.further_cases.Goals as goal

pub returns : goal.returns
returns c = further-hold
