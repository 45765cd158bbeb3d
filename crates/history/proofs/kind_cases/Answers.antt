use Rattle.history.proofs.KindCases.{kind-cases-hold}
use Rattle.history.proofs.kind_cases.Goals as goal

pub returns : goal.returns
returns c = kind-cases-hold
