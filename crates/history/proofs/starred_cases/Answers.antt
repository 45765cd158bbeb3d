use Rattle.history.proofs.Starred.{starred-hold}
use Rattle.history.proofs.starred_cases.Goals as goal

pub returns : goal.returns
returns c = starred-hold
