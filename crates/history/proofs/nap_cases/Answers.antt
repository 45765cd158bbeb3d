use Rattle.history.proofs.NapCases.{nap-cases-hold}
use Rattle.history.proofs.nap_cases.Goals as goal

pub returns : goal.returns
returns c = nap-cases-hold
