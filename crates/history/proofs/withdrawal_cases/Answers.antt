use Rattle.history.proofs.Withdrawals.{withdrawals-hold}
use Rattle.history.proofs.withdrawal_cases.Goals as goal

pub returns : goal.returns
returns c = withdrawals-hold
