use Rattle.rendezvous.proofs.Withdrawals.{withdraws-open}
use Rattle.rendezvous.proofs.withdraws_open.Goals as goal

pub returns : goal.returns
returns c = withdraws-open
