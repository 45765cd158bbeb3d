use Rattle.rendezvous.proofs.Done.{withdraw-written}
use Rattle.rendezvous.proofs.ProcessTable.withdraw.Goals as goal

pub returns : goal.returns
returns c = rw c.place_of.ensures (withdraw-written _ _ _ c.form.ensures _ c.record.ensures _ c.withdraw_act-act.ensures)
