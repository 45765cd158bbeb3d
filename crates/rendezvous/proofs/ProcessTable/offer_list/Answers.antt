use Rattle.std.proofs.Common.{◌∙◌}
use Rattle.rendezvous.proofs.Done.{offer-done}
use Rattle.rendezvous.proofs.ProcessTable.offer_list.Goals as goal

pub returns : goal.returns
returns c = c.carry_out-answer.ensures ∙ offer-done _ _ _ c.form.ensures _ c.record.ensures _ _ _ c.offer_act-act.ensures
