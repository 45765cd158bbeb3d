use Rattle.std.proofs.Common.{◌∙◌}
use Rattle.rendezvous.proofs.Done.{step-done}
use Rattle.rendezvous.proofs.ProcessTable.step.Goals as goal

pub returns : goal.returns
returns c = c.carry_out-answer.ensures ∙ step-done _ _ _ c.form.ensures _ c.record-x.ensures _ _ _ c.partner-q.ensures c.record.ensures c.step_act-act.ensures
