use Rattle.std.proofs.Common.{◌∙◌}
use Rattle.rendezvous.proofs.Done.{collect-done}
use Rattle.rendezvous.proofs.ProcessTable.collect.Goals as goal

pub returns : goal.returns
returns c = c.carry_out-answer.ensures ∙ collect-done _ _ _ c.form.ensures _ c.record.ensures _ _ c.collect_act-act.ensures
