use Rattle.std.proofs.Common.{◌∙◌}
use Rattle.script.proofs.Turns.{call-done}
use Rattle.script.proofs.acting.called.Goals as goal

pub returns : goal.returns
returns c = c.carry_out.ensures ∙ call-done _ c.args.call _ _ _ _ _ _ c.process_of-p.ensures c.form.ensures c.record-x.ensures c.partner-q.ensures c.record.ensures c.line_act-act.ensures
