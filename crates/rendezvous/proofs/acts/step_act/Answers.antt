use Rattle.rendezvous.specs.Acts.{step_act}
use Rattle.rendezvous.proofs.acts.step_act.Goals as goal

pub returns-in-Err : goal.returns-in-Err
unfolding step_act
returns-in-Err c = rw (← c.form_end.ensures, ← c.process_verdict.ensures, c.in-Err.is) c.alone.ensures

pub returns-in_default-rule : goal.returns-in_default-rule
unfolding step_act
returns-in_default-rule c = rw (← c.form_end.ensures, ← c.process_verdict.ensures, c.in_default.is, ← c.rule.ensures, c.in_default-rule.is) c.alone-in_default-rule.ensures

pub returns : goal.returns
unfolding step_act
returns c = rw (← c.form_end.ensures, ← c.process_verdict.ensures, c.in_default.is, ← c.rule.ensures, c.in-Some.is, c.head_after.ensures, c.is_some.ensures)
