use Rattle.rendezvous.specs.Acts.{withdraw_act}
use Rattle.rendezvous.proofs.acts.withdraw_act.Goals as goal

pub returns-in-Err : goal.returns-in-Err
unfolding withdraw_act
returns-in-Err c = rw (← c.form_end.ensures, ← c.withdraw_verdict.ensures, c.in-Err.is) c.alone.ensures

pub returns-then-commit_came_first : goal.returns-then-commit_came_first
unfolding withdraw_act
returns-then-commit_came_first c =
    rw (← c.form_end.ensures, ← c.withdraw_verdict.ensures, c.in-Ok.is, ← c.commit_came_first.ensures, c.if-commit_came_first.true) c.alone-then-commit_came_first.ensures

pub returns-else-commit_came_first : goal.returns-else-commit_came_first
unfolding withdraw_act
returns-else-commit_came_first c =
    rw (← c.form_end.ensures, ← c.withdraw_verdict.ensures, c.in-Ok.is, ← c.commit_came_first.ensures, c.if-commit_came_first.false, ← c.given_up.ensures) c.alone-else-commit_came_first.ensures
