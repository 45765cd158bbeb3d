use Rattle.std.proofs.Common.{sym, ◌∙◌}
use Rattle.rendezvous.specs.Acts.{collect_act}
use Rattle.rendezvous.proofs.acts.collect_act.Goals as goal

pub returns-in-Err : goal.returns-in-Err
unfolding collect_act
returns-in-Err c = rw (← c.form_end.ensures, ← c.process_verdict.ensures, c.in-Err.is) c.alone.ensures

pub returns-in-None : goal.returns-in-None
unfolding collect_act
returns-in-None c = rw (← c.form_end.ensures, ← c.process_verdict.ensures, c.in-Ok.is, sym c.outcome.ensures ∙ c.in-None.is) c.alone-in-None.ensures

pub returns-in-Some : goal.returns-in-Some
unfolding collect_act
returns-in-Some c =
    rw (
      ← c.form_end.ensures,
      ← c.process_verdict.ensures,
      c.in-Ok.is,
      sym c.outcome.ensures ∙ c.in-Some.is,
      ← c.own_list.ensures.value,
      ← c.guard_at-g.ensures,
      ← c.at_place.ensures,
    )
    c.alone-in-Some.ensures
