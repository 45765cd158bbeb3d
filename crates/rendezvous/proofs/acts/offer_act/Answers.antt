use Rattle.std.proofs.Common.{arith}
use Rattle.rendezvous.specs.Acts.{offer_act}
use Rattle.rendezvous.proofs.Verdicts.{tests-passed}
use Rattle.rendezvous.proofs.acts.offer_act.Goals as goal

pub overflow_add-following : goal.overflow_add-following
overflow_add-following c =
    let a = c.args in
    let h = tests-passed c.form_end.result a.head a.p a.list a.x.now.place _ c.offer_verdict.ensures c.in-Ok.is in
    omega (arith, h.left)

pub entered-requires : goal.entered-requires
entered-requires c = let a = c.args in (tests-passed c.form_end.result a.head a.p a.list a.x.now.place _ c.offer_verdict.ensures c.in-Ok.is).most

pub returns-in-Err : goal.returns-in-Err
unfolding offer_act
returns-in-Err c = rw (← c.form_end.ensures, ← c.offer_verdict.ensures, c.in-Err.is) c.alone.ensures

pub returns-in-Ok : goal.returns-in-Ok
unfolding offer_act
returns-in-Ok c = rw (← c.form_end.ensures, ← c.offer_verdict.ensures, c.in-Ok.is, ← c.entered.ensures) c.alone-in-Ok.ensures
