use Rattle.std.proofs.Common.{rules, ◌≡◌, true, false, refl, sym, ◌∙◌, Ok, Err}
use Rattle.passes.proofs.Turns.{one_more, stopped, used-up}
use Rattle.passes.proofs.reading.read_all.Goals as goal

pub returns-in_err-read_once : goal.returns-in_err-read_once
returns-in_err-read_once c =
    let w = c.read_once.ensures in
    let e : c.read_once.result ≡ Err c.in_err-read_once.field-0.0 = search rules in
    let r : c.from_residual.result ≡ Err c.in_err-read_once.field-0.0 = search rules in
    rw r (stopped _ _ _ c.loop.invariant _ w.0 _ (Err c.in_err-read_once.field-0.0) (sym e ∙ w.3) refl w.2 w.4)

pub returns-then-not-branch : goal.returns-then-not-branch
returns-then-not-branch c =
    let w = c.read_once.ensures in
    let e : c.read_once.result ≡ Ok false = search rules in
    stopped _ _ _ c.loop.invariant _ w.0 _ (Ok false) (sym e ∙ w.3) refl w.2 w.4

pub loop-preserved : goal.loop-preserved
loop-preserved c =
    let w = c.read_once.ensures in
    let e : c.read_once.result ≡ Ok true = search rules in
    one_more _ _ _ c.loop.invariant w.0 _ (sym w.3 ∙ e) w.4

pub returns : goal.returns
returns c = used-up _ _ _ c.loop.invariant _ (search rules)
