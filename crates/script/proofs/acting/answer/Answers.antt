use Rattle.std.proofs.Common.{◌≡◌, Some, sym, ap, ◌∙◌}
use Rattle.script.specs.Types.{Reply}
use Rattle.script.proofs.Turns.{after-call, after-movers}
use Rattle.script.proofs.acting.answer.Goals as goal

pub returns-in_ok-as_mut-in-Do-clause-table : goal.returns-in_ok-as_mut-in-Do-clause-table
returns-in_ok-as_mut-in-Do-clause-table c =
    let t = c.in_ok-as_mut-in-Do.field-0.now in
    let made : c.args.table.now ≡ Some t = sym c.in_ok-as_mut-in-Do.ensures.value in
    rw (made, c.in-Do.is) (sym (after-call t c.in-Do.call ∙ ap (λ (r : Reply). Some r.table) (sym c.called.ensures)))

pub returns-in_ok-as_ref-in-Movers-clause-table : goal.returns-in_ok-as_ref-in-Movers-clause-table
returns-in_ok-as_ref-in-Movers-clause-table c =
    let made : c.args.table.now ≡ Some c.in_ok-as_ref-in-Movers.field-0.now = sym c.in_ok-as_ref-in-Movers.ensures.value in
    rw (made, c.in-Movers.is) (sym (after-movers c.in_ok-as_ref-in-Movers.field-0.now))
