use Rattle.std.proofs.Common.{rules, ◌≡◌, sym, ◌∙◌}
use Rattle.std.specs.Prelude.{Err}
use Rattle.rendezvous.specs.Refusals.{list_verdict, state_verdict}
use Rattle.rendezvous.proofs.Verdicts.{process-pass, list-pass, list-stop}
use Rattle.rendezvous.proofs.refusals.offer_verdict.Goals as goal

pub returns-in_err-list_verdict : goal.returns-in_err-list_verdict
returns-in_err-list_verdict c =
    let a = c.args in
    let rest = state_verdict a.place a.head.next in
    let e : c.from_residual-in_err-list_verdict.result ≡ Err c.in_err-list_verdict.field-0.0 = search rules in
    e ∙ sym (process-pass a.formed a.head.n a.p (list_verdict a.head.n a.p a.list rest) c.in_ok-process_verdict.ensures ∙ list-stop a.head.n a.p a.list _ rest c.in_err-list_verdict.ensures)

pub returns : goal.returns
returns c =
    let a = c.args in
    let rest = state_verdict a.place a.head.next in
    c.state_verdict.ensures ∙ sym (process-pass a.formed a.head.n a.p (list_verdict a.head.n a.p a.list rest) c.in_ok-process_verdict.ensures ∙ list-pass a.head.n a.p a.list rest c.in_ok-list_verdict.ensures)
