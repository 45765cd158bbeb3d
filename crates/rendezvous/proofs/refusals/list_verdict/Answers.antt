use Rattle.std.proofs.Common.{rules, ◌≡◌, sym}
use Rattle.std.specs.Prelude.{Err}
use mathlib.Core.Logic.{⊎_elim}
use borrow.Author.Tests.{lt-leb, le-leb}
use Rattle.rendezvous.specs.Refusals.{list_verdict}
use Rattle.rendezvous.proofs.Verdicts.{guards-pass, guards-stop}
use Rattle.rendezvous.proofs.refusals.list_verdict.Goals as goal

pub returns-then-list-lt1 : goal.returns-then-list-lt1
unfolding list_verdict
returns-then-list-lt1 c = ⊎_elim (λ h. rw (lt-leb _ _ h)) (λ h. rw (le-leb _ _ h.0, lt-leb _ _ h.1)) c.then-list-lt1.either

pub returns-in_err-guards_verdict : goal.returns-in_err-guards_verdict
unfolding list_verdict
returns-in_err-guards_verdict c =
    let e : c.from_residual.result ≡ Err c.in_err-guards_verdict.field-0.0 = search rules in
    rw (e, le-leb _ _ c.if-list-lt1.false, le-leb _ _ c.if-list-gt8.false, ← c.as_slice-guards.ensures) (sym (guards-stop _ _ _ _ _ c.in_err-guards_verdict.ensures))

pub returns-then-any_enabled : goal.returns-then-any_enabled
unfolding list_verdict
returns-then-any_enabled c =
    rw (le-leb _ _ c.if-list-lt1.false, le-leb _ _ c.if-list-gt8.false, ← c.as_slice-guards.ensures, guards-pass _ _ _ _ c.in_ok-guards_verdict.ensures, sym c.if-any_enabled.ensures)

pub returns-else-any_enabled : goal.returns-else-any_enabled
unfolding list_verdict
returns-else-any_enabled c =
    rw (le-leb _ _ c.if-list-lt1.false, le-leb _ _ c.if-list-gt8.false, ← c.as_slice-guards.ensures, guards-pass _ _ _ _ c.in_ok-guards_verdict.ensures, sym c.if-any_enabled.ensures)
