use Rattle.std.proofs.Common.{[], ◌∷◌, ◌++◌, sym, ◌∙◌, arith, rules}
use Rattle.command.proofs.Growing.{longer-length, lent-count}
use Rattle.command.proofs.GuardFields.{prefixed-all, guards_more, guards-stop, guards-end}
use Rattle.command.proofs.offers.read_guards.Goals as goal

pub loop-rest-init : goal.loop-rest-init
loop-rest-init c = ([], c.no_guards-list.ensures, search rules, prefixed-all _)

pub with_guard-list-requires : goal.with_guard-list-requires
with_guard-list-requires c =
    let l = c.loop-rest in
    omega (arith, lent-count l.invariant.0 l.list l.invariant.1)

pub returns-in_err-read_guard : goal.returns-in_err-read_guard
returns-in_err-read_guard c =
    let l = c.loop-rest in
    let cut = c.split_at.ensures in
    let none = sym c.read_guard.ensures ∙ c.in_err-read_guard.was in
    rw (l.invariant.3, guards-stop l.rest.now _ _ _ c.in-len1-up.len_at_least c.length_before.ensures.value cut.front cut.back l.invariant.0 none) c.from_residual.ensures

pub loop-rest-preserved : goal.loop-rest-preserved
loop-rest-preserved c =
    let l = c.loop-rest in
    let gs = l.invariant.0 in
    let g = c.in_ok-read_guard.field-0 in
    let cut = c.split_at.ensures in
    let some = sym c.read_guard.ensures ∙ c.in_ok-read_guard.was in (
      gs ++ g ∷ [],
      c.with_guard-list.ensures gs l.invariant.1,
      omega (arith, longer-length gs g, l.invariant.2),
      l.invariant.3 ∙ guards_more l.rest.now _ _ _ c.in-len1-up.len_at_least c.length_before.ensures.value cut.front cut.back gs g some,
    )

pub returns : goal.returns
returns c =
    let l = c.loop-rest in
    rw (l.invariant.3, guards-end l.invariant.0 l.rest.now (omega arith), l.invariant.1)
