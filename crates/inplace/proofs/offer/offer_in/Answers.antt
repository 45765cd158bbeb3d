use Rattle.std.proofs.Common.{refl, sym, ◌∙◌}
use Rattle.inplace.proofs.Ready.{below-most}
use Rattle.inplace.proofs.Left.{nothing_left}
use Rattle.inplace.proofs.Turned.{told, ready}
use Rattle.inplace.proofs.Offered.{offer-turned, offer-unfit}
use Rattle.inplace.proofs.offer.offer_in.Goals as goal

pub returns-in_err-admitted : goal.returns-in_err-admitted
returns-in_err-admitted c =
    nothing_left _ _ _ _ _ (rw (told _ _ c.from_residual.ensures) (offer-turned c.args.t.now c.args.p c.args.list _ (sym c.admitted.ensures ∙ c.in_err-admitted.was))) refl

pub returns-in_err-list_verdict : goal.returns-in_err-list_verdict
returns-in_err-list_verdict c =
    let r = ready c.args.t.now c.args.p c.requires (sym c.admitted.ensures ∙ c.in_ok-admitted.was) in
    nothing_left _ _ _ _ _ (rw (told _ _ c.from_residual-in_err-list_verdict.ensures) (offer-unfit c.args.t.now c.args.p c.args.list r _ (sym c.in_err-list_verdict.was ∙ c.list_verdict.ensures))) refl

pub entered_in-requires : goal.entered_in-requires
entered_in-requires c =
    let r = ready c.args.t.now c.args.p c.requires (sym c.admitted.ensures ∙ c.in_ok-admitted.was) in
    (below-most c.args.t.now c.args.p r, r, sym c.list_verdict.ensures ∙ c.in_ok-list_verdict.was)
