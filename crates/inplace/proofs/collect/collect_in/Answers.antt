use Rattle.std.proofs.Common.{sym, refl, ◌∙◌}
use Rattle.inplace.proofs.Ready.{below-most}
use Rattle.inplace.proofs.Left.{nothing_left}
use Rattle.inplace.proofs.Turned.{told, ready, collect-turned}
use Rattle.inplace.proofs.collect.collect_in.Goals as goal

pub returns-in_err-admitted : goal.returns-in_err-admitted
returns-in_err-admitted c = nothing_left _ _ _ _ _ (rw (told _ _ c.from_residual.ensures) (collect-turned c.args.t.now c.args.p _ (sym c.admitted.ensures ∙ c.in_err-admitted.was))) refl

pub collected_in-requires : goal.collected_in-requires
collected_in-requires c =
    let r = ready c.args.t.now c.args.p c.requires (sym c.admitted.ensures ∙ c.in_ok-admitted.was) in
    (below-most c.args.t.now c.args.p r, r)
