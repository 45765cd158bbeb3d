use Rattle.std.specs.Prelude.{Ok}
use Rattle.std.proofs.Common.{◌≡◌, refl, sym, ap, ◌∙◌, rules, length}
use Rattle.inplace.specs.Types.{Place, Answer}
use Rattle.records.specs.Reading.{place_of}
use Rattle.inplace.proofs.Rows.{row-lent, place_at}
use Rattle.inplace.proofs.Ready.{below-most}
use Rattle.inplace.proofs.Left.{nothing_left}
use Rattle.inplace.proofs.Turned.{told, ready, step-turned, step_left}
use Rattle.inplace.proofs.step.step_in.Goals as goal

pub returns-in_err-admitted : goal.returns-in_err-admitted
returns-in_err-admitted c = nothing_left _ _ _ _ _ (rw (told _ _ c.from_residual.ensures) (step-turned c.args.t.now c.args.p _ (sym c.admitted.ensures ∙ c.in_err-admitted.was))) refl

pub stepped_in-requires : goal.stepped_in-requires
stepped_in-requires c =
    let r = ready c.args.t.now c.args.p c.requires (sym c.admitted.ensures ∙ c.in_ok-admitted.was) in
    (below-most c.args.t.now c.args.p r, r)

pub returns-then-not-stepped_in : goal.returns-then-not-stepped_in
returns-then-not-stepped_in c =
    let r = ready c.args.t.now c.args.p c.requires (sym c.admitted.ensures ∙ c.in_ok-admitted.was) in
    step_left c.args.t.now c.args.p r _ c.stepped_in.result _ c.stepped_in.ensures (rw c.if-not-stepped_in.true refl)

pub slice_bounds-place_in-end : goal.slice_bounds-place_in-end
slice_bounds-place_in-end c =
    let r = ready c.args.t.now c.args.p c.requires (sym c.admitted.ensures ∙ c.in_ok-admitted.was) in
    let h = below-most c.args.t.now c.args.p r in
    let l : length c.stepped_in.new.t ≡ length c.args.t.now = c.stepped_in.auto.t in
    search rules

pub returns : goal.returns
returns c =
    let t = c.args.t.now in
    let p = c.args.p in
    let r = ready t p c.requires (sym c.admitted.ensures ∙ c.in_ok-admitted.was) in
    let t' = c.stepped_in.new.t in
    step_left t p r t' c.stepped_in.result _ c.stepped_in.ensures (rw c.if-not-stepped_in.false (ap (λ (q : Place). Ok (Answer.Moved q)) (c.place_in.ensures ∙ ap place_of (row-lent t' p) ∙ sym (place_at t' p (below-most t p r)))))
