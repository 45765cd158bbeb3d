use Rattle.std.proofs.Common.{arith, sym, ◌≤◌, add-one, drop-cons, length}
use lib.ListN.{drop_of_length-le}
use Rattle.alternative.specs.Guards.{blank}
use Rattle.rendezvous.specs.Refusals.{require_guards}
use Rattle.rendezvous.proofs.refusals.guards_verdict.Goals as goal

pub returns-then-not-partner_fits : goal.returns-then-not-partner_fits
unfolding require_guards
returns-then-not-partner_fits c = rw (c.loop-g.invariant, drop-cons c.args.guards.now c.loop-g.g-index blank (omega arith), sym c.if-not-partner_fits.ensures)

pub returns-then-action_holds_nan : goal.returns-then-action_holds_nan
unfolding require_guards
returns-then-action_holds_nan c =
    rw (c.loop-g.invariant, drop-cons c.args.guards.now c.loop-g.g-index blank (omega arith), sym c.if-not-partner_fits.ensures, sym c.if-action_holds_nan.ensures)

pub loop-g-preserved : goal.loop-g-preserved
unfolding require_guards
loop-g-preserved c =
    rw (c.loop-g.invariant, add-one, drop-cons c.args.guards.now c.loop-g.g-index blank (omega arith), sym c.if-not-partner_fits.ensures, sym c.if-action_holds_nan.ensures)

pub returns : goal.returns
unfolding require_guards
returns c =
    let end : length c.args.guards.now ≤ c.loop-g.g-index = omega arith in
    rw (c.loop-g.invariant, drop_of_length-le c.args.guards.now end)
