use Rattle.std.proofs.Common.{arith}
use Rattle.std.proofs.lemmas.Grind.{common_steps}
use Rattle.command.specs.Commands.{offer_in}
use Rattle.command.proofs.Cuts.{fields-cut}
use Rattle.command.proofs.offers.parse_offer.Goals as goal

pub returns-in_err-p : goal.returns-in_err-p
unfolding offer_in
returns-in_err-p c = rw (fields-cut c.args.s.now) (grind (arith, common_steps))

pub returns-in_err-list : goal.returns-in_err-list
unfolding offer_in
returns-in_err-list c = rw (fields-cut c.args.s.now) (grind (arith, common_steps))

pub returns : goal.returns
unfolding offer_in
returns c = rw (fields-cut c.args.s.now) (grind (arith, common_steps))
