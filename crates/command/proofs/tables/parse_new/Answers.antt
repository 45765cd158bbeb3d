use Rattle.std.proofs.Common.{rules, arith}
use Rattle.std.proofs.lemmas.Grind.{common_steps}
use Rattle.command.specs.Commands.{new_in}
use Rattle.command.proofs.Cuts.{fields-cut}
use Rattle.command.proofs.tables.parse_new.Goals as goal

pub returns-in_err-n : goal.returns-in_err-n
unfolding new_in
returns-in_err-n c = rw (fields-cut c.args.s.now) (grind (arith, common_steps))

pub returns-in_err-nap : goal.returns-in_err-nap
unfolding new_in
returns-in_err-nap c = rw (fields-cut c.args.s.now) (grind (arith, common_steps))

pub returns : goal.returns
unfolding new_in
returns c = rw (fields-cut c.args.s.now) (search rules)
