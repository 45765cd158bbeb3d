use Rattle.std.proofs.Common.{arith}
use Rattle.std.proofs.lemmas.Bool.Decides.{nat_tests}
use Rattle.command.specs.Commands.{action_by, action_in}
use Rattle.command.proofs.Heads.{empty_of, headed, if-alone}
use Rattle.command.proofs.guards.read_action.Goals as goal

pub returns-in_default : goal.returns-in_default
unfolding action_in
returns-in_default c = rw (empty_of c.args.s.now c.in_default.len_below)

pub returns-in-63 : goal.returns-in-63
unfolding action_in action_by
returns-in-63 c = rw (headed c.args.s.now c.in-len1-up.len_at_least, c.in-63.is) (if-alone _ _ _ _ c.is_empty.ensures c.then_some.ensures)

pub returns-in-33 : goal.returns-in-33
unfolding action_in action_by
returns-in-33 c = rw (headed c.args.s.now c.in-len1-up.len_at_least, c.in-33.is) c.send_action.ensures

pub returns-in_default-sign : goal.returns-in_default-sign
unfolding action_in action_by
returns-in_default-sign c = rw (headed c.args.s.now c.in-len1-up.len_at_least) (grind (arith, nat_tests))
