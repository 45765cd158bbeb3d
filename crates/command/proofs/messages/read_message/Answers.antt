use Rattle.std.proofs.Common.{rules, tests, arith}
use Rattle.std.proofs.lemmas.Bool.Decides.{nat_tests}
use Rattle.command.specs.Commands.{message_by, message_in}
use Rattle.command.proofs.Heads.{empty_of, headed, if-alone}
use Rattle.command.proofs.messages.read_message.Goals as goal

pub returns-in_default : goal.returns-in_default
unfolding message_in
returns-in_default c = rw (empty_of c.args.s.now c.in_default.len_below)

pub returns-in-48 : goal.returns-in-48
unfolding message_in message_by
returns-in-48 c = rw (headed c.args.s.now c.in-len1-up.len_at_least, c.in-48.is) (if-alone _ _ _ _ c.is_empty.ensures c.then_some.ensures)

pub returns-in-119 : goal.returns-in-119
unfolding message_in message_by
returns-in-119 c = rw (headed c.args.s.now c.in-len1-up.len_at_least, c.in-119.is) c.whole_message.ensures

pub returns-in-114 : goal.returns-in-114
unfolding message_in message_by
returns-in-114 c = rw (headed c.args.s.now c.in-len1-up.len_at_least, c.in-114.is) c.reading_message.ensures

pub returns-in-108 : goal.returns-in-108
unfolding message_in message_by
returns-in-108 c = rw (headed c.args.s.now c.in-len1-up.len_at_least, c.in-108.is) c.limit_message.ensures

pub returns-in_default-letter : goal.returns-in_default-letter
unfolding message_in message_by
returns-in_default-letter c = rw (headed c.args.s.now c.in-len1-up.len_at_least) (grind (arith, nat_tests))
