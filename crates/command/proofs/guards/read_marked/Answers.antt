use Rattle.command.specs.Commands.{marked_in}
use Rattle.command.proofs.Heads.{empty_of, headed}
use Rattle.command.proofs.guards.read_marked.Goals as goal

pub returns-in-empty : goal.returns-in-empty
unfolding marked_in
returns-in-empty c = rw (empty_of c.args.s.now c.in-empty.len_below)

pub returns-in-len1-up : goal.returns-in-len1-up
unfolding marked_in
returns-in-len1-up c = rw (headed c.args.s.now c.in-len1-up.len_at_least) c.read_byte_number.ensures
