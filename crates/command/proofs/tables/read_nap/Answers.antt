use Rattle.std.proofs.Common.{◌-◌, length, take, drop}
use Rattle.command.specs.Commands.{nap_in}
use Rattle.command.specs.Private.{fields_after}
use Rattle.command.proofs.Cuts.{fields-cut, next-cut}
use Rattle.command.proofs.Heads.{empty_of}
use Rattle.command.proofs.tables.read_nap.Goals as goal

pub returns-in-empty : goal.returns-in-empty
unfolding fields_after nap_in
returns-in-empty c = rw (empty_of c.args.s.now c.in-empty.len_below)

pub returns-in-len1-up : goal.returns-in-len1-up
unfolding nap_in
returns-in-len1-up c = let s = c.args.s.now in rw (next-cut s c.in-len1-up.len_at_least, ← fields-cut (take (length s - 1) (drop 1 s))) c.read_only_number.ensures
