use Rattle.std.proofs.Common.{sym, arith}
use Rattle.wire.proofs.Lists.{sets-past, sets-cut}
use Rattle.wire.proofs.bytes.put_bytes.Goals as goal

pub returns-then-at-out : goal.returns-then-at-out
returns-then-at-out c = sets-cut c.args.out.now c.args.at c.args.bytes.now _ c.min-n.result _ c.if-at-out.true (omega arith) (omega arith) c.copy_from_slice.ensures.after

pub returns-else-at-out : goal.returns-else-at-out
returns-else-at-out c = sym (sets-past c.args.out.now c.args.at c.args.bytes.now c.if-at-out.false)
