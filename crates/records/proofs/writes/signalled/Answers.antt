use Rattle.std.proofs.Common.{◌≡◌, arith, rules, length}
use Rattle.records.proofs.Cuts.{wrote-sets}
use Rattle.records.proofs.Records.{signalled-is}
use Rattle.records.proofs.writes.signalled.Goals as goal

pub returns : goal.returns
returns c =
    let r = c.args.r.now in
    let b = c.put_message in
    let n : length b.new.r ≡ length r = b.auto.r in
    let m : length c.args.m ≡ 9 = search rules in
    signalled-is r b.new.r c.args.m (omega arith) c.args.kept (wrote-sets r 37 9 c.args.m b.new.r m (omega arith) b.ensures)
