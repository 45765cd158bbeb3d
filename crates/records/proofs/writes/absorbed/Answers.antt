use Rattle.std.proofs.Common.{arith}
use Rattle.records.proofs.Cuts.{wrote-copy}
use Rattle.records.proofs.Records.{absorbed-is}
use Rattle.records.proofs.writes.absorbed.Goals as goal

pub returns : goal.returns
returns c =
    let r = c.args.r.now in
    let copy = c.copy_within in
    absorbed-is r copy.new.self (omega (arith, copy.ensures.len)) (wrote-copy r 37 28 9 _ (omega arith) (omega arith) copy.ensures.after)
