use Rattle.std.proofs.Common.{arith}
use Rattle.records.proofs.Cuts.{wrote-copy}
use Rattle.records.proofs.Records.{posted-is}
use Rattle.records.proofs.writes.posted.Goals as goal

pub returns : goal.returns
returns c =
    let r = c.args.r.now in
    let partners = c.copy_within in
    let rest = c.copy_within-2 in
    posted-is r partners.new.self rest.new.self (omega (arith, partners.ensures.len, rest.ensures.len))
    (wrote-copy r 8 16 8 _ (omega arith) (omega arith) partners.ensures.after)
    (wrote-copy partners.new.self 48 152 104 _ (omega (arith, partners.ensures.len)) (omega (arith, partners.ensures.len)) rest.ensures.after)
