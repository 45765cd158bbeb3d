use Rattle.std.proofs.Common.{◌≡◌, rules, length}
use Rattle.records.proofs.Cuts.{lent-count, sets-mid}
use Rattle.records.proofs.writes.put_message.Goals as goal

pub returns : goal.returns
returns c =
    let a = c.args in
    let m : length a.m ≡ 9 = search rules in
    rw c.copy_from_slice.ensures.after (sets-mid a.r.now a.at 9 _ a.m (lent-count a.at 9) m c.requires)
