use Rattle.std.proofs.Common.{rules, ◌≡◌, ◌∙◌, length}
use Rattle.rendezvous.proofs.Open.{count-most}
use Rattle.rendezvous.proofs.ProcessTable.open_count.Goals as goal

pub returns : goal.returns
returns c =
    let s = c.args.self in
    let all : length s.processes ≡ 32 = search rules in
    rw c.min-n.ensures at c.open_among.ensures ∙ count-most s.processes 32 s.head.n all
