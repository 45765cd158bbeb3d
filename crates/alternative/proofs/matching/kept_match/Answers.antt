use Rattle.std.proofs.Common.{arith}
use Rattle.std.specs.Prelude.{◌≡◌, length}
use Rattle.alternative.proofs.Kept.{searched-all}
use Rattle.alternative.proofs.matching.kept_match.Goals as goal

pub returns : goal.returns
returns c =
    let searched = c.first_eight-searched.result.now in
    let whole : c.loop-k.k ≡ length searched = omega arith in
    rw (← c.first_eight-searched.ensures, searched-all c.args.p c.args.g c.args.q searched c.loop-k.kept c.loop-k.least (rw whole at c.loop-k.invariant))
