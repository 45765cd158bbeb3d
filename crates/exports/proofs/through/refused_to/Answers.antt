use Rattle.exports.proofs.Ways.{no-guards}
use Rattle.exports.proofs.through.refused_to.Goals as goal

pub returns : goal.returns
returns c = rw c.offer_list.ensures (no-guards _ _)
