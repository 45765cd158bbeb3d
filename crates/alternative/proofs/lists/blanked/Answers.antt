use Rattle.std.proofs.Common.{arith}
use Rattle.alternative.proofs.Slots.{slots-are}
use Rattle.alternative.proofs.lists.blanked.Goals as goal

pub returns : goal.returns
returns c = slots-are _ c.loop-k.out c.loop-k.invariant.0 (λ i h. c.loop-k.invariant.1 i (omega arith))
