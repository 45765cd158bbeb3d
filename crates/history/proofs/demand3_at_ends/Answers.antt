use native.Mathlib.Omega.{arith}
use Rattle.history.proofs.Claimed.{demand3}
use Rattle.history.proofs.demand3_at_ends.Goals as goal

pub returns : goal.returns
returns c = λ calls. (
  demand3 2 1 (omega arith) (omega arith) (omega arith) calls,
  demand3 32 1 (omega arith) (omega arith) (omega arith) calls,
  demand3 2 255 (omega arith) (omega arith) (omega arith) calls,
  demand3 32 255 (omega arith) (omega arith) (omega arith) calls,
)
