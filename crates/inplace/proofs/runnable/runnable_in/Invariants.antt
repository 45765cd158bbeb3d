use Rattle.wire.specs.Reading.{byte}
use Rattle.rendezvous.proofs.Sets.{Above}
use Rattle.inplace.proofs.Moves.{mover}
use Rattle.inplace.proofs.runnable.runnable_in.Given as goal

-- the set of the processes from p on, above the bits of those below p
abbrev pub invariant-loop-p : goal.invariant-loop-p
invariant-loop-p l = Above (mover l.t) (byte l.t 0) l.p l.set
