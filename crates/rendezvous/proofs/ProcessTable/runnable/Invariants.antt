use Rattle.process.specs.Rules.{changes}
use Rattle.rendezvous.specs.Calls.{effect_on}
use Rattle.rendezvous.proofs.Sets.{Above}
use Rattle.rendezvous.proofs.ProcessTable.runnable.Given as goal

-- the set of the processes from p on, above the bits of those below p
abbrev pub invariant-loop-p : goal.invariant-loop-p
invariant-loop-p l = Above (λ r. changes (effect_on l.self r)) l.self.head.n l.p l.set
