use Rattle.script.specs.Feeding.{state_held}
use Rattle.passes.proofs.Turns.{SoFar}
use Rattle.passes.proofs.reading.read_all.Given as goal

abbrev pub invariant-loop : goal.invariant-loop
invariant-loop l = SoFar (state_held l.fn.session) (state_held l.session) l.counter
