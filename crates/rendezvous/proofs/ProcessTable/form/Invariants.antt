use Rattle.rendezvous.proofs.Forms.{FormAt}
use Rattle.rendezvous.proofs.ProcessTable.form.Given as goal

abbrev pub invariant-loop-k : goal.invariant-loop-k
invariant-loop-k l = FormAt l.self l.k l.form
