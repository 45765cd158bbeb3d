use Rattle.std.proofs.Common.{arith}
use Rattle.rendezvous.proofs.Forms.{form-start, form-more, form_of}
use Rattle.rendezvous.proofs.ProcessTable.form.Goals as goal

pub loop-k-init : goal.loop-k-init
loop-k-init c = form-start _ _ c.form_start-form.ensures

pub loop-k-preserved : goal.loop-k-preserved
loop-k-preserved c =
    form-more _ c.loop-k.k _ _ _ _ _ c.loop-k-test.true c.loop-k.invariant c.record-x.ensures c.committed_to.ensures c.record.ensures c.form_more-form.ensures

pub returns : goal.returns
returns c = form_of _ c.loop-k.k _ (omega arith) c.loop-k.invariant
