use Rattle.std.proofs.Common.{◌≡◌, ◌-◌, ◌<◌, ◌*◌, ◌+◌, ◌^◌, true, arith, sym, ◌∙◌}
use Rattle.rendezvous.specs.Table.{most_processes}
use Rattle.rendezvous.specs.WellFormed.{well_formed}
use Rattle.rendezvous.proofs.Forms.{formed-most}
use Rattle.rendezvous.proofs.Steps.{member-read}
use Rattle.rendezvous.proofs.Sets.{bit-most, above-start, above_more, above-end, above-fits, runnable-gives, runnable-refused}
use Rattle.rendezvous.proofs.ProcessTable.runnable.Goals as goal
use Rattle.rendezvous.proofs.ProcessTable.runnable.Goals.{Then-formed, After-record-y}

formed : (c : Then-formed) → well_formed c.args.self ≡ true
formed c = sym (c.form_end-formed.ensures ∙ c.form.ensures) ∙ c.if-formed.true

-- one bit more fits
room : (c : After-record-y) → c.loop-p.set * 2 + 1 < 2 ^ most_processes
room c = above-fits _ _ c.loop-p.p c.loop-p.set most_processes (omega arith) (omega arith) (formed-most _ (formed (goal.at.overflow_mul-set c).Then-formed)) c.loop-p.invariant

pub loop-p-init : goal.loop-p-init
loop-p-init c = above-start _ _

pub overflow_mul-set : goal.overflow_mul-set
overflow_mul-set c = omega (arith, room c)

pub overflow_add-set : goal.overflow_add-set
overflow_add-set c = omega (arith, c.lowest.ensures, room (goal.at.overflow_add-set c).After-record-y, bit-most c.would_change.result)

pub loop-p-preserved : goal.loop-p-preserved
loop-p-preserved c =
    let member = member-read _ (c.loop-p.p - 1) _ _ _ _ (formed (goal.at.loop-p-preserved c).Then-formed) (omega arith) c.record-x.ensures c.partner.ensures c.record-y.ensures c.would_change.ensures in
    above_more _ _ (c.loop-p.p - 1) c.loop-p.p _ _ _ (omega arith) member c.lowest.ensures c.loop-p.invariant

pub returns-after-loop-p : goal.returns-after-loop-p
returns-after-loop-p c = runnable-gives _ _ (formed (goal.at.returns-after-loop-p c).Then-formed) (above-end _ _ _ _ (omega arith) c.loop-p.invariant)

pub returns-else-formed : goal.returns-else-formed
returns-else-formed c = runnable-refused _ (sym (c.form_end-formed.ensures ∙ c.form.ensures) ∙ c.if-formed.false)
