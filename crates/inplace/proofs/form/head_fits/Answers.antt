use Rattle.inplace.proofs.Fits.{totals-over, totals-left}
use Rattle.inplace.proofs.form.head_fits.Goals as goal

pub returns-then-next-pending : goal.returns-then-next-pending
returns-then-next-pending c = totals-over _ _ _ c.word_at-next.ensures c.if-next-pending.true

pub returns : goal.returns
returns c = totals-left _ _ _ c.word_at-next.ensures c.if-next-pending.false _ _ _ c.long_at.ensures c.long_at-2.ensures c.totals_fit.ensures
