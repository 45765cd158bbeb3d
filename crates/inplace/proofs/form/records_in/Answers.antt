use Rattle.std.proofs.Common.{◌≡◌, refl, ap, ◌∙◌, arith, Some}
use Rattle.rendezvous.specs.Table.{count_below}
use Rattle.rendezvous.specs.WellFormed.{all_below, fits_at}
use Rattle.rendezvous.proofs.Open.{open-most, open_more}
use Rattle.inplace.specs.Reading.{table_of}
use Rattle.inplace.proofs.Fits.{fits_by, all_more, all-not, open_at, open-all}
use Rattle.inplace.proofs.Rows.{row-lent}
use Rattle.inplace.proofs.form.records_in.Goals.{then-is_open, else-is_open}
use Rattle.inplace.proofs.form.records_in.Goals as goal

pub loop-p-init : goal.loop-p-init
unfolding all_below count_below
loop-p-init c = (refl, refl)

pub returns-then-not-record_fits-kept_fits : goal.returns-then-not-record_fits-kept_fits
returns-then-not-record_fits-kept_fits c =
    let s = c.args in
    let t = s.t.now in
    let l = c.loop-p in
    let tested = fits_by t s.n s.nap l.p c.requires.2 c.requires.3 c.requires.1 (omega arith) _ (row-lent t l.p) _ _ c.record_fits.ensures c.kept_fits.ensures in
    rw (← all-not (fits_at (table_of t)) l.p s.n (omega arith) (tested ∙ c.if-not-record_fits-kept_fits.true))

pub overflow_add-pending : goal.overflow_add-pending
overflow_add-pending c =
    let l = c.loop-p in
    omega (arith, l.invariant, c.requires, open-most (table_of c.args.t.now) l.p)

pub loop-p-preserved : goal.loop-p-preserved
loop-p-preserved c =
    let s = c.args in
    let t = s.t.now in
    let l = c.loop-p in
    let tested = fits_by t s.n s.nap l.p c.requires.2 c.requires.3 c.requires.1 (omega arith) _ (row-lent t l.p) _ _ c.record_fits.ensures c.kept_fits.ensures in
    let o = c.is_open.ensures ∙ open_at t l.p (omega (arith, l.invariant, c.requires)) _ (row-lent t l.p) in
    let more = open_more (table_of t) l.p l.pending c.is_open.result l.invariant.1 o in (
      all_more (fits_at (table_of t)) l.p l.invariant.0 (tested ∙ c.if-not-record_fits-kept_fits.false),
      elim c.if-is_open.branch [
        | then-is_open w ↦ w.pending-is ∙ (rw w.if-is_open.true at more)
        | else-is_open w ↦ w.pending-is ∙ (rw w.if-is_open.false at more)
      ],
    )

pub returns : goal.returns
returns c =
    let l = c.loop-p in
    let e : l.p ≡ c.args.n = omega arith in
    rw (← e, l.invariant.0) (ap Some (l.invariant.1 ∙ open-all c.args.t.now l.p (e ∙ c.requires.2)))
