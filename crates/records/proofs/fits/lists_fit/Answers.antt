use borrow.Author.Tests.{eqb-true}
use Rattle.alternative.proofs.Tests.{and_parts}
use Rattle.wire.specs.Reading.{byte}
use Rattle.process.specs.Fits.{list_fits, all_guards}
use Rattle.records.specs.Layout.{own_at, posted_at}
use Rattle.records.proofs.fits.lists_fit.Goals as goal

pub returns-then-count-altcount : goal.returns-then-count-altcount
unfolding list_fits all_guards
returns-then-count-altcount c =
    let both = and_parts _ _ c.if-count-altcount.true in
    let r = c.args.r.now in
    rw (eqb-true (byte r 5) 0 both.0, eqb-true (byte r 6) 0 both.1)

pub returns : goal.returns
returns c = rw (c.partners_fit.ensures own_at, c.partners_fit-2.ensures posted_at)
