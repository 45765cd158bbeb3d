use Rattle.std.proofs.Common.{arith}
use Rattle.records.proofs.Guards.{left-start, left-more, left_end}
use Rattle.records.proofs.fits.partners_fit.Goals as goal

pub loop-k-init : goal.loop-k-init
loop-k-init c = let a = c.args in λ b. left-start a.r.now a.at b a.n a.p a.count

pub loop-k-preserved : goal.loop-k-preserved
loop-k-preserved c =
    let a = c.args in
    let l = c.loop-k in
    λ b. left-more a.r.now a.at b a.n a.p a.count l.ok l.k (omega arith) (l.invariant b)

pub returns : goal.returns
returns c =
    let a = c.args in
    let l = c.loop-k in
    λ b. left_end a.r.now a.at b a.n a.p a.count l.ok l.k (omega arith) (l.invariant b)
