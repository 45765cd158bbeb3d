use Rattle.std.proofs.Common.{ℕ}
use Rattle.records.proofs.Guards.{Left}
use Rattle.records.proofs.fits.partners_fit.Given as goal

-- what is known after k partners
abbrev pub invariant-loop-k : goal.invariant-loop-k
invariant-loop-k l = (b : ℕ) → Left l.r l.at b l.n l.p l.count l.ok l.k
