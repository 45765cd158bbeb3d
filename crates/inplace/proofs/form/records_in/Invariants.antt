use Rattle.std.proofs.Common.{◌≡◌, true}
use Rattle.rendezvous.specs.WellFormed.{all_below, fits_at}
use Rattle.rendezvous.proofs.Forms.{open_below}
use Rattle.inplace.specs.Reading.{table_of}
use Rattle.inplace.proofs.form.records_in.Given as goal

-- the records before p fit, and so many of their offers are open
abbrev pub invariant-loop-p : goal.invariant-loop-p
invariant-loop-p l = (all_below (fits_at (table_of l.t)) l.p ≡ true) × (l.pending ≡ open_below (table_of l.t) l.p)
