-- To be believed. Document 01, "What turns a call away", refusal 7, and CRs 3 and 6 of document 02: it is given exactly where `well_formed` is false.
use Rattle.std.specs.Prelude.{◌&&◌}
use Rattle.process.specs.Rules.{partner_of}
use Rattle.process.specs.Fits.{process_fits}
use Rattle.rendezvous.specs.Types.{ℕ, zero, suc, Bool, true, leb, ProcessTable}
use Rattle.rendezvous.specs.Table.{most_processes, process, accounted_for}

-- every number below n passes a test
unfoldable pub all_below : (ℕ → Bool) → ℕ → Bool
all_below test zero = true
all_below test (suc n) = all_below test n && test n

-- not "its n is outside 2 to 32"
unfoldable pub count_fits : ℕ → Bool
count_fits n = leb 2 n && leb n most_processes

-- CR 3: not "a desk with d = 0"
unfoldable pub nap_fits : ℕ → Bool
nap_fits d = leb 1 d

-- process p fits; a kept index at C is held against the posted list of the process that its guard names
unfoldable pub fits_at : ProcessTable → ℕ → Bool
fits_at t p = let x = process t p in process_fits t.head.n t.head.nap p x (process t (partner_of x)).altcount

-- CR 6: not "2 × meetings + withdrawn + open above the next ticket"
unfoldable pub totals_fit : ProcessTable → Bool
totals_fit t = leb (accounted_for t) t.head.next.0

unfoldable pub well_formed : ProcessTable → Bool
well_formed t = count_fits t.head.n && (nap_fits t.head.nap && (all_below (fits_at t) t.head.n && totals_fit t))
