use Rattle.std.proofs.Common.{sym, ap}
use borrow.Author.Tests.{le-ltb}
use Rattle.process.specs.Rules.{Own, scan_from}
use Rattle.records.proofs.rules.slept.Goals as goal

pub returns-else-steps-nap : goal.returns-else-steps-nap
unfolding scan_from
returns-else-steps-nap c = rw (le-ltb _ _ c.if-steps-nap.false) (ap Own (sym c.scanned.ensures))
