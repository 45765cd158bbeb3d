use Rattle.std.proofs.Common.{rules, refl, ap, not}
use Rattle.process.proofs.Movers.{changes-told}
use Rattle.process.proofs.moving.would_change.Goals as goal

pub returns-in-Scanning : goal.returns-in-Scanning
returns-in-Scanning c = changes-told _ _ _ _ c.in-Scanning.is (ap not c.is_held.ensures)

pub returns-in-Waiting : goal.returns-in-Waiting
returns-in-Waiting c = changes-told _ _ _ _ c.in-Waiting.is c.is_some.ensures

pub returns-in-Idle : goal.returns-in-Idle
returns-in-Idle c = changes-told _ _ _ _ refl (search rules)

pub returns-in-Entering : goal.returns-in-Entering
returns-in-Entering c = changes-told _ _ _ _ refl (search rules)
