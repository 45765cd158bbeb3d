use Rattle.std.proofs.Common.{◌≤◌}
use Rattle.meter.proofs.meter_calls.Given as goal

abbrev pub invariant-loop : goal.invariant-loop
invariant-loop l = l.turn ≤ 13
