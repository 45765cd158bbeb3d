use Rattle.std.proofs.Common.{◌≡◌, ◌+◌, ◌≤◌, List, length}
use Rattle.alternative.specs.Guards.{lent}
use Rattle.alternative.specs.declared.Guard.{Guard}
use Rattle.command.specs.Commands.{guards_in}
use Rattle.command.specs.Private.{fields_after}
use Rattle.command.proofs.GuardFields.{prefixed}
use Rattle.command.proofs.offers.read_guards.Given as goal

-- the guards so far, and those in the rest of the line, are the guards of the line
abbrev pub invariant-loop-rest : goal.invariant-loop-rest
invariant-loop-rest l =
    (gs : List Guard) × (l.list ≡ lent gs) × (length gs + length l.rest ≤ length l.s) × (guards_in (fields_after l.s) ≡ prefixed gs (guards_in (fields_after l.rest)))

abbrev pub decreases-loop-rest : goal.decreases-loop-rest
decreases-loop-rest l = length l.rest
