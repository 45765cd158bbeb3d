use Rattle.std.specs.Prelude.{Ok}
use Rattle.std.proofs.Common.{◌≡◌, drop}
use Rattle.rendezvous.specs.Refusals.{require_guards}
use Rattle.rendezvous.proofs.refusals.guards_verdict.Given as goal

-- the tests of the whole list give what the tests of the rest give
abbrev pub invariant-loop-g : goal.invariant-loop-g
invariant-loop-g l = require_guards l.n l.p l.guards (Ok tt) ≡ require_guards l.n l.p (drop l.g-index l.guards) (Ok tt)
