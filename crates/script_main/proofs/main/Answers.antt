-- Reading has gone from the start, and what it printed was written: the passes are those of a program that prints.
use Rattle.std.proofs.Common.{true, subst}
use Rattle.script.specs.Feeding.{SessionState, state_held}
use Rattle.passes.specs.Turns.{AllPasses}
use Rattle.script_main.proofs.main.Goals as goal

pub write_end-requires : goal.write_end-requires
write_end-requires c = subst (λ (s : SessionState). AllPasses true s (state_held c.read_all-read.new.session) c.read_all-read.result) c.start-session.ensures c.read_all-read.ensures
