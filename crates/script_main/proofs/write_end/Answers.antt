use Rattle.passes.proofs.Turns.{program-ends}
use Rattle.script_main.proofs.write_end.Goals as goal

pub returns : goal.returns
returns c = program-ends _ _ _ c.at_end.ensures
