use Rattle.exports.proofs.Chains.{by-calls}
use Rattle.exports.proofs.script_by_calls.Goals as goal

pub returns : goal.returns
returns c = by-calls
