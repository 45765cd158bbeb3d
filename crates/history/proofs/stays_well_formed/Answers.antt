use Rattle.history.proofs.Claimed.{stays-well-formed}
use Rattle.history.proofs.stays_well_formed.Goals as goal

pub returns : goal.returns
returns c = stays-well-formed
