use Rattle.rendezvous.proofs.Forms.{forms-are-well-formed}
use Rattle.rendezvous.proofs.forms_are_well_formed.Goals as goal

pub returns : goal.returns
returns c = forms-are-well-formed
