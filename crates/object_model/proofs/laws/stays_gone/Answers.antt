use Rattle.object_model.proofs.Gone.{stays_gone}
use Rattle.object_model.proofs.laws.stays_gone.Goals as goal

pub returns : goal.returns
returns c = stays_gone
