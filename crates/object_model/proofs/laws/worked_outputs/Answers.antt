use Rattle.object_model.proofs.Computed.{evicting_legal, responding_legal}
use Rattle.object_model.proofs.laws.worked_outputs.Goals as goal

pub returns : goal.returns
returns c = record { evicting = evicting_legal; responding = responding_legal }
