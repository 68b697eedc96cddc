use Rattle.object_model.proofs.Standing.{stands_from_front}
use Rattle.object_model.proofs.laws.stands_from_front.Goals as goal

pub returns : goal.returns
returns c = stands_from_front
