use Rattle.object_model.proofs.Onces.{acts_once}
use Rattle.object_model.proofs.laws.acts_once.Goals as goal

pub returns : goal.returns
returns c = acts_once
