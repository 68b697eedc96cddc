use Rattle.object_model.proofs.Deciding.{decides_legal}
use Rattle.object_model.proofs.laws.decides_legal.Goals as goal

pub returns : goal.returns
returns c = decides_legal
