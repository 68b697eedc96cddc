use Rattle.object_model.proofs.Registers.{raised_is_greatest}
use Rattle.object_model.proofs.laws.raised_is_greatest.Goals as goal

pub returns : goal.returns
returns c = raised_is_greatest
