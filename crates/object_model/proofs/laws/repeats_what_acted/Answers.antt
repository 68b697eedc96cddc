use Rattle.object_model.proofs.Repeats.{repeats_what_acted}
use Rattle.object_model.proofs.laws.repeats_what_acted.Goals as goal

pub returns : goal.returns
returns c = repeats_what_acted
