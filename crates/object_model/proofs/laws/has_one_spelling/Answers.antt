use Rattle.object_model.proofs.Spelling.{has_one_spelling}
use Rattle.object_model.proofs.laws.has_one_spelling.Goals as goal

pub returns : goal.returns
returns c = has_one_spelling
