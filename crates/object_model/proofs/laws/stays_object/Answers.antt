use Rattle.object_model.proofs.Objects.{first_is_object, stays_object}
use Rattle.object_model.proofs.laws.stays_object.Goals as goal

pub returns : goal.returns
returns c = record { first = first_is_object; stays = stays_object }
