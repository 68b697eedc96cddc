use Rattle.object_model.proofs.Reading.{reads_back, spells_one}
use Rattle.object_model.proofs.laws.images_are_read.Goals as goal

pub returns : goal.returns
returns c = record { back = reads_back; one = spells_one }
