use Rattle.object_model.proofs.Joining.{moves_are_legal, moves_show_nothing, moves_join}
use Rattle.object_model.proofs.laws.moves_are_legal.Goals as goal

pub returns : goal.returns
returns c = record { legal = moves_are_legal; shown = moves_show_nothing; join = moves_join }
