use Rattle.run_model.proofs.Computed.{twice_is_printed}
use Rattle.run_model.proofs.laws.twice_run.Goals as goal

pub returns : goal.returns
returns c = twice_is_printed
