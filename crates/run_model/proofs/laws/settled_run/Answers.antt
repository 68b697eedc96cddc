use Rattle.run_model.proofs.Computed.{settling_printed}
use Rattle.run_model.proofs.laws.settled_run.Goals as goal

pub returns : goal.returns
returns c = settling_printed
