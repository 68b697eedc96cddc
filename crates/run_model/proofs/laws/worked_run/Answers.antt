use Rattle.run_model.proofs.Computed.{script_printed}
use Rattle.run_model.proofs.laws.worked_run.Goals as goal

pub returns : goal.returns
returns c = script_printed
