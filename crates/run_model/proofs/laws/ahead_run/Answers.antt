use Rattle.run_model.proofs.Computed.{ahead_is_printed}
use Rattle.run_model.proofs.laws.ahead_run.Goals as goal

pub returns : goal.returns
returns c = ahead_is_printed
