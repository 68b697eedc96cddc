use Rattle.run_model.proofs.Computed.{showing_is_printed}
use Rattle.run_model.proofs.laws.showing_run.Goals as goal

pub returns : goal.returns
returns c = showing_is_printed
