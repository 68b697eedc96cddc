use Rattle.run_model.proofs.Computed.{handing_on_is_printed}
use Rattle.run_model.proofs.laws.handing_on_run.Goals as goal

pub returns : goal.returns
returns c = handing_on_is_printed
