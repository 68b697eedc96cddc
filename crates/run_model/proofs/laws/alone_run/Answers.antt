use Rattle.run_model.proofs.Computed.{alone_is_printed}
use Rattle.run_model.proofs.laws.alone_run.Goals as goal

pub returns : goal.returns
returns c = alone_is_printed
