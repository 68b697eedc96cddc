use Rattle.run_law.proofs.Rounds.{idle_rounds}
use Rattle.run_law.proofs.idle_rounds_rest.Goals as goal

pub returns : goal.returns
returns c = idle_rounds
