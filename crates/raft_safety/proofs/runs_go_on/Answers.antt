use Rattle.raft_safety.proofs.Laws.Runs.{begins, goes_on}
use Rattle.raft_safety.proofs.runs_go_on.Goals as goal

pub returns : goal.returns
returns c = record { begins = begins; goes_on = goes_on }
