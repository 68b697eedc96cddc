use Rattle.raft_safety.proofs.Laws.OneList.{one_list}
use Rattle.raft_safety.proofs.Laws.Rows.{stays_kept}
use Rattle.raft_safety.proofs.Laws.Runs.{runs, acts}
use Rattle.raft_safety.proofs.Reading.Events.{acts_fronted}
use Rattle.raft_safety.proofs.runs_as_one.Goals as goal

pub returns : goal.returns
returns c = record { runs = runs (one_list stays_kept); acts = acts (one_list stays_kept); fronts = acts_fronted stays_kept }
