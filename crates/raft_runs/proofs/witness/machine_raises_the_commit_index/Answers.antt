use Rattle.std.proofs.Common.{true, ◌≡◌, refl, ◌++◌}
use Rattle.raft_model.specs.Step.{row}
use Rattle.raft_model.specs.Allowed.{are_allowed}
use Rattle.raft_model.specs.Group.{act, run, replica_at, saved_at}
use Rattle.raft_runs.specs.Witness.Groups.{three, after}
use Rattle.raft_runs.specs.Witness.Starts as starts
use Rattle.raft_runs.proofs.witness.machine_raises_the_commit_index.Goals as goal

-- the events are allowed
allowed_shown : are_allowed three (starts.applied ++ starts.starts_applied) ≡ true
unfolding act row
allowed_shown = refl

-- host 2 has saved no commit index
saved_is : (saved_at (after (starts.applied ++ starts.starts_applied) three) 2).commit ≡ 0
unfolding run act row
saved_is = refl

-- it begins with that of its machine
commit_is : (replica_at (after (starts.applied ++ starts.starts_applied) three) 2).commit ≡ 1
unfolding run act row
commit_is = refl

pub returns : goal.returns
returns c = record { allowed = allowed_shown; saved = saved_is; commit = commit_is }
