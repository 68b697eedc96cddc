use Rattle.std.proofs.Common.{◌≡◌, ◌≤◌, ◌-◌}
use Rattle.log_view.specs.Log.{last}
use Rattle.raft_model.specs.Replica.{greatest, may_commit}
use Rattle.raft_append.proofs.commit.commit_candidate.Given as goal

abbrev pub decreases-loop-left : goal.decreases-loop-left
decreases-loop-left l = l.left

abbrev pub invariant-loop-left : goal.invariant-loop-left
invariant-loop-left l =
    (greatest (may_commit l.voters l.progress.matched l.log l.term) l.commit l.left
    ≡ greatest (may_commit l.voters l.progress.matched l.log l.term) l.commit (last l.log - l.commit))
    × (l.left ≤ last l.log - l.commit)
