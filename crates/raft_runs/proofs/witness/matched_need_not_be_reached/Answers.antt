use Rattle.std.proofs.Common.{◌≡◌, true, ◌≤◌, refl, arith}
use Rattle.raft_model.specs.Step.{row}
use Rattle.raft_model.specs.Allowed.{are_allowed}
use Rattle.raft_model.specs.Group.{act, run}
use Rattle.raft_runs.specs.Witness.Groups.{five, after}
use Rattle.raft_runs.specs.Witness.Sentences.{MatchedReached}
use Rattle.raft_runs.specs.Witness.Against as against
use Rattle.raft_runs.proofs.witness.matched_need_not_be_reached.Goals as goal

-- the events are allowed
allowed_shown : are_allowed five against.matched ≡ true
unfolding act row
allowed_shown = refl

-- host 5 has matched 2 of host 2, whose log ends at 1
fails_is : MatchedReached (after against.matched five) → ⊥
unfolding run act row
fails_is = λ m. let reached : 2 ≤ 1 = m 5 2 refl refl in omega (arith, reached)

pub returns : goal.returns
returns c = record { allowed = allowed_shown; fails = fails_is }
