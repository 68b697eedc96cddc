use Rattle.std.proofs.Common.{◌≡◌, true, ◌≤◌, refl, arith}
use Rattle.raft_model.specs.Step.{row}
use Rattle.raft_model.specs.Allowed.{are_allowed}
use Rattle.raft_model.specs.Group.{act, run}
use Rattle.raft_runs.specs.Witness.Groups.{five, after}
use Rattle.raft_runs.specs.Witness.Sentences.{MatchedOwned}
use Rattle.raft_runs.specs.Witness.Against as against
use Rattle.raft_runs.proofs.witness.matched_need_not_be_owned.Goals as goal

-- the events are allowed
allowed_shown : are_allowed five against.overmatched ≡ true
unfolding act row
allowed_shown = refl

-- host 5 has matched 2 of host 2, and its own log ends at 1
fails_is : MatchedOwned (after against.overmatched five) → ⊥
unfolding run act row
fails_is = λ m. let within : 2 ≤ 1 = m 5 2 refl in omega (arith, within)

pub returns : goal.returns
returns c = record { allowed = allowed_shown; fails = fails_is }
