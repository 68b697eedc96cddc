use Rattle.std.proofs.Common.{◌≡◌, true, ◌≤◌, refl, arith}
use Rattle.raft_model.specs.Step.{row}
use Rattle.raft_model.specs.Allowed.{are_allowed}
use Rattle.raft_model.specs.Group.{act, run}
use Rattle.raft_runs.specs.Witness.Groups.{three, after}
use Rattle.raft_runs.specs.Witness.Sentences.{LogsInTerm, VotesInTerm}
use Rattle.raft_runs.specs.Witness.Against as against
use Rattle.raft_runs.proofs.witness.logs_may_end_in_later_terms.Goals as goal

-- the events are allowed
allowed_shown : are_allowed three against.above ≡ true
unfolding act row
allowed_shown = refl

-- host 2 is in term 1 and its log ends in term 2
fails_is : LogsInTerm (after against.above three) → ⊥
unfolding run act row
fails_is = λ m. let within : 2 ≤ 1 = m 2 in omega (arith, within)

-- the last envelope asks for votes in term 1 with a log that ends in term 2
votes_fail_is : VotesInTerm (after against.above three) → ⊥
unfolding run act row
votes_fail_is = λ m. let within : 2 ≤ 1 = m 10 1 2 _ refl refl in omega (arith, within)

pub returns : goal.returns
returns c = record { allowed = allowed_shown; fails = fails_is; votes_fail = votes_fail_is }
