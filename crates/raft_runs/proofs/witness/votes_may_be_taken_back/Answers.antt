use Rattle.std.proofs.Common.{true, ◌≡◌, refl, arith, ◌++◌}
use Rattle.raft_model.specs.Step.{row}
use Rattle.raft_model.specs.Allowed.{are_allowed}
use Rattle.raft_model.specs.Group.{act, run}
use Rattle.raft_runs.specs.Witness.Groups.{three, after}
use Rattle.raft_runs.specs.Witness.Sentences.{VotesStay}
use Rattle.raft_runs.specs.Witness.Against as against
use Rattle.raft_runs.proofs.witness.votes_may_be_taken_back.Goals as goal

-- the events are allowed
allowed_shown : are_allowed three (against.voted ++ against.votes_again) ≡ true
unfolding act row
allowed_shown = refl

-- host 3's vote in term 1 was its own and is host 1's
fails_is : VotesStay (after against.voted three) (after (against.voted ++ against.votes_again) three) → ⊥
unfolding run act row
fails_is = λ m. let stays : 1 ≡ 3 = m 3 (λ none. omega (arith, none)) refl in omega (arith, stays)

pub returns : goal.returns
returns c = record { allowed = allowed_shown; fails = fails_is }
