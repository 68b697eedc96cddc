use Rattle.std.proofs.Common.{◌≡◌, true, ◌≤◌, refl, arith, ◌++◌}
use Rattle.raft_model.specs.Step.{row}
use Rattle.raft_model.specs.Allowed.{are_allowed}
use Rattle.raft_model.specs.Group.{act, run}
use Rattle.raft_runs.specs.Witness.Groups.{three, after}
use Rattle.raft_runs.specs.Witness.Sentences.{CommitsStay, TermsStay}
use Rattle.raft_runs.specs.Witness.Against as against
use Rattle.raft_runs.proofs.witness.crashes_take_back.Goals as goal

-- the events are allowed
commit_allowed_shown : are_allowed three (against.committed ++ against.forgets) ≡ true
unfolding act row
commit_allowed_shown = refl

-- the events are allowed
term_allowed_shown : are_allowed three (against.stood ++ against.stands_back) ≡ true
unfolding act row
term_allowed_shown = refl

-- host 1's commit index was 1 and is 0
commit_fails_is : CommitsStay (after against.committed three) (after (against.committed ++ against.forgets) three) → ⊥
unfolding run act row
commit_fails_is = λ m. let stays : 1 ≤ 0 = m 1 in omega (arith, stays)

-- host 1's term was 1 and is 0
term_fails_is : TermsStay (after against.stood three) (after (against.stood ++ against.stands_back) three) → ⊥
unfolding run act row
term_fails_is = λ m. let stays : 1 ≤ 0 = m 1 in omega (arith, stays)

pub returns : goal.returns
returns c = record {
  commit_allowed = commit_allowed_shown;
  term_allowed = term_allowed_shown;
  commit_fails = commit_fails_is;
  term_fails = term_fails_is;
}
