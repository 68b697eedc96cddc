use Rattle.std.proofs.Common.{true, ◌≡◌, refl, ap, arith, [], ◌∷◌, ◌++◌}
use Rattle.raft_model.specs.Step.{row}
use Rattle.raft_model.specs.Allowed.{are_allowed}
use Rattle.raft_model.specs.Group.{act, run, replica_at}
use Rattle.raft_model.specs.Replica.{ripe}
use Rattle.raft_runs.specs.Witness.Groups.{five, after, log_at, terms}
use Rattle.raft_runs.specs.Witness.Sentences.{LogsMatch}
use Rattle.raft_runs.specs.Witness.Against as against
use Rattle.raft_runs.proofs.witness.logs_need_not_match.Goals as goal

-- the events are allowed
allowed_shown : are_allowed five (against.heard ++ against.unmatched) ≡ true
unfolding act row
allowed_shown = refl

-- host 2 may apply place 1 before it crashes
applied_is : ripe (replica_at (after against.heard five) 2) ≡ 1
unfolding run act row
applied_is = refl

-- places of terms 1 and 3 are decided
decided_is : terms (after (against.heard ++ against.unmatched) five).decided ≡ 1 ∷ 3 ∷ []
unfolding run act row
decided_is = refl

-- host 2 holds entries of terms 1 and 2
follower_is : terms (log_at (after (against.heard ++ against.unmatched) five) 2).entries ≡ 1 ∷ 2 ∷ []
unfolding run act row
follower_is = refl

-- host 5 holds two entries of term 2
leader_is : terms (log_at (after (against.heard ++ against.unmatched) five) 5).entries ≡ 2 ∷ 2 ∷ []
unfolding run act row
leader_is = refl

-- places 2 of hosts 2 and 5 are of term 2, and their places 1 of terms 1 and 2
fails_is : LogsMatch (after (against.heard ++ against.unmatched) five) → ⊥
unfolding run act row
fails_is = λ m. let same : 1 ≡ 2 = ap (λ e. e.term) (m 2 5 2 1 _ _ _ _ refl refl refl (omega arith) refl refl) in omega (arith, same)

pub returns : goal.returns
returns c = record {
  allowed = allowed_shown;
  applied = applied_is;
  decided = decided_is;
  follower = follower_is;
  leader = leader_is;
  fails = fails_is;
}
