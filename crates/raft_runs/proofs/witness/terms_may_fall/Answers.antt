use Rattle.std.proofs.Common.{true, ◌≡◌, ◌≤◌, refl, arith, [], ◌∷◌}
use Rattle.raft_model.specs.Step.{row}
use Rattle.raft_model.specs.Allowed.{are_allowed}
use Rattle.raft_model.specs.Group.{act, run}
use Rattle.raft_runs.specs.Witness.Groups.{five, after, log_at, terms}
use Rattle.raft_runs.specs.Witness.Sentences.{TermsRise}
use Rattle.raft_runs.specs.Witness.Against as against
use Rattle.raft_runs.proofs.witness.terms_may_fall.Goals as goal

-- the events are allowed
allowed_shown : are_allowed five against.falling ≡ true
unfolding act row
allowed_shown = refl

-- host 2 holds entries of terms 2, 1 and 3
log_is : terms (log_at (after against.falling five) 2).entries ≡ 2 ∷ 1 ∷ 3 ∷ []
unfolding run act row
log_is = refl

-- the second one's term is below the first one's
fails_is : TermsRise (after against.falling five) → ⊥
unfolding run act row
fails_is = λ m. let rises : 2 ≤ 1 = m 2 1 2 _ _ (omega arith) refl refl in omega (arith, rises)

pub returns : goal.returns
returns c = record { allowed = allowed_shown; log = log_is; fails = fails_is }
