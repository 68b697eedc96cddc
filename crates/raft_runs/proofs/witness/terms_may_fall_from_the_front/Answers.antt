use Rattle.std.proofs.Common.{true, ◌≡◌, ◌≤◌, refl, arith, [], ◌∷◌}
use Rattle.raft_model.specs.Step.{row}
use Rattle.raft_model.specs.Allowed.{are_allowed}
use Rattle.raft_model.specs.Group.{act, run}
use Rattle.raft_runs.specs.Witness.Groups.{five, after, log_at, terms}
use Rattle.raft_runs.specs.Witness.Sentences.{TermsRiseFromFront}
use Rattle.raft_runs.specs.Witness.Against as against
use Rattle.raft_runs.proofs.witness.terms_may_fall_from_the_front.Goals as goal

-- the events are allowed
allowed_shown : are_allowed five against.falling_front ≡ true
unfolding act row
allowed_shown = refl

-- host 2's log begins at a snapshot that ends in term 2
front_is : (log_at (after against.falling_front five) 2).front_term ≡ 2
unfolding run act row
front_is = refl

-- its entry is of term 1
log_is : terms (log_at (after against.falling_front five) 2).entries ≡ 1 ∷ []
unfolding run act row
log_is = refl

-- the entry's term is below the front's
fails_is : TermsRiseFromFront (after against.falling_front five) → ⊥
unfolding run act row
fails_is = λ m. let rises : 2 ≤ 1 = m 2 2 _ refl in omega (arith, rises)

pub returns : goal.returns
returns c = record { allowed = allowed_shown; front = front_is; log = log_is; fails = fails_is }
