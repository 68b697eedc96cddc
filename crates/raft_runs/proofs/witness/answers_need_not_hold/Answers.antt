use Rattle.std.proofs.Common.{◌≡◌, refl, ap, arith, ◌++◌, true}
use Rattle.raft_model.specs.Step.{row}
use Rattle.raft_model.specs.Allowed.{are_allowed}
use Rattle.raft_model.specs.Group.{act, run}
use Rattle.wire_types.specs.declared.envelope.Body.TheVariants as bodies
use Rattle.raft_runs.specs.Runs.{post}
use Rattle.raft_runs.specs.Witness.Groups.{five, after}
use Rattle.raft_runs.specs.Witness.Sentences.{AnswersHold}
use Rattle.raft_runs.specs.Witness.Against as against
use Rattle.raft_runs.proofs.witness.answers_need_not_hold.Goals as goal

-- the events are allowed
allowed_shown : are_allowed five (against.heard ++ against.unmatched ++ against.answered) ≡ true
unfolding act row
allowed_shown = refl

-- the last envelope is host 2's answer for place 2 to host 5, and their places 1 are of terms 1 and 2
fails_is : AnswersHold (after (against.heard ++ against.unmatched ++ against.answered) five) → ⊥
unfolding run act row
fails_is = λ m.
    let same : 1 ≡ 2 = ap (λ e. e.term) (m 50 2 1 (post 2 5 2 (bodies.AppendReply true 2)) _ _ refl refl refl refl refl (omega arith) refl refl) in omega (arith, same)

pub returns : goal.returns
returns c = record { allowed = allowed_shown; fails = fails_is }
