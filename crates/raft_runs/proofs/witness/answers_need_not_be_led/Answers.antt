use Rattle.std.proofs.Common.{◌≡◌, refl, sym, Some, slice_get, true, false, true≢false}
use Rattle.raft_model.specs.Step.{row}
use Rattle.raft_model.specs.Allowed.{are_allowed}
use Rattle.raft_model.specs.Group.{act, run}
use Rattle.wire_types.specs.declared.envelope.Body.TheVariants as bodies
use Rattle.raft_runs.specs.Runs.{post}
use Rattle.raft_runs.specs.Witness.Groups.{three, after}
use Rattle.raft_runs.specs.Witness.Sentences.{AnswersAreLed}
use Rattle.raft_runs.specs.Witness.Against as against
use Rattle.raft_runs.proofs.witness.answers_need_not_be_led.Goals as goal

-- the events are allowed
allowed_shown : are_allowed three against.unled ≡ true
unfolding act row
allowed_shown = refl

-- host 2 answers in term 2
answer_is : slice_get (after against.unled three).wire 10 ≡ Some (post 2 1 2 (bodies.SnapReply 1 2 true))
unfolding run act row
answer_is = refl

-- nobody was noted to lead term 2
fails_is : AnswersAreLed (run against.unled three) → ⊥
unfolding run act row
fails_is = λ m. let led : false ≡ true = m 10 1 2 _ refl refl in true≢false (sym led)

pub returns : goal.returns
returns c = record { allowed = allowed_shown; answer = answer_is; fails = fails_is }
