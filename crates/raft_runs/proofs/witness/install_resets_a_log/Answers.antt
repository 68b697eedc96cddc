use Rattle.std.proofs.Common.{◌≡◌, refl, [], ◌∷◌, ◌++◌, Some, slice_get, true}
use Rattle.raft_model.specs.Step.{row}
use Rattle.raft_model.specs.Allowed.{are_allowed}
use Rattle.raft_model.specs.Group.{act, run}
use Rattle.wire_types.specs.declared.envelope.Body.TheVariants as bodies
use Rattle.raft_runs.specs.Runs.{post}
use Rattle.raft_runs.specs.Witness.Groups.{three, after, log_at, terms}
use Rattle.raft_runs.specs.Witness.Starts as starts
use Rattle.raft_runs.proofs.witness.install_resets_a_log.Goals as goal

-- the events are allowed
allowed_shown : are_allowed three (starts.overtaken ++ starts.installs) ≡ true
unfolding act row
allowed_shown = refl

-- host 1 holds an entry of term 1
before_is : terms (log_at (after starts.overtaken three) 1).entries ≡ 1 ∷ []
unfolding run act row
before_is = refl

-- one of term 2 is decided
decided_is : terms (after starts.overtaken three).decided ≡ 2 ∷ []
unfolding run act row
decided_is = refl

-- host 1's log begins at the snapshot
now_is : log_at (after (starts.overtaken ++ starts.installs) three) 1 ≡ record { front = 1; front_term = 2; entries = [] }
unfolding run act row
now_is = refl

-- its answer is the last envelope
answer_is : slice_get (after (starts.overtaken ++ starts.installs) three).wire 14 ≡ Some (post 1 2 2 (bodies.SnapReply 1 2 true))
unfolding run act row
answer_is = refl

pub returns : goal.returns
returns c = record {
  allowed = allowed_shown;
  before = before_is;
  decided = decided_is;
  now = now_is;
  answer = answer_is;
}
