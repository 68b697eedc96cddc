use Rattle.std.proofs.Common.{true, ◌≡◌, refl, [], ◌∷◌, ◌++◌}
use Rattle.raft_model.specs.Step.{row}
use Rattle.raft_model.specs.Allowed.{are_allowed}
use Rattle.raft_model.specs.Group.{act, run, saved_at}
use Rattle.raft_runs.specs.Witness.Groups.{three, after, log_at, terms}
use Rattle.raft_runs.specs.Witness.Starts as starts
use Rattle.raft_runs.proofs.witness.start_keeps_a_whole_batch.Goals as goal

-- the events are allowed
allowed_shown : are_allowed three (starts.half_saved ++ starts.kept_whole) ≡ true
unfolding act row
allowed_shown = refl

-- host 2 has saved no entry
before_is : terms (saved_at (after starts.half_saved three) 2).entries ≡ []
unfolding run act row
before_is = refl

-- it holds one after its start
kept_is : terms (log_at (after (starts.half_saved ++ starts.kept_whole) three) 2).entries ≡ 1 ∷ []
unfolding run act row
kept_is = refl

-- nothing is decided at the crash
undecided_is : terms (after starts.half_saved three).decided ≡ []
unfolding run act row
undecided_is = refl

-- the entry is decided in the end
decided_is : terms (after (starts.half_saved ++ starts.kept_whole) three).decided ≡ 1 ∷ []
unfolding run act row
decided_is = refl

pub returns : goal.returns
returns c = record {
  allowed = allowed_shown;
  before = before_is;
  kept = kept_is;
  undecided = undecided_is;
  decided = decided_is;
}
