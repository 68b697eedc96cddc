use Rattle.std.proofs.Common.{inr, sym, subst}
use Rattle.raft_model.specs.Group.{Group}
use Rattle.raft_safety.specs.Runs.{HasRun}
use Rattle.group_world.proofs.Events.{none_zero}
use Rattle.group_world.proofs.lane.Lane.new.Goals as goal

pub invariant_of-result : goal.invariant_of-result
invariant_of-result c = (
  inr c.in_ok-begin.ensures.sound,
  λ _. subst (λ (g : Group). HasRun g) (sym c.in_ok-begin.ensures.group) (c.runs_go_on.ensures.begins c.args.group c.args.voters.now (none_zero c.args.voters.now c.requires.hosts)),
)
