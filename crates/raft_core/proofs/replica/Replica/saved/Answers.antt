use Rattle.std.proofs.Common.{◌≡◌, ◌++◌, Some, subst}
use Rattle.raft_model.specs.declared.state.Pending.{Pending}
use Rattle.raft_model.specs.Step.{saved}
use Rattle.raft_core.specs.Core.{Core}
use Rattle.raft_core.proofs.replica.Replica.saved.Goals as goal

pub returns-clause-replica : goal.returns-clause-replica
returns-clause-replica c = subst (λ (v : Core). (p : Pending) → v.state.pending ≡ Some p → c.save.new.r ≡ (saved v.seat p v.state).replica) c.self.view_is c.in_ok-notes.ensures.replica

pub returns-clause-sent : goal.returns-clause-sent
returns-clause-sent c = subst (λ (v : Core). (p : Pending) → v.state.pending ≡ Some p → c.save.new.out.items ≡ v.out ++ (saved v.seat p v.state).sent) c.self.view_is c.in_ok-notes.ensures.sent
