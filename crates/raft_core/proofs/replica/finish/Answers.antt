use Rattle.std.proofs.Common.{◌∙◌, None, ap, sym, subst}
use Rattle.raft_model.specs.declared.state.State.{State}
use Rattle.raft_core.specs.Range.{Holds}
use Rattle.raft_core.proofs.Steps.{saved_holds}
use Rattle.raft_core.proofs.replica.finish.Goals as goal

pub returns-clause-holds : goal.returns-clause-holds
returns-clause-holds c =
    subst (λ (r : State). Holds r) (sym (c.take_envelopes.ensures.replica ∙ ap (λ (r : State). record r { pending = None }) c.in_ok-led.ensures.replica))
    (saved_holds c.args.mark c.args.seat.now c.args.r.now c.alloc.ensures.host c.requires.range c.requires.holds)
