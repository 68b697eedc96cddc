use Rattle.std.proofs.Common.{sym, ◌∙◌}
use Rattle.raft_core.proofs.Steps.{settled_replica, settled_notes, settled_sent}
use Rattle.raft_core.proofs.replica.save.Goals as goal

pub returns-in_ok-notes-in-Some-clause-replica : goal.returns-in_ok-notes-in-Some-clause-replica
returns-in_ok-notes-in-Some-clause-replica c p e =
    settled_replica c.args.seat.now c.args.r.now c.settle.new.r p c.in-Some.mark e (sym c.pending_mark.ensures ∙ c.in-Some.is) c.in_ok-notes-in-Some.ensures.replica

pub returns-in_ok-notes-in-Some-clause-notes : goal.returns-in_ok-notes-in-Some-clause-notes
returns-in_ok-notes-in-Some-clause-notes c p e =
    settled_notes c.args.seat.now c.args.r.now c.in_ok-notes-in-Some.notes.items p c.in-Some.mark e (sym c.pending_mark.ensures ∙ c.in-Some.is) c.in_ok-notes-in-Some.ensures.notes

pub returns-in_ok-notes-in-Some-clause-sent : goal.returns-in_ok-notes-in-Some-clause-sent
returns-in_ok-notes-in-Some-clause-sent c p e =
    settled_sent c.args.seat.now c.args.r.now c.args.out.now.items c.settle.new.out.items p c.in-Some.mark e (sym c.pending_mark.ensures ∙ c.in-Some.is) (c.in_ok-notes-in-Some.ensures.sent p e)
