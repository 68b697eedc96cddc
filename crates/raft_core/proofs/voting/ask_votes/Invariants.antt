use Rattle.std.proofs.Common.{◌≡◌, drop}
use Rattle.wire_types.specs.declared.envelope.Body.TheVariants as bodies
use Rattle.log_view.specs.Log.{last, last_term}
use Rattle.raft_model.specs.Replica.{each_other, sent}
use Rattle.raft_model.specs.Voting.{asked_votes}
use Rattle.raft_core.proofs.voting.ask_votes.Given as goal

abbrev pub invariant-loop-voter : goal.invariant-loop-voter
invariant-loop-voter l = each_other l.seat.me (λ v q. sent l.seat v (bodies.Vote (last q.log) (last_term q.log)) q) (drop l.voter-index l.seat.voters) l.r ≡ asked_votes l.seat l.initial.r
