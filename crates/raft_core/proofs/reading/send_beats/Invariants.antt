use Rattle.std.proofs.Common.{◌≡◌, drop}
use Rattle.std.specs.Prelude.{min}
use Rattle.wire_types.specs.declared.envelope.Body.TheVariants as bodies
use Rattle.roster.specs.Roster.{at}
use Rattle.raft_model.specs.Replica.{each_other, sent}
use Rattle.raft_model.specs.Reading.{beats}
use Rattle.raft_core.proofs.reading.send_beats.Given as goal

abbrev pub invariant-loop-voter : goal.invariant-loop-voter
invariant-loop-voter l = each_other l.seat.me (λ v q. sent l.seat v (bodies.Beat (min (at q.matched v) q.commit) q.reads.round) q) (drop l.voter-index l.seat.voters) l.r ≡ beats l.seat l.initial.r
