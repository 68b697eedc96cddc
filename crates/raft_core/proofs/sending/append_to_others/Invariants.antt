use Rattle.std.proofs.Common.{◌≡◌, drop}
use Rattle.raft_model.specs.Replica.{each_other, append_to}
use Rattle.raft_core.proofs.sending.append_to_others.Given as goal

abbrev pub invariant-loop-voter : goal.invariant-loop-voter
invariant-loop-voter l = each_other l.seat.me (append_to l.seat) (drop l.voter-index l.seat.voters) l.r ≡ each_other l.seat.me (append_to l.seat) l.seat.voters l.initial.r
