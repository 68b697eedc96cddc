use Rattle.std.proofs.Common.{◌≡◌, ◌<◌, drop}
use Rattle.raft_append.specs.Matching.{greatest_below}
use Rattle.raft_append.proofs.commit.matched_below.Given as goal

abbrev pub invariant-loop-voter : goal.invariant-loop-voter
invariant-loop-voter l = (greatest_below l.matched l.index l.below (drop l.voter-index l.voters) ≡ greatest_below l.matched l.index 0 l.voters) × (l.below < l.index)
