use Rattle.std.proofs.Common.{◌≡◌, ◌≤◌, ◌+◌, drop}
use Rattle.roster.specs.Roster.{is_set, count}
use Rattle.roster.proofs.has_majority.Given as goal

abbrev pub invariant-loop-voter : goal.invariant-loop-voter
invariant-loop-voter l = (l.number + count (is_set l.set) (drop l.voter-index l.voters) ≡ count (is_set l.set) l.voters) × (l.number ≤ l.voter-index)
