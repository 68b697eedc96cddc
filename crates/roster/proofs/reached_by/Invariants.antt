use Rattle.std.proofs.Common.{◌≡◌, ◌<◌, ℕ, length, nat_le}
use Rattle.roster.specs.Roster.{at, is_set}
use Rattle.roster.proofs.reached_by.Given as goal

abbrev pub invariant-loop-place : goal.invariant-loop-place
invariant-loop-place l = (length l.set ≡ 10) × ((v : ℕ) → v < l.place → is_set l.set v ≡ nat_le l.least (at l.table v))
