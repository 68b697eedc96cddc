use Rattle.std.proofs.Common.{◌≡◌, length}
use Rattle.raft_core.specs.Confirming.{confirm_from}
use Rattle.raft_core.proofs.reading.confirm_each.Given as goal

abbrev pub invariant-loop-read : goal.invariant-loop-read
invariant-loop-read l = confirm_from l.seat l.r l.notes.items ≡ confirm_from l.seat l.initial.r l.initial.notes.items

abbrev pub decreases-loop-read : goal.decreases-loop-read
decreases-loop-read l = length l.r.reads.waiting
