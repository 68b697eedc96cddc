use Rattle.std.proofs.Common.{◌≡◌, ◌≤◌, ◌+◌, drop}
use Rattle.log_view.specs.Log.{laid, last}
use Rattle.raft_append.proofs.laying.first_new.Given as goal

abbrev pub invariant-loop-entry : goal.invariant-loop-entry
invariant-loop-entry l =
    (l.place ≡ l.entry-index)
    × (laid l.log l.commit (l.prev + l.entry-index) (drop l.entry-index l.entries) ≡ laid l.log l.commit l.prev l.entries)
    × (l.prev + l.entry-index ≤ last l.log)
