use Rattle.std.proofs.Common.{◌≡◌, ◌≤◌, take, length}
use Rattle.object_model.specs.Mark.{entries}
use Rattle.object_model.proofs.legal.count_shown.Given as goal

abbrev pub invariant-loop-mark : goal.invariant-loop-mark
invariant-loop-mark l = (l.count ≡ length (entries (take l.mark-index l.marks))) × (l.count ≤ l.mark-index)
