use Rattle.std.proofs.Common.{◌≡◌, take}
use Rattle.object_model.specs.Mark.{entries}
use Rattle.object_model.proofs.legal.entries.Given as goal

abbrev pub invariant-loop-mark : goal.invariant-loop-mark
invariant-loop-mark l = l.list.items ≡ entries (take l.mark-index l.marks)
