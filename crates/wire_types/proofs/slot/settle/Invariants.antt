use Rattle.std.proofs.Common.{◌≡◌, ◌++◌}
use Rattle.wire_types.specs.Held.{all_shown}
use Rattle.wire_types.proofs.slot.settle.Given as goal

abbrev pub invariant-loop-slot : goal.invariant-loop-slot
invariant-loop-slot l = l.done.items ≡ l.initial.done.items ++ all_shown l.entries l.yielded
