use Rattle.std.proofs.Common.{◌≡◌, ◌++◌, drop}
use Rattle.group_world.proofs.moves.extend.Given as goal

abbrev pub invariant-loop-entry : goal.invariant-loop-entry
invariant-loop-entry l = l.list.items ++ drop l.entry-index l.more ≡ l.fn.list.items ++ l.more
