use Rattle.std.proofs.Common.{◌≡◌, ◌++◌, map, take}
use Rattle.run_model.specs.Run.{entry_told, text_of}
use Rattle.script_world.specs.World.{world_of}
use Rattle.script_world.proofs.ending.print_entries.Given as goal

abbrev pub invariant-loop-entry : goal.invariant-loop-entry
invariant-loop-entry l = l.out ≡ l.initial.out ++ text_of (map (entry_told (world_of l.world)) (take l.entry-index l.entries))
