use Rattle.std.proofs.Common.{drop}
use Rattle.run_model.specs.Run.{apply_each}
use Rattle.script_world.specs.World.{world_of}
use Rattle.script_world.proofs.Settles.{Remains}
use Rattle.script_world.proofs.world.World.apply_each.Given as goal

abbrev pub invariant-loop-host : goal.invariant-loop-host
invariant-loop-host l = Remains (apply_each (drop l.host-index l.hosts) l.size (world_of l.self)) (apply_each l.hosts l.size (world_of l.initial.self)) l.out l.initial.out
