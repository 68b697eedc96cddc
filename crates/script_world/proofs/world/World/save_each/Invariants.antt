use Rattle.std.proofs.Common.{drop}
use Rattle.run_model.specs.Run.{save_each}
use Rattle.script_world.specs.World.{world_of}
use Rattle.script_world.proofs.Settles.{Remains}
use Rattle.script_world.proofs.world.World.save_each.Given as goal

abbrev pub invariant-loop-host : goal.invariant-loop-host
invariant-loop-host l = Remains (save_each (drop l.host-index l.hosts) l.size (world_of l.self)) (save_each l.hosts l.size (world_of l.initial.self)) l.out l.initial.out
