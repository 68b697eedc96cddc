use Rattle.std.proofs.Common.{◌<◌, ◌+◌, ◌^◌}
use Rattle.run_model.specs.Run.{deliver_each, unsettled}
use Rattle.script_world.specs.World.{world_of}
use Rattle.script_world.proofs.Settles.{Remains}
use Rattle.script_world.proofs.world.World.deliver_each.Given as goal

abbrev pub invariant-wire : goal.invariant-wire
invariant-wire l = record {
  room : l.self.settled + l.left < 2 ^ 64;
  rest : Remains (deliver_each l.left l.size (world_of l.self)) (deliver_each (unsettled (world_of l.initial.self)) l.size (world_of l.initial.self)) l.out l.initial.out;
}

abbrev pub decreases-wire : goal.decreases-wire
decreases-wire l = l.left
