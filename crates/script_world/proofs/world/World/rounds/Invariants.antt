use Rattle.run_model.specs.Run.{settle}
use Rattle.script_text.specs.declared.limit.TheConstants.{MOST_ROUNDS}
use Rattle.script_world.specs.World.{world_of}
use Rattle.script_world.proofs.Settles.{Remains}
use Rattle.script_world.proofs.world.World.rounds.Given as goal

abbrev pub invariant-rounds : goal.invariant-rounds
invariant-rounds l = Remains (settle l.left l.size (world_of l.self)) (settle MOST_ROUNDS l.size (world_of l.initial.self)) l.out l.initial.out

abbrev pub decreases-rounds : goal.decreases-rounds
decreases-rounds l = l.left
