use Rattle.std.proofs.Common.{◌≡◌}
use Rattle.std.specs.Prelude.{replicate}
use Rattle.run_model.specs.World.{new_node}
use Rattle.script_world.proofs.turn.new_nodes.Given as goal

abbrev pub invariant-loop-host : goal.invariant-loop-host
invariant-loop-host l = l.nodes.items ≡ replicate l.host (new_node l.limit)
