-- The world of the program as the world of the rules.
use Rattle.run_model.specs.World as rules
use Rattle.script_world.specs.declared.world.World.{World}

abbrev pub world_of : World → rules.World
world_of w = record {
  declared = w.declared;
  group = w.lane.group;
  limit = w.limit;
  nodes = w.nodes.items;
  contexts = w.contexts;
  clients = w.clients;
  settled = w.settled;
  appended = w.appended;
}
