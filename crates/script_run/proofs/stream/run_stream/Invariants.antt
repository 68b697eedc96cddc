use Rattle.std.proofs.Common.{◌≡◌, ◌+◌, ◌-◌, ◌≤◌, ◌<◌, List, ℕ, None, length}
use Rattle.run_model.specs.Run.{reached}
use Rattle.script_text.specs.declared.limit.TheConstants.{MOST_LINE, MOST_SCRIPT}
use Rattle.script_world.specs.World.{world_of}
use Rattle.script_run.specs.Top.{place_in}
use Rattle.script_run.specs.Reach.{HasNoFeed}
use Rattle.script_run.proofs.Streams.{Under}
use Rattle.script_run.proofs.stream.run_stream.Given as goal

abbrev pub invariant-source : goal.invariant-source
invariant-source g l =
    (script : List ℕ) × (done : List ℕ) × record {
      under : Under (g.S.Source.left l.initial.source) (g.S.Source.left l.source) (g.K.Sink.contents l.initial.sink) (g.K.Sink.contents l.sink) (place_in l.runner) l.held.items script done;
      counts : l.runner.lines ≤ l.runner.size;
      below : l.runner.size < MOST_SCRIPT;
      within : reached (world_of l.runner.world) l.runner.size ≡ None;
      short : length l.held.items ≤ MOST_LINE;
      open_end : HasNoFeed l.held.items;
      later_source : g.S.Source.fault_count l.initial.source ≤ g.S.Source.fault_count l.source;
      later : g.K.Sink.fault_count l.initial.sink ≤ g.K.Sink.fault_count l.sink;
    }

abbrev pub decreases-source : goal.decreases-source
decreases-source g l = 67121153 - (l.runner.size + length l.held.items)
