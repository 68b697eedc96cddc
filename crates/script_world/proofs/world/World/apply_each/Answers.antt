use Rattle.std.proofs.Common.{◌+◌, drop, sym, ◌∙◌}
use Rattle.run_model.specs.Run.{apply_each}
use Rattle.script_world.specs.World.{world_of}
use Rattle.script_world.proofs.Settles.{nothing_left, last_done, next_done, applies_none, applies_next, applies_full}
use Rattle.script_world.proofs.world.World.apply_each.Goals as goal

pub returns-in-Some : goal.returns-in-Some
returns-in-Some c =
    let t = rw c.in-Some.is at c.in_ok-limit.ensures in
    last_done _ _ _ _ _ _ _ _ c.loop-host.invariant (applies_full c.args.hosts.now c.loop-host.host-index c.args.size (world_of c.loop-host.self) c.in-Some.limit c.loop-host-test.true (sym t.full)) t

pub loop-host-preserved : goal.loop-host-preserved
loop-host-preserved c =
    let t = c.in_ok-limit.ensures in
    next_done _ _ (λ w. apply_each (drop (c.loop-host.host-index + 1) c.args.hosts.now) c.args.size w) _ _ _ _ _ _ c.loop-host.invariant
    (applies_next c.args.hosts.now c.loop-host.host-index c.args.size (world_of c.loop-host.self) c.loop-host-test.true (sym t.full ∙ c.in_default.is)) t.world t.told

pub returns : goal.returns
returns c = nothing_left _ _ _ _ _ c.loop-host.invariant (applies_none c.args.hosts.now c.loop-host.host-index c.args.size (world_of c.loop-host.self) c.loop-host-test.false)
