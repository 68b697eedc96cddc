use Rattle.std.proofs.Common.{◌-◌, sym, ◌∙◌, append-nil, arith, refl}
use Rattle.run_model.specs.Run.{deliver_each}
use Rattle.script_world.specs.World.{world_of}
use Rattle.script_world.proofs.Settles.{nothing_left, last_done, next_done, deliveries_none, deliveries_next, deliveries_full}
use Rattle.script_world.proofs.world.World.deliver_each.Goals as goal

pub wire-init : goal.wire-init
wire-init c = let e = c.unsettled-left.ensures.count in record { room = c.unsettled-left.ensures.room; rest = rw e (record { world = refl; told = refl; full = refl }) }

pub returns-in-Some : goal.returns-in-Some
returns-in-Some c =
    last_done _ _ _ _ _ _ _ _ c.wire.invariant.rest (deliveries_full c.wire.left c.args.size (world_of c.wire.self) c.in-Some.limit c.wire-test.true (sym c.reached.ensures ∙ c.in-Some.is))
    (record { world = refl; told = sym (append-nil c.wire.out); full = refl })

pub wire-preserved : goal.wire-preserved
wire-preserved c =
    let t = c.in_ok-deliver_next.ensures.took in
    record {
      room = omega (arith, c.in_ok-deliver_next.ensures.settled, c.wire.invariant.room, c.wire-test.true);
      rest = next_done _ _ (λ w. deliver_each (c.wire.left - 1) c.args.size w) _ _ _ _ _ _ c.wire.invariant.rest
          (deliveries_next c.wire.left c.args.size (world_of c.wire.self) c.wire-test.true (sym c.reached.ensures ∙ c.in_default.is)) t.world t.told;
    }

pub returns : goal.returns
returns c = nothing_left _ _ _ _ _ c.wire.invariant.rest (deliveries_none c.wire.left c.args.size (world_of c.wire.self) c.wire-test.false)
