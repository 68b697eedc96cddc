use Rattle.std.proofs.Common.{◌-◌, sym, ◌∙◌}
use Rattle.run_model.specs.Run.{settle}
use Rattle.script_world.specs.World.{world_of}
use Rattle.script_world.proofs.Settles.{nothing_left, last_done, next_done, settle_none, settle_idle, settle_round, settle_full}
use Rattle.script_world.proofs.world.World.rounds.Goals as goal

pub returns-then-not-is_busy : goal.returns-then-not-is_busy
returns-then-not-is_busy c = nothing_left _ _ _ _ _ c.rounds.invariant (settle_idle c.rounds.left c.args.size (world_of c.rounds.self) (sym c.is_busy.ensures ∙ c.if-not-is_busy.true))

pub returns-in-Some : goal.returns-in-Some
returns-in-Some c =
    let t = rw c.in-Some.is at c.in_ok-limit.ensures in
    last_done _ _ _ _ _ _ _ _ c.rounds.invariant (settle_full c.rounds.left c.args.size (world_of c.rounds.self) c.in-Some.limit c.rounds-test.true (sym c.is_busy.ensures ∙ c.if-not-is_busy.false) (sym t.full)) t

pub rounds-preserved : goal.rounds-preserved
rounds-preserved c =
    let t = c.in_ok-limit.ensures in
    next_done _ _ (λ w. settle (c.rounds.left - 1) c.args.size w) _ _ _ _ _ _ c.rounds.invariant
    (settle_round c.rounds.left c.args.size (world_of c.rounds.self) c.rounds-test.true (sym c.is_busy.ensures ∙ c.if-not-is_busy.false) (sym t.full ∙ c.in_default.is)) t.world t.told

pub returns : goal.returns
returns c = nothing_left _ _ _ _ _ c.rounds.invariant (settle_none c.rounds.left c.args.size (world_of c.rounds.self) c.rounds-test.false)
