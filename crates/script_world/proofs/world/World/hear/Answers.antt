use Rattle.std.proofs.Common.{append-nil, refl, arith}
use Rattle.std.proofs.lemmas.Grind.{common_steps}
use Rattle.script_world.specs.World.{world_of}
use Rattle.script_world.proofs.Hearing.{nothing_heard}
use Rattle.script_world.proofs.world.World.hear.Goals as goal

pub returns-then-place-len : goal.returns-then-place-len
returns-then-place-len c =
    let e = nothing_heard (world_of c.args.self.now) c.args.host c.args.notes.now (omega (arith, c.if-place-len.true, c.from-place.ensures, c.len.ensures)) in
    record { world = grind (arith, common_steps); told = rw (e, append-nil) refl }
