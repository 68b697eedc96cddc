use Rattle.std.proofs.Common.{◌∙◌, ap, List, [], ◌∷◌, ◌++◌}
use Rattle.std.specs.Prelude.{replicate}
use Rattle.std.proofs.lemmas.List.{replicate-append-replicate}
use Rattle.run_model.specs.World.{Node, new_node}
use Rattle.script_world.proofs.turn.new_nodes.Goals as goal

pub loop-host-preserved : goal.loop-host-preserved
loop-host-preserved c =
    let fresh = new_node c.args.limit in
    c.in_ok-push.ensures.items
    ∙ ap (λ (l : List Node). l ++ c.in_ok-new.field-0 ∷ []) c.loop-host.invariant
    ∙ ap (λ (n : Node). replicate c.loop-host.host fresh ++ n ∷ []) c.in_ok-new.ensures
    ∙ replicate-append-replicate c.loop-host.host 1 fresh
