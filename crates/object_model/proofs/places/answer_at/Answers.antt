use Rattle.std.proofs.Common.{◌∙◌, List, ap, reverse}
use Rattle.object_model.specs.declared.mark.Placed.{Placed}
use Rattle.object_model.specs.Sequence.{proposals_of}
use Rattle.object_model.proofs.There.{answer_there, ok_map}
use Rattle.object_model.proofs.places.answer_at.Goals as goal

pub returns : goal.returns
returns c =
    let history = c.in_ok-follow_places.ensures.history ∙ ap (λ (l : List Placed). reverse (proposals_of l)) c.first.ensures in
    ok_map _ _ c.lookup-2.result c.lookup-2.ensures
    (λ r e. answer_there c.args.limit c.args.front c.args.list.now c.in_ok-follow_places.field-0.history c.in_ok-follow_places.field-0.limit c.args.query.now r c.in_ok-follow_places.ensures.limit history e)
