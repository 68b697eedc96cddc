use Rattle.std.proofs.Common.{◌∙◌, List, ap, reverse}
use Rattle.object_model.specs.declared.mark.Placed.{Placed}
use Rattle.object_model.specs.Sequence.{proposals_of}
use Rattle.object_model.proofs.There.{ending_there, found_there, ok_map}
use Rattle.object_model.proofs.places.ending_at.Goals as goal

pub returns-in_ok-follow_places-in-Some : goal.returns-in_ok-follow_places-in-Some
returns-in_ok-follow_places-in-Some c =
    let beyond = c.saturating_sub-beyond.ensures in
    let there = found_there c.args.list.now c.saturating_sub-beyond.result c.in-Some.placed c.in-Some.ensures.lookup in
    let history = c.in_ok-follow_places-in-Some.ensures.history ∙ ap (λ (l : List Placed). reverse (proposals_of l)) c.first.ensures in
    ok_map _ _ c.ending.result c.ending.ensures
    (λ r e. ending_there c.args.limit c.args.place c.saturating_sub-beyond.result c.args.list.now c.in_ok-follow_places-in-Some.field-0.history c.in_ok-follow_places-in-Some.field-0.limit c.in-Some.placed.now r beyond there c.in_ok-follow_places-in-Some.ensures.limit history e)
