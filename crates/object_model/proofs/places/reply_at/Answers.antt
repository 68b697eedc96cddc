use Rattle.std.proofs.Common.{◌-◌, ◌≢◌, ◌∙◌, ap, reverse, rules}
use Rattle.object_model.proofs.There.{reply_there, found_there, ok_map}
use Rattle.object_model.proofs.places.reply_at.Goals as goal

pub returns-in_ok-follow-in-Some : goal.returns-in_ok-follow-in-Some
returns-in_ok-follow-in-Some c =
    let place : c.args.place ≢ 0 = search rules in
    let there = found_there c.args.list.now (c.args.place - 1) c.in-Some.proposal c.in-Some.ensures.lookup in
    let history = c.in_ok-follow-in-Some.ensures.history ∙ ap reverse c.first.ensures in
    ok_map _ _ c.reply.result c.reply.ensures
    (λ r e. reply_there c.args.limit c.args.place c.args.list.now c.in_ok-follow-in-Some.field-0.history c.in_ok-follow-in-Some.field-0.limit c.in-Some.proposal.now r place there c.in_ok-follow-in-Some.ensures.limit history e)
