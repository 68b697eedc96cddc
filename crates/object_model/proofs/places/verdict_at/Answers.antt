use Rattle.std.proofs.Common.{rules, ◌-◌, ◌≢◌, ◌∙◌, ap, reverse}
use Rattle.object_model.proofs.There.{verdict_there, found_there}
use Rattle.object_model.proofs.places.verdict_at.Goals as goal

pub returns-in_ok-verdict-in-Some : goal.returns-in_ok-verdict-in-Some
returns-in_ok-verdict-in-Some c =
    let place : c.args.place ≢ 0 = search rules in
    let there = found_there c.args.list.now (c.args.place - 1) c.in-Some.proposal c.in-Some.ensures.lookup in
    let history = c.in_ok-course-in-Some.ensures.history ∙ ap reverse c.first.ensures in
    verdict_there c.args.limit c.args.place c.args.list.now c.in_ok-course-in-Some.course.history c.in_ok-course-in-Some.course.limit c.in-Some.proposal.now c.in_ok-verdict-in-Some.field-0 place there c.in_ok-course-in-Some.ensures.limit history c.in_ok-verdict-in-Some.ensures
