use Rattle.std.proofs.Common.{rules, ◌≡◌, ◌++◌, [], ◌∷◌, ap, sym}
use Rattle.object_model.specs.declared.course.CourseStep.{CourseStep}
use Rattle.object_model.specs.Sequence.{client_of, does_act, stands, verdict}
use Rattle.object_model.specs.Course.{Course, history_of}
use Rattle.object_model.proofs.Courses.{follows_more}
use Rattle.object_model.proofs.course.Course.then.Goals as goal

pub invariant_of-result : goal.invariant_of-result
invariant_of-result c =
    let step : CourseStep = record { proposal = c.args.proposal; stood = c.stands-stood.result; acts = c.does_act-acts.result; reply = c.in_ok-reply.reply } in
    let limit : c.args.self.limit ≡ c.self.inside.limit = ap (λ (x : Course). x.limit) (sym c.self.view_is) in
    let history : c.args.self.history ≡ history_of c.self.inside.steps.items = ap (λ (x : Course). x.history) (sym c.self.view_is) in
    let more : c.push.new.self.items ≡ c.self.inside.steps.items ++ step ∷ [] = search rules in
    let stood : c.stands-stood.result ≡ stands c.self.inside.limit (client_of c.args.proposal) (history_of c.self.inside.steps.items) = rw (limit, history, c.client_of.ensures) at c.stands-stood.ensures in
    let acts : c.does_act-acts.result ≡ does_act (verdict c.self.inside.limit (history_of c.self.inside.steps.items) c.args.proposal) = rw (c.in_ok-verdict.ensures, limit, history) at c.does_act-acts.ensures in
    follows_more c.self.inside.limit c.self.inside.steps.items c.push.new.self.items c.self.inside.clients.items c.in_ok-clients.clients.items c.self.inside.pairs c.effect_if.new.pairs step c.self.invariant more stood acts
    (search rules)
    (search rules)
    (search rules)
