use Rattle.std.proofs.Common.{◌<◌}
use Rattle.std.proofs.lemmas.Bool.{leb-false}
use Rattle.session_lru.proofs.Firsts.{above_all}
use Rattle.session_lru.proofs.replies.Replies.first_is_upto.Goals as goal

pub returns-in-Some-clause-none : goal.returns-in-Some-clause-none
returns-in-Some-clause-none c = λ e.
    (let above : c.args.series < c.in-Some.first.now = leb-false c.in-Some.first.now c.args.series e in
    rw (← c.self.view_is) (above_all c.args.series c.in-Some.first.now c.self.inside.held.entries above c.in-Some.ensures.all_from))
