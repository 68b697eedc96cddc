use Rattle.std.proofs.Common.{◌≡◌, true, sym, ◌∙◌}
use Rattle.read_index.specs.Reads.{is_answered}
use Rattle.read_index.proofs.Order.{none_at, same_first}
use Rattle.read_index.proofs.reads.Reads.confirmed.Goals as goal

pub returns-then-not-has_answers-clause-none : goal.returns-then-not-has_answers-clause-none
returns-then-not-has_answers-clause-none c =
    rw (← c.self.view_is) (λ e. none_at
    c.args.voters.now
    c.args.me
    (record { round = c.self.inside.round; answered = c.self.inside.answered; waiting = c.self.inside.waiting.items })
    c.self.inside.waiting.items
    c.in-Some.first.now
    c.self.invariant
    c.in-Some.ensures.lookup
    (sym c.has_answers.ensures ∙ c.if-not-has_answers.true))

pub returns-clause-some : goal.returns-clause-some
returns-clause-some c =
    rw (← c.self.view_is) (same_first
    (λ read. is_answered c.args.voters.now c.args.me (record { round = c.self.inside.round; answered = c.self.inside.answered; waiting = c.self.inside.waiting.items }) read ≡ true)
    c.self.inside.waiting.items
    _
    c.in-Some.first.now
    c.pop_front.result
    c.pop_front.ensures.items
    c.in-Some.ensures.lookup
    (sym c.has_answers.ensures ∙ c.if-not-has_answers.false))
