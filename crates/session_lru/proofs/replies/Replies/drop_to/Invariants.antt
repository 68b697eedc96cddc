use Rattle.std.proofs.Common.{◌≡◌, length}
use Rattle.std.specs.Prelude.{filter, nat_lt}
use Rattle.session_lru.proofs.replies.Replies.drop_to.Given as goal

abbrev pub invariant-loop-self : goal.invariant-loop-self
invariant-loop-self l = filter (λ e. nat_lt l.series e.0) l.self ≡ filter (λ e. nat_lt l.series e.0) l.fn.self

abbrev pub decreases-loop-self : goal.decreases-loop-self
decreases-loop-self l = length l.self
