use Rattle.std.proofs.Common.{◌≡◌, drop}
use Rattle.object_model.specs.Decision.{asked_within, asks_for, answered_by}
use Rattle.object_model.proofs.legal.query_asked_within.Given as goal

abbrev pub invariant-loop-mark : goal.invariant-loop-mark
invariant-loop-mark l = asked_within (asks_for l.context (answered_by l.limit l.list l.front l.answer)) l.front (drop l.mark-index l.before) ≡ asked_within (asks_for l.context (answered_by l.limit l.list l.front l.answer)) l.front l.before
