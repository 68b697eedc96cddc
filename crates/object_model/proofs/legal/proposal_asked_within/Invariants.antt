use Rattle.std.proofs.Common.{◌≡◌, drop}
use Rattle.object_model.specs.Decision.{asked_within, asks_for, proposes}
use Rattle.object_model.proofs.legal.proposal_asked_within.Given as goal

abbrev pub invariant-loop-mark : goal.invariant-loop-mark
invariant-loop-mark l = asked_within (asks_for l.context (proposes l.proposal)) l.most (drop l.mark-index l.before) ≡ asked_within (asks_for l.context (proposes l.proposal)) l.most l.before
