use Rattle.std.proofs.Common.{◌≡◌, drop, take, []}
use Rattle.object_model.specs.Decision.{each_good}
use Rattle.object_model.proofs.legal.each_good.Given as goal

abbrev pub invariant-loop-at : goal.invariant-loop-at
invariant-loop-at l = each_good l.limit l.list (take l.at l.marks) (drop l.at l.marks) ≡ each_good l.limit l.list [] l.marks
