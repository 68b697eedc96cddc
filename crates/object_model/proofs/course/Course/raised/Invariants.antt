use Rattle.std.proofs.Common.{◌≡◌, drop}
use Rattle.object_model.specs.Course.{raised_on}
use Rattle.object_model.proofs.course.Course.raised.Given as goal

abbrev pub invariant-loop-step : goal.invariant-loop-step
invariant-loop-step l = raised_on l.client l.value (drop l.step-index l.step-items) ≡ raised_on l.client 0 l.step-items
