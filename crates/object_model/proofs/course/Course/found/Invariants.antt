use Rattle.std.proofs.Common.{◌≡◌, drop, None}
use Rattle.std.specs.Option.{option_copied}
use Rattle.object_model.specs.Course.{found_on}
use Rattle.object_model.proofs.course.Course.found.Given as goal

abbrev pub invariant-loop-step : goal.invariant-loop-step
invariant-loop-step l = found_on l.client l.series (option_copied l.found) (drop l.step-index l.step-items) ≡ found_on l.client l.series None l.step-items
