use Rattle.std.proofs.Common.{◌≡◌, ◌++◌, take}
use Rattle.run_model.specs.Run.{text_of}
use Rattle.script_run.proofs.lines.print_all.Given as goal

abbrev pub invariant-loop-line : goal.invariant-loop-line
invariant-loop-line l = l.out ≡ l.initial.out ++ text_of (take l.line-index l.told)
