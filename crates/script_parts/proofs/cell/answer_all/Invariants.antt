use Rattle.std.proofs.Common.{◌≡◌, ◌++◌, drop}
use Rattle.run_model.specs.Run.{answered}
use Rattle.script_parts.specs.Cell.{cell_of}
use Rattle.script_parts.proofs.cell.answer_all.Given as goal

abbrev pub invariant-loop-key : goal.invariant-loop-key
invariant-loop-key l = record {
  wants : (answered l.contexts (cell_of l.cell) (drop l.key-index l.keys) l.requests.wants).wants ≡ (answered l.contexts (cell_of l.cell) l.keys l.initial.requests.wants).wants;
  waiting : l.requests.waiting ≡ l.initial.requests.waiting;
  told : l.out ++ (answered l.contexts (cell_of l.cell) (drop l.key-index l.keys) l.requests.wants).told ≡ l.initial.out ++ (answered l.contexts (cell_of l.cell) l.keys l.initial.requests.wants).told;
}
