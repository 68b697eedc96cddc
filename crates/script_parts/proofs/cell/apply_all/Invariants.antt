use Rattle.std.proofs.Common.{◌≡◌, ◌++◌, ◌+◌, drop}
use Rattle.run_model.specs.Run.{applied}
use Rattle.script_parts.specs.Cell.{cell_of}
use Rattle.script_parts.proofs.cell.apply_all.Given as goal

abbrev pub invariant-loop-entry : goal.invariant-loop-entry
invariant-loop-entry l = record {
  count : l.cell.applied ≡ l.initial.cell.applied + l.entry-index;
  cell : (applied l.contexts (drop l.entry-index l.entries) (cell_of l.cell) l.requests.wants).cell ≡ (applied l.contexts l.entries (cell_of l.initial.cell) l.initial.requests.wants).cell;
  wants : (applied l.contexts (drop l.entry-index l.entries) (cell_of l.cell) l.requests.wants).wants ≡ (applied l.contexts l.entries (cell_of l.initial.cell) l.initial.requests.wants).wants;
  waiting : l.requests.waiting ≡ l.initial.requests.waiting;
  told : l.out ++ (applied l.contexts (drop l.entry-index l.entries) (cell_of l.cell) l.requests.wants).told ≡ l.initial.out ++ (applied l.contexts l.entries (cell_of l.initial.cell) l.initial.requests.wants).told;
}
