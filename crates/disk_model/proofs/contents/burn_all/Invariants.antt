use Rattle.std.proofs.Common.{◌≡◌, ◌≤◌, drop, vec_capacity}
use Rattle.disk_model.specs.Undo.{burned}
use Rattle.disk_model.proofs.contents.burn_all.Given as goal

abbrev pub invariant-loop-change : goal.invariant-loop-change
invariant-loop-change l = record {
  items : burned (drop l.change-index l.changes) l.bytes.items ≡ burned l.changes l.fn.bytes.items;
  capacity : vec_capacity l.fn.bytes ≤ vec_capacity l.bytes;
}
