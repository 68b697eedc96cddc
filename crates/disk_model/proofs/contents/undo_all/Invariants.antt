use Rattle.std.proofs.Common.{◌≡◌, ◌-◌, ◌≤◌, take, vec_capacity}
use Rattle.disk_model.specs.Undo.{undone}
use Rattle.disk_model.proofs.contents.undo_all.Given as goal

abbrev pub invariant-loop-done : goal.invariant-loop-done
invariant-loop-done l = record {
  items : undone (take (l.count - l.done) l.changes) l.bytes.items ≡ undone l.changes l.fn.bytes.items;
  capacity : vec_capacity l.fn.bytes ≤ vec_capacity l.bytes;
}
