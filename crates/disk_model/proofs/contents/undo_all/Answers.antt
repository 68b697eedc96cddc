use Rattle.std.proofs.Common.{◌≡◌, ◌+◌, ◌-◌, List, ℕ, length, take, arith, ap, ◌∙◌}
use Rattle.disk_model.specs.Undo.{undone}
use Rattle.disk_model.proofs.Changes.{undone_less}
use Rattle.disk_model.proofs.contents.undo_all.Goals as goal

pub loop-done-preserved : goal.loop-done-preserved
loop-done-preserved c =
    let cs = c.args.changes.now in
    let n : ℕ = length cs - 1 - c.loop-done.done in
    let fewer : length cs - (c.loop-done.done + 1) ≡ n = omega arith in
    let more : n + 1 ≡ length cs - c.loop-done.done = omega (arith, c.loop-done-test.true) in
    record {
      items = ap (λ (m : ℕ). undone (take m cs) c.undo_one.new.bytes.items) fewer ∙ ap (λ (b : List ℕ). undone (take n cs) b) c.undo_one.ensures.items ∙ undone_less n cs c.index-changes-count.result c.loop-done.bytes.items (omega (arith, c.loop-done-test.true)) c.index-changes-count.is ∙ ap (λ (m : ℕ). undone (take m cs) c.loop-done.bytes.items) more ∙ c.loop-done.invariant.items;
      capacity = omega (arith, c.loop-done.invariant.capacity, c.undo_one.ensures.capacity);
    }
