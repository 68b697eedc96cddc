use Rattle.std.proofs.Common.{◌≡◌, ◌++◌, true}
use Rattle.std.specs.List.{list_all, flat_map}
use Rattle.object_model.specs.Image.{image, spelt, is_pair}
use Rattle.kv_object.proofs.kv.Kv.image.Given as goal

abbrev pub invariant-loop-key : goal.invariant-loop-key
invariant-loop-key l =
    (goal.iterator-loop-key).can_next l.key-iterator ×
    (goal.iterator-loop-key).is_finite l.key-iterator ×
    (l.out.items ++ flat_map (λ e. spelt e.0 ++ spelt e.1) l.key-iterator ≡ image l.self) ×
    (list_all is_pair l.key-iterator ≡ true)
