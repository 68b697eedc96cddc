use Rattle.std.proofs.Common.{◌≡◌, map, ◌++◌}
use Rattle.std.specs.String.{string_bytes}
use Rattle.std.specs.Vec.Iter.{into_iter_items}
use Rattle.script_run.proofs.words.words_in.Given as goal

abbrev pub invariant-loop-arg : goal.invariant-loop-arg
invariant-loop-arg l = record {
  so_far : l.words.items ++ map string_bytes (into_iter_items l.arg-iterator) ≡ map string_bytes (into_iter_items l.fn.args);
}
