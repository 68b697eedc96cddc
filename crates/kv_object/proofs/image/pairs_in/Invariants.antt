use Rattle.std.proofs.Common.{◌+◌, ◌-◌, None, length}
use Rattle.std.specs.Option.{option_copied}
use Rattle.object_model.specs.Image.{read_pairs}
use Rattle.kv_object.proofs.Ahead.{Ahead}
use Rattle.kv_object.proofs.image.pairs_in.Given as goal

abbrev pub invariant-loop : goal.invariant-loop
invariant-loop l = Ahead (read_pairs l.count None 4 l.bytes) (4 + length l.bytes) l.held.entries (option_copied l.before) (l.count - l.counter) l.at l.rest
