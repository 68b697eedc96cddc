use Rattle.std.proofs.Common.{◌≡◌, map}
use Rattle.std.specs.Map.Iter.{deref_pair}
use Rattle.disk_model.proofs.Numbers.{numbers_of}
use Rattle.disk_model.proofs.files.listed_in.Given as goal

abbrev pub invariant-loop-number : goal.invariant-loop-number
invariant-loop-number l = l.numbers.items ≡ numbers_of (map deref_pair l.yielded)
