use Rattle.std.proofs.Common.{◌≡◌, take, reverse}
use Rattle.object_model.specs.Sequence.{proposals_of}
use Rattle.object_model.proofs.places.follow_places.Given as goal

abbrev pub invariant-loop-placed : goal.invariant-loop-placed
invariant-loop-placed l = record {
  limit : l.course.limit ≡ l.limit;
  history : l.course.history ≡ reverse (proposals_of (take l.placed-index l.list));
}
