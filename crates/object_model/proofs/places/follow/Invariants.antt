use Rattle.std.proofs.Common.{◌≡◌, take, reverse}
use Rattle.object_model.proofs.places.follow.Given as goal

abbrev pub invariant-loop-proposal : goal.invariant-loop-proposal
invariant-loop-proposal l = record {
  limit : l.course.limit ≡ l.limit;
  history : l.course.history ≡ reverse (take l.proposal-index l.list);
}
