use Rattle.std.proofs.Common.{◌≡◌, ◌≤◌, drop, Some}
use Rattle.object_model.specs.Words.{number_on}
use Rattle.object_model.proofs.words.number_on.Given as goal

abbrev pub invariant-loop-digit : goal.invariant-loop-digit
invariant-loop-digit l = record {
  rest : number_on l.most (Some l.number) (drop l.digit-index l.digits) ≡ number_on l.most (Some l.start) l.digits;
  bound : l.number ≤ l.most;
}
