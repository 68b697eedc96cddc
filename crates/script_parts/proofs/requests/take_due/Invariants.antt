use Rattle.std.proofs.Common.{◌≡◌, length, []}
use Rattle.run_model.specs.Run.{due, keys_with, not_due}
use Rattle.script_parts.proofs.requests.take_due.Given as goal

abbrev pub invariant-loop-waiting : goal.invariant-loop-waiting
invariant-loop-waiting l = record {
  keys : keys_with l.keys.keys (due l.applied l.waiting.keys) ≡ keys_with [] (due l.applied l.initial.waiting.keys);
  rest : not_due l.applied l.waiting.keys ≡ not_due l.applied l.initial.waiting.keys;
}

abbrev pub decreases-loop-waiting : goal.decreases-loop-waiting
decreases-loop-waiting l = length l.waiting.keys
