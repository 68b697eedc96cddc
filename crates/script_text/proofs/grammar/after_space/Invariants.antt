use Rattle.std.proofs.Common.{◌≡◌, drop}
use Rattle.script_text.specs.Script.{after_space}
use Rattle.script_text.proofs.grammar.after_space.Given as goal

abbrev pub invariant-loop-at : goal.invariant-loop-at
invariant-loop-at l = after_space (drop l.at l.text) ≡ after_space l.text
