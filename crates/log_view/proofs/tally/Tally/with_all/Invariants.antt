use Rattle.std.proofs.Common.{◌≡◌, drop}
use Rattle.log_view.specs.Tallies.{tally_with_all}
use Rattle.log_view.proofs.tally.Tally.with_all.Given as goal

abbrev pub invariant-loop-entry : goal.invariant-loop-entry
invariant-loop-entry l = tally_with_all l.tally l.before (drop l.entry-index l.entries) ≡ tally_with_all l.fn.self l.fn.before l.entries
