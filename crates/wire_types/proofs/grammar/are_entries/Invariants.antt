use Rattle.std.proofs.Common.{◌≡◌, ◌+◌, drop}
use Rattle.wire_types.specs.Grammar.{are_entries}
use Rattle.wire_types.proofs.grammar.are_entries.Given as goal

abbrev pub invariant-loop-entry : goal.invariant-loop-entry
invariant-loop-entry l = (l.last ≡ l.prev + l.entry-index) × (are_entries (l.prev + l.entry-index) (drop l.entry-index l.entries) ≡ are_entries l.prev l.entries)
