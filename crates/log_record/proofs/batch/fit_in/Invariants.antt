use Rattle.std.proofs.Common.{◌≡◌, drop, length, nat_le}
use Rattle.std.specs.List.{flat_map}
use Rattle.wire_codec.specs.Entry.{entry_bytes}
use Rattle.log_record.proofs.batch.fit_in.Given as goal

abbrev pub invariant-loop-entry : goal.invariant-loop-entry
invariant-loop-entry l = nat_le (length (flat_map entry_bytes (drop l.entry-index l.entries))) l.left ≡ nat_le (length (flat_map entry_bytes l.entries)) l.room
