use Rattle.std.proofs.Common.{◌≡◌, ◌++◌, drop, length, take, true}
use Rattle.std.specs.List.{flat_map, list_all}
use Rattle.wire_codec.specs.Entry.{entry_bytes, fits}
use Rattle.wire_codec.specs.Reading.{number_bytes}
use Rattle.log_record.proofs.writing.put_entries.Given as goal

abbrev pub invariant-loop-entry : goal.invariant-loop-entry
invariant-loop-entry l =
    (l.out.items ++ flat_map entry_bytes (drop l.entry-index l.entries) ≡ l.fn.out.items ++ (number_bytes 4 (length l.entries) ++ flat_map entry_bytes l.entries))
    × (list_all fits (take l.entry-index l.entries) ≡ true)
