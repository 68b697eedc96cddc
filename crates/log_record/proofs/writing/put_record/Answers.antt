use Rattle.std.proofs.Common.{◌≡◌, ◌++◌, length, true, sym, subst}
use Rattle.std.specs.List.{flat_map, list_all}
use Rattle.wire_codec.specs.Entry.{entry_bytes}
use Rattle.wire_codec.specs.Reading.{number_bytes}
use Rattle.wire_types.specs.Grammar.{is_entry}
use Rattle.log_record.specs.Record.{record_bytes}
use Rattle.log_record.proofs.Written.{batch_formed, batch_written, on_ok}
use Rattle.log_record.proofs.writing.put_record.Goals as goal

pub put_entries-requires-clause-formed : goal.put_entries-requires-clause-formed
put_entries-requires-clause-formed c =
    subst (λ es. list_all is_entry es ≡ true) (sym c.items.ensures) (batch_formed c.args.record.now c.in-Batch.term c.in-Batch.vote c.in-Batch.commit c.in-Batch.front c.in-Batch.front_term c.in-Batch.first c.in-Batch.entries c.in-Batch.is c.requires)

pub returns-in_ok-put_head-in-Batch-clause-bytes : goal.returns-in_ok-put_head-in-Batch-clause-bytes
returns-in_ok-put_head-in-Batch-clause-bytes c =
    on_ok c.put_entries.result (c.put_entries.new.out.items ≡ c.put_head.new.out.items ++ (number_bytes 4 (length c.items.result.now) ++ flat_map entry_bytes c.items.result.now)) (c.put_entries.new.out.items ≡ c.args.out.now.items ++ record_bytes c.args.record.now)
    (λ n. batch_written c.args.record.now c.in-Batch.term c.in-Batch.vote c.in-Batch.commit c.in-Batch.front c.in-Batch.front_term c.in-Batch.first c.in-Batch.entries c.in-Batch.is c.args.out.now.items c.put_head.new.out.items c.put_entries.new.out.items c.in_ok-put_head-in-Batch.ensures.bytes c.items.result.now c.items.ensures n) c.put_entries.ensures.bytes
