use Rattle.std.proofs.Common.{◌≡◌}
use Rattle.std.specs.Vec.Iter.{into_iter_items}
use Rattle.log_record.specs.Durable.{durable_of, with_records}
use Rattle.log_store.specs.Kept.{batch_of}
use Rattle.log_store.proofs.kept.keep.Given as goal

abbrev pub invariant-loop-record : goal.invariant-loop-record
invariant-loop-record l = with_records (batch_of l.kept) (into_iter_items l.record-iterator) ≡ durable_of l.fn.records.items
