use Rattle.std.proofs.Common.{◌∙◌}
use Rattle.log_record.proofs.Written.{advances, one_fits}
use Rattle.log_record.proofs.writing.put_entries.Goals as goal

pub loop-entry-preserved : goal.loop-entry-preserved
loop-entry-preserved c = (
  advances c.loop-entry.out.items c.write_entry.new.out.items c.args.entries.now c.loop-entry.entry-index c.entry-item.result c.loop-entry-test.true c.entry-item.is c.in_ok-write_entry.ensures.bytes ∙ c.loop-entry.invariant.0,
  one_fits c.args.entries.now c.loop-entry.entry-index c.entry-item.result c.loop-entry-test.true c.entry-item.is c.loop-entry.invariant.1 c.in_ok-write_entry.ensures.fits,
)
