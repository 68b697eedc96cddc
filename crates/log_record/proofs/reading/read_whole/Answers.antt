use Rattle.std.proofs.Common.{arith}
use Rattle.log_record.specs.laws.Whole.{to_the_end}
use Rattle.log_record.proofs.reading.read_whole.Goals as goal

pub returns-clause-record : goal.returns-clause-record
returns-clause-record c = to_the_end c.args.bytes.now c.in_ok-record.record c.in_ok-record.next c.in_ok-record.ensures.record (omega (arith, c.in_ok-record.ensures.within, c.if-next-bytes.false))
