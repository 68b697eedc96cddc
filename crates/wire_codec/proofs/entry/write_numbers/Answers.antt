use Rattle.std.proofs.Common.{length}
use Rattle.wire_codec.specs.Reading.{number_bytes}
use Rattle.wire_codec.proofs.Entries.{joined}
use Rattle.wire_codec.proofs.entry.write_numbers.Goals as goal

pub returns-clause-bytes : goal.returns-clause-bytes
returns-clause-bytes c =
    joined c.args.out.now.items (number_bytes 8 c.args.client) (number_bytes 8 c.args.series) (number_bytes 8 c.args.responded) (number_bytes 2 (length c.args.command.now)) c.args.command.now
    c.write_64.new.out.items c.write_64-2.new.out.items c.write_64-3.new.out.items c.write_16.new.out.items c.extend_from_slice.new.self.items
    c.in_ok-write_64.ensures.bytes c.in_ok-write_64-2.ensures.bytes c.in_ok-write_64-3.ensures.bytes c.in_ok-write_16.ensures c.in_ok-extend_from_slice.ensures.items
