use Rattle.std.proofs.Common.{arith}
use Rattle.wire_codec.specs.laws.Bytes.{are_bytes}
use Rattle.log_record.specs.laws.Whole.{is_back, is_spelt, longest, no_record}
use Rattle.log_record.proofs.reading.read_record.Goals as goal

pub returns-clause-spelt : goal.returns-clause-spelt
returns-clause-spelt c =
    let bytes = are_bytes c.args.bytes.now (λ i. omega (arith, (c.type_inv.bytes i).fits)) in
    is_spelt c.args.bytes.now bytes c.read_whole.result c.read_whole.ensures.record

pub returns-clause-back : goal.returns-clause-back
returns-clause-back c = λ r g s. is_back c.args.bytes.now c.read_whole.result c.read_whole.ensures.record r g s

pub returns-clause-none : goal.returns-clause-none
returns-clause-none c = λ at r e g s. no_record c.args.bytes.now at (c.read_whole.ensures.not_record at e) r g s

pub returns-clause-longest : goal.returns-clause-longest
returns-clause-longest c = λ at e.
    (let bytes = are_bytes c.args.bytes.now (λ i. omega (arith, (c.type_inv.bytes i).fits)) in
    longest c.args.bytes.now bytes at (c.read_whole.ensures.not_record at e))
