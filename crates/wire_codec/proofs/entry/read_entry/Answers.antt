use Rattle.std.proofs.Common.{arith}
use Rattle.wire_codec.specs.laws.Bytes.{are_bytes}
use Rattle.wire_codec.proofs.Entries.{entry_back, entry_stands, no_entry, longest_front}
use Rattle.wire_codec.proofs.entry.read_entry.Goals as goal

pub returns-clause-stands : goal.returns-clause-stands
returns-clause-stands c =
    let bytes = are_bytes c.args.bytes.now (λ i. omega (arith, (c.type_inv.bytes i).fits)) in
    entry_stands c.args.index c.args.bytes.now c.args.at bytes c.requires c.read_parts.result c.read_parts.ensures.entry

pub returns-clause-back : goal.returns-clause-back
returns-clause-back c = λ e rest g s.
    (let bytes = are_bytes c.args.bytes.now (λ i. omega (arith, (c.type_inv.bytes i).fits)) in
    entry_back c.args.index c.args.bytes.now c.args.at bytes c.requires c.read_parts.result c.read_parts.ensures.entry e rest g s)

pub returns-clause-none : goal.returns-clause-none
returns-clause-none c = λ place e.
    (let bytes = are_bytes c.args.bytes.now (λ i. omega (arith, (c.type_inv.bytes i).fits)) in
    no_entry c.args.index c.args.bytes.now c.args.at bytes c.requires place (c.read_parts.ensures.not_envelope place e))

pub returns-clause-longest : goal.returns-clause-longest
returns-clause-longest c = λ place e.
    (let bytes = are_bytes c.args.bytes.now (λ i. omega (arith, (c.type_inv.bytes i).fits)) in
    longest_front c.args.index c.args.bytes.now c.args.at bytes c.requires place (c.read_parts.ensures.not_envelope place e))
