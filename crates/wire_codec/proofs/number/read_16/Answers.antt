use Rattle.std.proofs.Common.{arith}
use Rattle.wire_codec.specs.laws.Bytes.{are_bytes}
use Rattle.wire_codec.proofs.Numbers.{word_there, sliced, cut_short, out_of_range, refused_place}
use Rattle.wire_codec.proofs.number.read_16.Goals as goal
use Rattle.wire_codec.proofs.number.read_16.Goals.{then-bytes-at-ge2+else-least-number, else-bytes-at-ge2}

pub returns-then-number-most-clause-number : goal.returns-then-number-most-clause-number
returns-then-number-most-clause-number c =
    let bytes = are_bytes c.args.bytes.now (λ i. omega (arith, (c.type_inv.bytes i).fits)) in
    word_there 2 c.args.least c.args.most c.args.bytes.now c.args.at bytes c.requires.there c.read_u16-number.result c.if-bytes-at-ge2.true (sliced 2 c.read_u16-number.result c.args.at c.args.bytes.now c.read_u16-number.ensures) c.if-least-number.true c.if-number-most.true

pub returns-clause-not_envelope : goal.returns-clause-not_envelope
returns-clause-not_envelope c = λ place e.
    (let bytes = are_bytes c.args.bytes.now (λ i. omega (arith, (c.type_inv.bytes i).fits)) in
    let same = refused_place c.first_wrong.result place e in
    elim c.if-bytes-at-ge2.branch [
      | then-bytes-at-ge2+else-least-number w ↦ out_of_range 2 c.args.least c.args.most c.from.result c.from-2.result c.args.bytes.now c.args.at bytes c.requires.there c.requires.order (omega (arith, c.ranges.most.fits)) c.first_wrong.result place c.from.ensures c.from-2.ensures c.first_wrong.ensures same w.read_u16-number.result (sliced 2 w.read_u16-number.result c.args.at c.args.bytes.now w.read_u16-number.ensures) w.else-least-number.either
      | else-bytes-at-ge2 w ↦ cut_short 2 c.args.least c.args.most c.from.result c.from-2.result c.args.bytes.now c.args.at bytes c.requires.there c.requires.order (omega (arith, c.ranges.most.fits)) c.first_wrong.result place c.from.ensures c.from-2.ensures c.first_wrong.ensures same w.if-bytes-at-ge2.false
    ])
