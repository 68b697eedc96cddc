use Rattle.std.proofs.Common.{get_or, arith}
use Rattle.wire_codec.specs.laws.Bytes.{are_bytes}
use Rattle.wire_codec.proofs.Numbers.{word_there, one_byte, cut_short, out_of_range, refused_place}
use Rattle.wire_codec.proofs.number.read_8.Goals as goal
use Rattle.wire_codec.proofs.number.read_8.Goals.{then-at-bytes+else-least-number, else-at-bytes}

pub returns-then-number-most-clause-number : goal.returns-then-number-most-clause-number
returns-then-number-most-clause-number c =
    let bytes = are_bytes c.args.bytes.now (λ i. omega (arith, (c.type_inv.bytes i).fits)) in
    word_there 1 c.args.least c.args.most c.args.bytes.now c.args.at bytes c.requires.there (get_or c.args.bytes.now c.args.at 0) (omega (arith, c.if-at-bytes.true)) (one_byte c.args.at c.args.bytes.now c.if-at-bytes.true) c.if-least-number.true c.if-number-most.true

pub returns-clause-not_envelope : goal.returns-clause-not_envelope
returns-clause-not_envelope c = λ place e.
    (let bytes = are_bytes c.args.bytes.now (λ i. omega (arith, (c.type_inv.bytes i).fits)) in
    let same = refused_place c.first_wrong.result place e in
    elim c.if-at-bytes.branch [
      | then-at-bytes+else-least-number w ↦ out_of_range 1 c.args.least c.args.most c.from.result c.from-2.result c.args.bytes.now c.args.at bytes c.requires.there c.requires.order (omega (arith, c.ranges.most.fits)) c.first_wrong.result place c.from.ensures c.from-2.ensures c.first_wrong.ensures same (get_or c.args.bytes.now c.args.at 0) (one_byte c.args.at c.args.bytes.now w.if-at-bytes.true) w.else-least-number.either
      | else-at-bytes w ↦ cut_short 1 c.args.least c.args.most c.from.result c.from-2.result c.args.bytes.now c.args.at bytes c.requires.there c.requires.order (omega (arith, c.ranges.most.fits)) c.first_wrong.result place c.from.ensures c.from-2.ensures c.first_wrong.ensures same (omega (arith, w.if-at-bytes.false))
    ])
