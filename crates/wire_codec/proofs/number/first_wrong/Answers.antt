use Rattle.std.proofs.Common.{◌≡◌, ◌+◌, ◌-◌, ◌*◌, drop, sym, ap, ◌∙◌, arith}
use Rattle.std.proofs.lemmas.List.{length-drop}
use Rattle.wire_codec.specs.Reading.{digits, place_of}
use Rattle.wire_codec.proofs.Numbers.{small_read, passing, still_fits, too_low, too_high, stops, goes_on, no_byte, no_more}
use Rattle.wire_codec.proofs.number.first_wrong.Goals as goal
use Rattle.wire_codec.proofs.number.first_wrong.Goals.{then-read-least-via-then-read-least, then-read-least-via-else-read-least+then-most-shift}

pub overflow_mul-read : goal.overflow_mul-read
overflow_mul-read c = let s = small_read c.loop-left.read c.loop-left.left c.args.most c.loop-left-test.true c.loop-left.invariant.3 (omega (arith, c.ranges.most.fits)) in omega (arith, s)

pub overflow_add-read : goal.overflow_add-read
overflow_add-read c =
    let s = small_read c.loop-left.read c.loop-left.left c.args.most c.loop-left-test.true c.loop-left.invariant.3 (omega (arith, c.ranges.most.fits)) in
    omega (arith, s, c.from.ensures, c.type_inv.bytes c.loop-left.next)

pub returns-then-read-least : goal.returns-then-read-least
returns-then-read-least c =
    let stop = stops c.args.least c.args.most c.loop-left.read c.loop-left.left c.loop-left.next c.from.result c.args.bytes.now c.loop-left-test.true c.if-next-bytes.true c.from.ensures in
    elim c.then-read-least.branch [
      | then-read-least-via-then-read-least w ↦ sym (stop (too_low c.args.least c.args.most (c.loop-left.read * 256 + c.from.result) (c.loop-left.left - 1) w.if-read-least.true)) ∙ c.loop-left.invariant.4
      | then-read-least-via-else-read-least+then-most-shift w ↦ sym (stop (too_high c.args.least c.args.most (c.loop-left.read * 256 + c.from.result) (c.loop-left.left - 1) w.if-most-shift.true)) ∙ c.loop-left.invariant.4
    ]

pub loop-left-preserved : goal.loop-left-preserved
loop-left-preserved c =
    let q = c.loop-left.read * 256 + c.from.result in
    let on = goes_on c.args.least c.args.most c.loop-left.read c.loop-left.left c.loop-left.next c.from.result c.args.bytes.now c.loop-left-test.true c.if-next-bytes.true c.from.ensures
    (passing c.args.least c.args.most q (c.loop-left.left - 1) c.if-read-least.false c.if-most-shift.false) in
    (omega (arith, c.if-next-bytes.true), omega (arith, c.loop-left.invariant.1), omega (arith, c.loop-left.invariant.2, c.loop-left-test.true), still_fits c.args.least c.args.most q (c.loop-left.left - 1) c.if-most-shift.false, sym on ∙ c.loop-left.invariant.4)

pub returns-else-next-bytes : goal.returns-else-next-bytes
returns-else-next-bytes c =
    let l = length-drop c.loop-left.next c.args.bytes.now in
    sym (no_byte c.args.least c.args.most c.loop-left.read c.loop-left.left c.loop-left.next (drop c.loop-left.next c.args.bytes.now) (omega (arith, l, c.if-next-bytes.false))) ∙ c.loop-left.invariant.4

pub returns-after-loop-left : goal.returns-after-loop-left
returns-after-loop-left c =
    let none : c.loop-left.left ≡ 0 = omega (arith, c.loop-left-test.false) in
    sym (ap (λ k. place_of (digits k c.args.least c.args.most c.loop-left.read (drop c.loop-left.next c.args.bytes.now) c.loop-left.next)) none ∙ no_more c.args.least c.args.most c.loop-left.read c.loop-left.next (drop c.loop-left.next c.args.bytes.now)) ∙ c.loop-left.invariant.4
