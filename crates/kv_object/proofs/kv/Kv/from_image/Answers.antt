use Rattle.std.proofs.Common.{arith, ◌≡◌, Ok, sym, ◌∙◌}
use Rattle.object_model.specs.Image.{AreBytes, read_image}
use Rattle.kv_object.proofs.Ahead.{are_bytes}
use Rattle.kv_object.proofs.kv.Kv.from_image.Goals as goal

pub invariant_of-result : goal.invariant_of-result
invariant_of-result c =
    let bytes : AreBytes c.args.bytes.now = are_bytes c.args.bytes.now (λ i. omega (arith, c.type_inv.bytes i)) in
    let read : read_image c.args.bytes.now ≡ Ok c.in_ok-held.held.entries = c.in_ok-count.ensures.count ∙ c.in_ok-held.ensures.pairs in
    (c.images_are_read.ensures.one c.args.bytes.now c.in_ok-held.held.entries bytes read).0

pub returns-clause-image : goal.returns-clause-image
returns-clause-image c =
    let bytes : AreBytes c.args.bytes.now = are_bytes c.args.bytes.now (λ i. omega (arith, c.type_inv.bytes i)) in
    let read : read_image c.args.bytes.now ≡ Ok c.in_ok-held.held.entries = c.in_ok-count.ensures.count ∙ c.in_ok-held.ensures.pairs in
    sym (c.images_are_read.ensures.one c.args.bytes.now c.in_ok-held.held.entries bytes read).1
