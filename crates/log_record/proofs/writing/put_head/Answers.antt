use Rattle.std.proofs.Common.{◌≡◌, List, [], ◌∷◌, ◌++◌, ℕ, ap, ◌∙◌, arith}
use Rattle.wire_codec.specs.Reading.{number_bytes}
use Rattle.log_record.specs.declared.record.TheConstants.{BATCH}
use Rattle.log_record.specs.Record.{head_bytes}
use Rattle.log_record.proofs.Written.{more, on_ok, small}
use Rattle.log_record.proofs.writing.put_head.Goals as goal

pub returns-clause-bytes : goal.returns-clause-bytes
returns-clause-bytes c =
    let old = c.args.out.now.items in
    let a : List ℕ = BATCH ∷ [] in
    let b = a ++ number_bytes 8 c.args.term in
    let d = b ++ number_bytes 1 c.args.vote in
    let e = d ++ number_bytes 8 c.args.commit in
    let f = e ++ number_bytes 8 c.args.front in
    let g = f ++ number_bytes 8 c.args.front_term in
    let vote : c.push-2.new.self.items ≡ c.write_64.new.out.items ++ number_bytes 1 c.args.vote = c.in_ok-push-2.ensures.items ∙ ap (λ l. c.write_64.new.out.items ++ l) (small c.args.vote (omega (arith, c.ranges.vote.fits))) in
    let one = c.in_ok-push.ensures.items in
    let two = more old a (number_bytes 8 c.args.term) c.push.new.self.items c.write_64.new.out.items one c.in_ok-write_64.ensures.bytes in
    let three = more old b (number_bytes 1 c.args.vote) c.write_64.new.out.items c.push-2.new.self.items two vote in
    let four = more old d (number_bytes 8 c.args.commit) c.push-2.new.self.items c.write_64-2.new.out.items three c.in_ok-write_64-2.ensures.bytes in
    let five = more old e (number_bytes 8 c.args.front) c.write_64-2.new.out.items c.write_64-3.new.out.items four c.in_ok-write_64-3.ensures.bytes in
    let six = more old f (number_bytes 8 c.args.front_term) c.write_64-3.new.out.items c.write_64-4.new.out.items five c.in_ok-write_64-4.ensures.bytes in
    on_ok c.write_64-5.result (c.write_64-5.new.out.items ≡ c.write_64-4.new.out.items ++ number_bytes 8 c.args.first) (c.write_64-5.new.out.items ≡ old ++ head_bytes c.args.term c.args.vote c.args.commit c.args.front c.args.front_term c.args.first)
    (λ w. more old g (number_bytes 8 c.args.first) c.write_64-4.new.out.items c.write_64-5.new.out.items six w) c.write_64-5.ensures.bytes
