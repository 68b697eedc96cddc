use Rattle.std.proofs.Common.{rules, ◌≡◌, ◌+◌, Ok, Err, ap, sym, ◌∙◌}
use Rattle.wire_codec.specs.Entry.{entry_at}
use Rattle.log_record.proofs.Many.{one_read, refused, all_read}
use Rattle.log_record.proofs.reading.read_many.Goals as goal

pub returns-in_err-entry-clause-not_envelope : goal.returns-in_err-entry-clause-not_envelope
returns-in_err-entry-clause-not_envelope c = λ place e.
    (let o : entry_at (c.args.first + c.from.result) c.args.bytes.now c.loop-read.next ≡ Err place = search rules in
    refused c.args.bytes.now c.args.first c.args.count c.args.at c.loop-read.entries.items c.loop-read.read c.loop-read.next c.loop-read.invariant place c.loop-read-test.true
    (ap (λ k. entry_at (c.args.first + k) c.args.bytes.now c.loop-read.next) (sym c.from.ensures) ∙ o))

pub loop-read-preserved : goal.loop-read-preserved
loop-read-preserved c =
    let o : entry_at (c.args.first + c.loop-read.read) c.args.bytes.now c.loop-read.next ≡ Ok (c.in_ok-entry.entry, c.in_ok-entry.after) = ap (λ k. entry_at (c.args.first + k) c.args.bytes.now c.loop-read.next) (sym c.from.ensures) ∙ c.in_ok-entry.ensures.entry in
    let g = one_read c.args.bytes.now c.args.first c.args.count c.args.at c.loop-read.entries.items c.loop-read.read c.loop-read.next c.loop-read.invariant c.in_ok-entry.after c.in_ok-entry.entry c.loop-read-test.true o c.in_ok-entry.ensures.stands.within in
    rw c.in_ok-push.ensures.items g

pub returns-clause-entries : goal.returns-clause-entries
returns-clause-entries c =
    all_read c.args.bytes.now c.args.first c.args.count c.args.at c.loop-read.entries.items c.loop-read.read c.loop-read.next c.loop-read.invariant c.loop-read-test.false ∙ ap (λ l. Ok (l, c.loop-read.next)) (sym c.from_vec.ensures)
