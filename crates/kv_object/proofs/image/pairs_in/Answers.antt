use Rattle.std.proofs.Common.{rules, ◌≡◌, ◌<◌, length, ◌∙◌}
use Rattle.std.specs.Option.{option_copied}
use Rattle.std.specs.BTreeMap.{insert_entry}
use Rattle.std.proofs.lemmas.Result.{err_from_is_err_and}
use Rattle.object_model.specs.Object.{key_order}
use Rattle.kv_object.proofs.Ahead.{goes_on, fails, ends, stays}
use Rattle.kv_object.proofs.image.pairs_in.Goals as goal

pub returns-in_err-found-clause-not_image : goal.returns-in_err-found-clause-not_image
returns-in_err-found-clause-not_image c = λ place h.
    let p = err_from_is_err_and c.from_residual.result c.from_residual.ensures.1 in
    fails _ _ c.args.count c.loop.counter c.loop.at place c.loop.held.entries (option_copied c.loop.before) c.loop.rest.now c.loop-test.true
    (λ n. c.pair_in.ensures.not_image place n (cc (p.1, p.2, h))) c.loop.invariant

pub loop-preserved : goal.loop-preserved
loop-preserved c =
    let found = c.in_ok-found.found in
    let entries : c.put_pair.new.held.entries ≡ insert_entry key_order c.loop.held.entries found.key.now found.value.now = c.in_ok-put_pair.ensures in
    rw entries (goes_on _ _ c.args.count c.loop.counter c.loop.at c.loop.held.entries (option_copied c.loop.before) c.loop.rest.now found.key.now found.value.now found.rest.now c.loop-test.true
    (record { step = c.in_ok-found.ensures.pair; next = c.in_ok-found.ensures.next; room = c.in_ok-found.ensures.room }) c.loop.invariant)

pub returns-then-not-is_empty-clause-not_image : goal.returns-then-not-is_empty-clause-not_image
returns-then-not-is_empty-clause-not_image c = λ place h.
    let some : 0 < length c.loop.rest.now = search rules in
    let same : c.loop.at ≡ place = cc in
    let total = stays _ _ c.args.count c.loop.counter c.loop.at c.loop.held.entries (option_copied c.loop.before) c.loop.rest.now c.loop-test.false some c.loop.invariant in
    cc

pub returns-clause-pairs : goal.returns-clause-pairs
returns-clause-pairs c =
    let none : length c.loop.rest.now ≡ 0 = search rules in
    ends _ _ c.args.count c.loop.counter c.loop.at c.loop.held.entries (option_copied c.loop.before) c.loop.rest.now c.loop-test.false none c.loop.invariant
