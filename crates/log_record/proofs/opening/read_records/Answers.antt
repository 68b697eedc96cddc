use Rattle.std.proofs.Common.{arith, ◌≡◌, ℕ, Err, Some, true, sym, ap, subst, ◌∙◌, length, ◌<◌, IfSome}
use Rattle.log_record.specs.Record.{is_record}
use Rattle.log_record.specs.Store.{Opening, gated_at, begins}
use Rattle.wire_codec.specs.laws.Bytes.{are_bytes}
use Rattle.log_record.proofs.Standing.{is_gated_there}
use Rattle.log_record.proofs.Gating.{is_whole, Goes, named, refused, start, stops, no_record, must_not_follow, goes_on, begins_long}
use Rattle.log_record.proofs.opening.read_records.Goals as goal

pub returns-then-not-begins-clause-bad_store : goal.returns-then-not-begins-clause-bad_store
returns-then-not-begins-clause-bad_store c = λ f at e.
    (let n = named c.args.file f 0 at e in
    (sym n.0, refused c.args.file c.args.bytes.now (sym c.begins.ensures ∙ c.if-not-begins.true) ∙ ap (λ (x : ℕ). let o : Opening = Err x in o) n.1))

pub loop-opened-init : goal.loop-opened-init
loop-opened-init c =
    let b : begins c.args.bytes.now ≡ true = sym c.begins.ensures ∙ c.if-not-begins.false in
    let g = start c.args.file c.args.bytes.now b (begins_long c.args.bytes.now b) in
    subst (λ rs. Goes c.args.file c.args.bytes.now rs 8 c.new-2.result) (sym c.new.ensures.items) (subst (λ s. Goes c.args.file c.args.bytes.now _ 8 s) (sym c.new-2.ensures) g)

pub returns-in_default-clause-bad_store : goal.returns-in_default-clause-bad_store
returns-in_default-clause-bad_store c = λ f at e.
    (let n = named c.args.file f c.loop-opened.opened.gate at e in (
      sym n.0,
      no_record c.args.file c.args.bytes.now c.loop-opened.opened.records.items c.loop-opened.opened.gate c.loop-opened.opened.reached c.loop-opened.invariant c.loop-opened-test.true (sym c.in_ok-record.ensures.gated ∙ c.in_default.is)
          ∙ ap (λ (x : ℕ). let o : Opening = Err x in o) n.1,
    ))

pub returns-then-not-follows-clause-bad_store : goal.returns-then-not-follows-clause-bad_store
returns-then-not-follows-clause-bad_store c = λ f at e.
    (let n = named c.args.file f c.loop-opened.opened.gate at e in
    let g : gated_at c.args.bytes.now c.loop-opened.opened.gate ≡ Some (c.in-Some.record, c.in-Some.next) = sym c.in_ok-record.ensures.gated ∙ c.in-Some.is in (
      sym n.0,
      must_not_follow c.args.file c.args.bytes.now c.loop-opened.opened.records.items c.loop-opened.opened.gate c.loop-opened.opened.reached c.loop-opened.invariant c.loop-opened-test.true c.in-Some.record c.in-Some.next g (sym c.follows.ensures ∙ c.if-not-follows.true)
          ∙ ap (λ (x : ℕ). let o : Opening = Err x in o) n.1,
    ))

pub loop-opened-preserved : goal.loop-opened-preserved
loop-opened-preserved c =
    let g : gated_at c.args.bytes.now c.loop-opened.opened.gate ≡ Some (c.in-Some.record, c.in-Some.next) = sym c.in_ok-record.ensures.gated ∙ c.in-Some.is in
    let w = subst (λ o. IfSome o (λ r. (c.loop-opened.opened.gate < r.1) × (r.1 < length c.args.bytes.now) × (is_record r.0 ≡ true))) c.in-Some.is c.in_ok-record.ensures.within in
    let on = goes_on c.args.file c.args.bytes.now c.loop-opened.opened.records.items c.loop-opened.opened.gate c.loop-opened.opened.reached c.loop-opened.invariant c.loop-opened-test.true c.in-Some.record c.in-Some.next g (sym c.follows.ensures ∙ c.if-not-follows.false) w.0 w.1
    (is_gated_there c.args.bytes.now (are_bytes c.args.bytes.now (λ i. omega (arith, (c.type_inv.bytes i).fits))) c.loop-opened.opened.gate c.loop-opened.invariant.within c.loop-opened-test.true c.in-Some.record c.in-Some.next g) in
    rw (c.in_ok-push.ensures.items, c.take.ensures) on

pub returns-clause-records : goal.returns-clause-records
returns-clause-records c =
    stops c.args.file c.args.bytes.now c.loop-opened.opened.records.items c.loop-opened.opened.gate c.loop-opened.opened.reached c.loop-opened.invariant c.loop-opened-test.false

pub returns-clause-whole : goal.returns-clause-whole
returns-clause-whole c =
    is_whole c.args.file c.args.bytes.now c.loop-opened.opened.records.items c.loop-opened.opened.gate c.loop-opened.opened.reached c.loop-opened.invariant c.loop-opened-test.false
