use Rattle.std.proofs.Common.{◌≡◌, ℕ, ◌+◌, ◌-◌, ◌≤◌, suc, sym, subst, refl, inl, inr, arith}
use Rattle.session_lru.proofs.Exits.{handed_on}
use Rattle.session_lru.proofs.Places.{same_place, err_at, limit_cut, limit_refused, number_cut, number_refused, number_there}
use Rattle.session_lru.proofs.Opening.{Opened, none_opened, one_opened, not_opened, goes_on, all_opened}
use Rattle.session_lru.proofs.Opened.{spells_one, are_bytes}
use Rattle.session_lru.proofs.table.SessionTable.from_image.Goals as goal

pub returns-in-None-clause-not_table : goal.returns-in-None-clause-not_table
returns-in-None-clause-not_table c = λ place e.
    err_at _ 0 place (same_place 0 place e) (limit_cut 0 c.args.bytes.now (c.in-None.ensures.cut refl))

pub returns-then-limit-eq0-clause-not_table : goal.returns-then-limit-eq0-clause-not_table
returns-then-limit-eq0-clause-not_table c = λ place e.
    err_at _ 0 place (same_place 0 place e)
    (limit_refused c.in-Some.limit c.args.bytes.now c.in-Some.ensures.there c.in-Some.ensures.number (elim c.then-limit-eq0.either [ inl l ↦ inl l | inr p ↦ inr p.1 ]))

pub returns-in-None-number_32-clause-not_table : goal.returns-in-None-number_32-clause-not_table
returns-in-None-number_32-clause-not_table c = λ place e.
    (let one : 1 ≤ c.in-Some.limit = omega (arith, c.if-limit-eq0.false) in
    err_at _ 4 place (same_place 4 place e) (number_cut c.in-Some.limit c.args.bytes.now c.in-Some.ensures.there c.in-Some.ensures.number one c.if-limit-gt-MOST_SESSIONS.false (c.in-None-number_32.ensures.cut refl)))

pub returns-then-limit-count-clause-not_table : goal.returns-then-limit-count-clause-not_table
returns-then-limit-count-clause-not_table c = λ place e.
    (let one : 1 ≤ c.in-Some.limit = omega (arith, c.if-limit-eq0.false) in
    err_at _ 4 place (same_place 4 place e) (number_refused c.in-Some.limit c.args.bytes.now c.in-Some.ensures.there c.in-Some.ensures.number one c.if-limit-gt-MOST_SESSIONS.false c.in-Some-number_32.count c.in-Some-number_32.ensures.there c.in-Some-number_32.ensures.number c.if-limit-count.true))

pub loop-read-init : goal.loop-read-init
loop-read-init c =
    let one : 1 ≤ c.in-Some.limit = omega (arith, c.if-limit-eq0.false) in
    none_opened c.args.bytes.now c.in-Some.limit c.in-Some-number_32.count c.in_ok-table.table c.in-Some-number_32.ensures.there c.in_ok-table.ensures.table (number_there c.in-Some.limit c.args.bytes.now c.in-Some.ensures.there c.in-Some.ensures.number one c.if-limit-gt-MOST_SESSIONS.false c.in-Some-number_32.count c.in-Some-number_32.ensures.there c.in-Some-number_32.ensures.number c.if-limit-count.false)

pub loop-read-preserved : goal.loop-read-preserved
loop-read-preserved c =
    let next : suc c.loop-read.read ≡ c.loop-read.read + 1 = omega arith in
    subst (λ (k : ℕ). Opened c.args.bytes.now c.in-Some.limit c.in-Some-number_32.count c.read_session.new.self c.in_ok-at.at k) next
    (one_opened c.args.bytes.now c.in-Some.limit c.in-Some-number_32.count c.loop-read.table c.read_session.new.self c.loop-read.at c.in_ok-at.at c.loop-read.read c.loop-read.invariant c.loop-read-test.true
    (c.in_ok-at.ensures.reads (c.in-Some-number_32.count - suc c.loop-read.read)) c.in_ok-at.ensures.within c.in_ok-at.ensures.limit c.in_ok-at.ensures.longer)

pub returns-in_err-at-clause-not_table : goal.returns-in_err-at-clause-not_table
returns-in_err-at-clause-not_table c = λ place e.
    not_opened c.args.bytes.now c.in-Some.limit c.in-Some-number_32.count c.loop-read.table c.loop-read.at c.loop-read.read place c.loop-read.invariant c.loop-read-test.true
    (c.in_err-at.ensures.not_table (c.in-Some-number_32.count - suc c.loop-read.read) place (handed_on c.from_residual-in_err-at.result c.in_err-at.field-0.0 place c.from_residual-in_err-at.ensures.1 e))

pub returns-then-at-bytes-clause-not_table : goal.returns-then-at-bytes-clause-not_table
returns-then-at-bytes-clause-not_table c = λ place e.
    err_at _ c.loop-read.at place (same_place c.loop-read.at place e)
    (goes_on c.args.bytes.now c.in-Some.limit c.in-Some-number_32.count c.loop-read.table c.loop-read.at c.loop-read.read c.loop-read.invariant c.loop-read-test.false c.if-at-bytes.true)

pub returns-clause-table : goal.returns-clause-table
returns-clause-table c = all_opened c.args.bytes.now c.in-Some.limit c.in-Some-number_32.count c.loop-read.table c.loop-read.at c.loop-read.read c.loop-read.invariant c.loop-read-test.false c.if-at-bytes.false

pub returns-clause-image : goal.returns-clause-image
returns-clause-image c =
    let bytes = are_bytes c.args.bytes.now (λ i. omega (arith, (c.type_inv.bytes i).fits)) in
    sym (spells_one c.args.bytes.now c.loop-read.table bytes (returns-clause-table c)).1
