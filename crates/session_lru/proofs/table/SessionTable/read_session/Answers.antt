use Rattle.std.proofs.Common.{◌≡◌, ◌+◌, ◌≤◌, ◌<◌, sym, ◌∙◌, subst, refl, inl, inr, arith, length, true, false}
use Rattle.session_lru.specs.Table.{Table}
use Rattle.session_lru.specs.Section.{has_client}
use Rattle.session_lru.proofs.Exits.{handed_on}
use Rattle.session_lru.proofs.Tables.{among}
use Rattle.session_lru.proofs.Places.{same_place, err_at, client_cut, client_refused, responded_cut, responded_refused, count_cut, replies_fail, replies_there}
use Rattle.session_lru.proofs.table.SessionTable.read_session.Goals.{then-client-eq0-via-then-client-eq0, then-client-eq0-via-else-client-eq0+then-contains}
use Rattle.session_lru.proofs.table.SessionTable.read_session.Goals as goal

pub returns-in-None-clause-not_table : goal.returns-in-None-clause-not_table
returns-in-None-clause-not_table c = λ n place e.
    err_at _ c.args.at place (same_place c.args.at place e) (client_cut n c.args.self.now.sessions c.args.at 0 c.args.bytes.now c.requires.at_in (c.in-None.ensures.cut refl))

pub returns-then-client-eq0-clause-not_table : goal.returns-then-client-eq0-clause-not_table
returns-then-client-eq0-clause-not_table c = λ n place e.
    err_at _ c.args.at place (same_place c.args.at place e)
    (client_refused n c.args.self.now.sessions c.args.at c.in-Some.client c.args.bytes.now c.in-Some.ensures.there c.in-Some.ensures.number
    (elim c.then-client-eq0.branch [
      | then-client-eq0-via-then-client-eq0 w ↦ inl w.if-client-eq0.true
      | then-client-eq0-via-else-client-eq0+then-contains w ↦ inr (subst (λ (t : Table). has_client c.in-Some.client t.sessions ≡ true) c.self.view_is (among c.in-Some.client c.self.inside.cache.entries ∙ sym w.if-contains.ensures))
    ]))

pub returns-in-None-number_64-clause-not_table : goal.returns-in-None-number_64-clause-not_table
returns-in-None-number_64-clause-not_table c = λ n place e.
    (let new : has_client c.in-Some.client c.args.self.now.sessions ≡ false = subst (λ (t : Table). has_client c.in-Some.client t.sessions ≡ false) c.self.view_is (among c.in-Some.client c.self.inside.cache.entries ∙ sym c.if-contains.ensures) in
    let one : 1 ≤ c.in-Some.client = omega (arith, c.if-client-eq0.false) in
    let cut : length c.args.bytes.now < c.args.at + 8 + 8 = c.in-None-number_64.ensures.cut refl in
    err_at _ (c.args.at + 8) place (same_place (c.args.at + 8) place e) (responded_cut n c.args.self.now.sessions c.args.at c.in-Some.client c.args.bytes.now c.in-Some.ensures.there c.in-Some.ensures.number one new (omega (arith, cut))))

pub returns-then-responded-gt-MOST_SERIES-clause-not_table : goal.returns-then-responded-gt-MOST_SERIES-clause-not_table
returns-then-responded-gt-MOST_SERIES-clause-not_table c = λ n place e.
    (let new : has_client c.in-Some.client c.args.self.now.sessions ≡ false = subst (λ (t : Table). has_client c.in-Some.client t.sessions ≡ false) c.self.view_is (among c.in-Some.client c.self.inside.cache.entries ∙ sym c.if-contains.ensures) in
    let one : 1 ≤ c.in-Some.client = omega (arith, c.if-client-eq0.false) in
    let there : c.args.at + 8 + 8 ≤ length c.args.bytes.now = c.in-Some-number_64.ensures.there in
    let within : c.args.at + 16 ≤ length c.args.bytes.now = omega (arith, there) in
    err_at _ (c.args.at + 8) place (same_place (c.args.at + 8) place e) (responded_refused n c.args.self.now.sessions c.args.at c.in-Some.client c.args.bytes.now c.in-Some.ensures.there c.in-Some.ensures.number one new c.in-Some-number_64.responded within c.in-Some-number_64.ensures.number c.if-responded-gt-MOST_SERIES.true))

pub returns-in-None-number_32-clause-not_table : goal.returns-in-None-number_32-clause-not_table
returns-in-None-number_32-clause-not_table c = λ n place e.
    (let new : has_client c.in-Some.client c.args.self.now.sessions ≡ false = subst (λ (t : Table). has_client c.in-Some.client t.sessions ≡ false) c.self.view_is (among c.in-Some.client c.self.inside.cache.entries ∙ sym c.if-contains.ensures) in
    let one : 1 ≤ c.in-Some.client = omega (arith, c.if-client-eq0.false) in
    let there : c.args.at + 8 + 8 ≤ length c.args.bytes.now = c.in-Some-number_64.ensures.there in
    let within : c.args.at + 16 ≤ length c.args.bytes.now = omega (arith, there) in
    let cut : length c.args.bytes.now < c.args.at + 16 + 4 = c.in-None-number_32.ensures.cut refl in
    err_at _ (c.args.at + 16) place (same_place (c.args.at + 16) place e) (count_cut n c.args.self.now.sessions c.args.at c.in-Some.client c.args.bytes.now c.in-Some.ensures.there c.in-Some.ensures.number one new c.in-Some-number_64.responded within c.in-Some-number_64.ensures.number c.if-responded-gt-MOST_SERIES.false (omega (arith, cut))))

pub returns-in_err-replies-clause-not_table : goal.returns-in_err-replies-clause-not_table
returns-in_err-replies-clause-not_table c = λ n place e.
    (let new : has_client c.in-Some.client c.args.self.now.sessions ≡ false = subst (λ (t : Table). has_client c.in-Some.client t.sessions ≡ false) c.self.view_is (among c.in-Some.client c.self.inside.cache.entries ∙ sym c.if-contains.ensures) in
    let one : 1 ≤ c.in-Some.client = omega (arith, c.if-client-eq0.false) in
    let there : c.args.at + 8 + 8 ≤ length c.args.bytes.now = c.in-Some-number_64.ensures.there in
    let within : c.args.at + 16 ≤ length c.args.bytes.now = omega (arith, there) in
    let counts : c.args.at + 16 + 4 ≤ length c.args.bytes.now = c.in-Some-number_32.ensures.there in
    let has_count : c.args.at + 20 ≤ length c.args.bytes.now = omega (arith, counts) in
    replies_fail n c.args.self.now.sessions c.args.at c.in-Some.client c.args.bytes.now c.in-Some.ensures.there c.in-Some.ensures.number one new c.in-Some-number_64.responded within c.in-Some-number_64.ensures.number c.if-responded-gt-MOST_SERIES.false c.in-Some-number_32.count has_count c.in-Some-number_32.ensures.number place
    (c.in_err-replies.ensures.not_table place (handed_on c.from_residual.result c.in_err-replies.field-0.0 place c.from_residual.ensures.1 e)))

pub adopt-requires-clause-new : goal.adopt-requires-clause-new
adopt-requires-clause-new c = subst (λ (t : Table). has_client c.in-Some.client t.sessions ≡ false) c.self.view_is (among c.in-Some.client c.self.inside.cache.entries ∙ sym c.if-contains.ensures)

pub returns-clause-reads : goal.returns-clause-reads
returns-clause-reads c = λ n.
    (let new : has_client c.in-Some.client c.args.self.now.sessions ≡ false = subst (λ (t : Table). has_client c.in-Some.client t.sessions ≡ false) c.self.view_is (among c.in-Some.client c.self.inside.cache.entries ∙ sym c.if-contains.ensures) in
    let one : 1 ≤ c.in-Some.client = omega (arith, c.if-client-eq0.false) in
    let there : c.args.at + 8 + 8 ≤ length c.args.bytes.now = c.in-Some-number_64.ensures.there in
    let within : c.args.at + 16 ≤ length c.args.bytes.now = omega (arith, there) in
    let counts : c.args.at + 16 + 4 ≤ length c.args.bytes.now = c.in-Some-number_32.ensures.there in
    let has_count : c.args.at + 20 ≤ length c.args.bytes.now = omega (arith, counts) in
    rw c.in_ok-adopt.ensures.ok (replies_there n c.args.self.now.sessions c.args.at c.in-Some.client c.args.bytes.now c.in-Some.ensures.there c.in-Some.ensures.number one new c.in-Some-number_64.responded within c.in-Some-number_64.ensures.number c.if-responded-gt-MOST_SERIES.false c.in-Some-number_32.count has_count c.in-Some-number_32.ensures.number c.in_ok-replies.replies c.in_ok-replies.next c.in_ok-replies.ensures.reads))
