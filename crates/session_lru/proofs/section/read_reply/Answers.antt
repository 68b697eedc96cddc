use Rattle.std.proofs.Common.{◌<◌, ◌≤◌, ◌+◌, ◌∙◌, refl, inl, inr, arith, length}
use Rattle.session_lru.proofs.Places.{same_place, err_at, series_cut, series_refused, size_cut, text_cut, text_there}
use Rattle.session_lru.proofs.section.read_reply.Goals as goal

pub returns-in-None-clause-not_table : goal.returns-in-None-clause-not_table
returns-in-None-clause-not_table c = λ n place e.
    err_at _ c.args.at place (same_place c.args.at place e) (series_cut n c.args.before c.args.at 0 c.args.bytes.now c.requires (c.in-None.ensures.cut refl))

pub returns-then-series-before-clause-not_table : goal.returns-then-series-before-clause-not_table
returns-then-series-before-clause-not_table c = λ n place e.
    err_at _ c.args.at place (same_place c.args.at place e)
    (series_refused n c.args.before c.args.at c.in-Some.series c.args.bytes.now c.in-Some.ensures.there c.in-Some.ensures.number
    (elim c.then-series-before.either [ inl l ↦ inl l | inr p ↦ inr p.1 ]))

pub returns-in-None-number_16-clause-not_table : goal.returns-in-None-number_16-clause-not_table
returns-in-None-number_16-clause-not_table c = λ n place e.
    (let cut : length c.args.bytes.now < c.args.at + 8 + 2 = c.in-None-number_16.ensures.cut refl in
    err_at _ (c.args.at + 8) place (same_place (c.args.at + 8) place e)
    (size_cut n c.args.before c.args.at c.in-Some.series c.args.bytes.now c.in-Some.ensures.there c.in-Some.ensures.number c.if-series-before.false c.if-series-gt-MOST_SERIES.false (omega (arith, cut))))

pub returns-in_ok-new-in-Some-part-clause-reads : goal.returns-in_ok-new-in-Some-part-clause-reads
returns-in_ok-new-in-Some-part-clause-reads c = λ n.
    (let there : c.args.at + 8 + 2 ≤ length c.args.bytes.now = c.in-Some-number_16.ensures.there in
    text_there n c.args.before c.args.at c.in-Some.series c.args.bytes.now c.in-Some.ensures.there c.in-Some.ensures.number c.if-series-before.false c.if-series-gt-MOST_SERIES.false
    c.from-size.result (omega (arith, there)) (c.from-size.ensures ∙ c.in-Some-number_16.ensures.number) c.in_ok-new-in-Some-part.field-0 c.in-Some-part.ensures.there
    (c.in_ok-new-in-Some-part.ensures ∙ c.in-Some-part.ensures.part))

pub returns-in-None-part-clause-not_table : goal.returns-in-None-part-clause-not_table
returns-in-None-part-clause-not_table c = λ n place e.
    (let there : c.args.at + 8 + 2 ≤ length c.args.bytes.now = c.in-Some-number_16.ensures.there in
    err_at _ (c.args.at + 10) place (same_place (c.args.at + 10) place e)
    (text_cut n c.args.before c.args.at c.in-Some.series c.args.bytes.now c.in-Some.ensures.there c.in-Some.ensures.number c.if-series-before.false c.if-series-gt-MOST_SERIES.false
    c.from-size.result (omega (arith, there)) (c.from-size.ensures ∙ c.in-Some-number_16.ensures.number) (c.in-None-part.ensures.cut refl)))
