use Rattle.std.proofs.Common.{◌≡◌, ◌≤◌, ◌∷◌, sym, ◌∙◌, subst, refl, arith}
use Rattle.session_lru.specs.Table.{Table}
use Rattle.session_lru.specs.Calls.{session_of, register_verdict, registered}
use Rattle.session_lru.specs.Law.{StandsFor}
use Rattle.host_ids.specs.declared.proposal.Proposal.TheVariants as proposals
use Rattle.host_ids.specs.declared.verdict.Verdict.TheVariants as verdicts
use Rattle.session_lru.proofs.Putting.{is_taken, is_new, put_new}
use Rattle.session_lru.proofs.Judging.{register_judged}
use Rattle.session_lru.proofs.Standing.{register_stands}
use Rattle.session_lru.proofs.Tables.{limit_one, registered_table}
use Rattle.session_lru.proofs.table.SessionTable.register.Goals as goal

pub returns-then-contains-clause-judges : goal.returns-then-contains-clause-judges
returns-then-contains-clause-judges c = λ h s.
    (let found = is_taken c.args.client c.self.inside.cache.entries (sym c.if-contains.ensures) in
    let answer : register_verdict (session_of c.args.client c.args.self.now) ≡ verdicts.Taken = rw (← c.self.view_is, found.1) refl in
    sym answer ∙ register_judged h c.args.self.now c.args.client s)

pub returns-then-contains-clause-stands : goal.returns-then-contains-clause-stands
returns-then-contains-clause-stands c = λ h s.
    (let one : 1 ≤ c.args.self.now.limit = rw (← c.self.view_is) (limit_one c.self.inside.cache.cap c.self.inside.cache.entries c.self.invariant) in
    let found = is_taken c.args.client c.self.inside.cache.entries (sym c.if-contains.ensures) in
    let same : registered c.args.client (session_of c.args.client c.args.self.now) c.args.self.now ≡ c.args.self.now = rw (← c.self.view_is, found.1) refl in
    subst (λ (t : Table). StandsFor (proposals.Register c.args.client ∷ h) t) same (register_stands h c.args.self.now c.args.client one s))

pub returns-clause-table : goal.returns-clause-table
returns-clause-table c =
    let es = c.self.inside.cache.entries in
    let absent = is_new c.args.client es (sym c.if-contains.ensures) in
    rw (← c.self.view_is, absent, c.in_ok-put.ensures.entries, put_new c.args.client es c.self.inside.cache.cap _ absent, c.new.ensures) refl

pub returns-clause-judges : goal.returns-clause-judges
returns-clause-judges c = λ h s.
    (let absent = is_new c.args.client c.self.inside.cache.entries (sym c.if-contains.ensures) in
    let answer : register_verdict (session_of c.args.client c.args.self.now) ≡ verdicts.Acts = rw (← c.self.view_is, absent) refl in
    sym answer ∙ register_judged h c.args.self.now c.args.client s)

pub returns-clause-stands : goal.returns-clause-stands
returns-clause-stands c = λ h s.
    (let one : 1 ≤ c.args.self.now.limit = rw (← c.self.view_is) (limit_one c.self.inside.cache.cap c.self.inside.cache.entries c.self.invariant) in
    subst (λ (t : Table). StandsFor (proposals.Register c.args.client ∷ h) t) (sym (returns-clause-table c)) (register_stands h c.args.self.now c.args.client one s))

pub invariant_of-self-2 : goal.invariant_of-self-2
invariant_of-self-2 c =
    let es = c.self.inside.cache.entries in
    let absent = is_new c.args.client es (sym c.if-contains.ensures) in
    rw (c.in_ok-put.ensures.entries, put_new c.args.client es c.self.inside.cache.cap _ absent, c.new.ensures)
    (registered_table c.args.client (record { limit = c.self.inside.cache.cap; sessions = es }) c.self.invariant c.requires (omega (arith, c.ranges.client.fits)) absent)
