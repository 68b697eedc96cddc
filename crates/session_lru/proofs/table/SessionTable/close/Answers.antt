use Rattle.std.proofs.Common.{◌≡◌, ◌≤◌, ◌∷◌, sym, ◌∙◌, subst, rules}
use Rattle.session_lru.specs.Table.{Table}
use Rattle.session_lru.specs.Calls.{session_of, close_verdict}
use Rattle.session_lru.specs.Law.{StandsFor}
use Rattle.host_ids.specs.declared.proposal.Proposal.TheVariants as proposals
use Rattle.session_lru.proofs.Judging.{close_judged}
use Rattle.session_lru.proofs.Standing.{close_stands}
use Rattle.session_lru.proofs.Tables.{limit_one, closed_table}
use Rattle.session_lru.proofs.table.SessionTable.close.Goals as goal

pub returns-clause-table : goal.returns-clause-table
returns-clause-table c = search rules

pub returns-clause-judges : goal.returns-clause-judges
returns-clause-judges c = λ h s.
    (let answer : c.match-pop.result ≡ close_verdict (session_of c.args.client c.args.self.now) = search rules in
    answer ∙ close_judged h c.args.self.now c.args.client s)

pub returns-clause-stands : goal.returns-clause-stands
returns-clause-stands c = λ h s.
    (let one : 1 ≤ c.args.self.now.limit = rw (← c.self.view_is) (limit_one c.self.inside.cache.cap c.self.inside.cache.entries c.self.invariant) in
    subst (λ (t : Table). StandsFor (proposals.Close c.args.client ∷ h) t) (sym (returns-clause-table c)) (close_stands h c.args.self.now c.args.client one s))

pub invariant_of-self : goal.invariant_of-self
invariant_of-self c = rw c.pop.ensures.entries (closed_table c.args.client (record { limit = c.self.inside.cache.cap; sessions = c.self.inside.cache.entries }) c.self.invariant)
