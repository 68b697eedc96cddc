use Rattle.std.proofs.Common.{◌≡◌, ◌≤◌, ◌∷◌, sym, ◌∙◌, subst, refl, rules, nat_eq, Some}
use Rattle.std.specs.Map.{lookup}
use Rattle.host_ids.specs.declared.proposal.Proposal.TheVariants as proposals
use Rattle.session_lru.specs.Table.{Table}
use Rattle.session_lru.specs.Calls.{MayKeep}
use Rattle.session_lru.specs.Law.{StandsFor}
use Rattle.session_lru.proofs.Putting.{touched, found_again, same_value}
use Rattle.session_lru.proofs.Judging.{admit_judged, admits_once, stays_refused}
use Rattle.session_lru.proofs.Standing.{admit_stands}
use Rattle.session_lru.proofs.Keeping.{may_keep}
use Rattle.session_lru.proofs.table.SessionTable.admit.Goals.{in-Some-get_mut, in_default}
use Rattle.session_lru.proofs.Tables.{limit_one, admitted_table}
use Rattle.session_lru.proofs.table.SessionTable.admit.Goals as goal

-- ---- a client without a session

pub returns-in-None-clause-verdict : goal.returns-in-None-clause-verdict
returns-in-None-clause-verdict c = search rules

pub returns-in-None-clause-table : goal.returns-in-None-clause-table
returns-in-None-clause-table c = search rules

pub returns-in-None-clause-judges : goal.returns-in-None-clause-judges
returns-in-None-clause-judges c = λ h command s. returns-in-None-clause-verdict c ∙ admit_judged h c.args.self.now c.args.client c.args.series c.args.responded command s

pub returns-in-None-clause-stands : goal.returns-in-None-clause-stands
returns-in-None-clause-stands c = λ h command s na.
    (let one : 1 ≤ c.args.self.now.limit = rw (← c.self.view_is) (limit_one c.self.inside.cache.cap c.self.inside.cache.entries c.self.invariant) in
    subst (λ (t : Table). StandsFor (proposals.Session c.args.client c.args.series c.args.responded command ∷ h) t) (sym (returns-in-None-clause-table c))
    (admit_stands h c.args.self.now c.args.client c.args.series c.args.responded command one s (λ e. na (returns-in-None-clause-verdict c ∙ e))))

-- ---- a client with one

pub returns-clause-verdict : goal.returns-clause-verdict
returns-clause-verdict c = search rules

pub returns-clause-table : goal.returns-clause-table
returns-clause-table c =
    let es = c.self.inside.cache.entries in
    let x = c.in-Some.session.now in
    let there : lookup (nat_eq c.args.client) es ≡ Some x = sym c.in-Some.ensures in
    elim c.match-get_mut.branch [
      | in-Some-get_mut w ↦ rw (← c.self.view_is, w.self-inside-is, there, w.raise.ensures, touched c.args.client es x _ there, same_value c.args.client es w.in-Some-get_mut.session.now x w.in-Some-get_mut.ensures.value there) refl
      | in_default w ↦ found_again c.args.client es x (sym w.in_default.ensures.value) there
    ]

pub returns-clause-judges : goal.returns-clause-judges
returns-clause-judges c = λ h command s. returns-clause-verdict c ∙ admit_judged h c.args.self.now c.args.client c.args.series c.args.responded command s

pub returns-clause-stands : goal.returns-clause-stands
returns-clause-stands c = λ h command s na.
    (let one : 1 ≤ c.args.self.now.limit = rw (← c.self.view_is) (limit_one c.self.inside.cache.cap c.self.inside.cache.entries c.self.invariant) in
    subst (λ (t : Table). StandsFor (proposals.Session c.args.client c.args.series c.args.responded command ∷ h) t) (sym (returns-clause-table c))
    (admit_stands h c.args.self.now c.args.client c.args.series c.args.responded command one s (λ e. na (returns-clause-verdict c ∙ e))))

pub returns-clause-awaits : goal.returns-clause-awaits
returns-clause-awaits c = λ h command s acts. record {
  before = c.args.self.now;
  stood = s;
  acts = sym (returns-clause-judges c h command s) ∙ acts;
  admits = returns-clause-table c;
}

pub returns-clause-once : goal.returns-clause-once
returns-clause-once c = λ a e. admits_once c.acts_once.ensures c.args.self.now c.args.client c.args.series c.args.responded a (sym (returns-clause-verdict c) ∙ e)

pub returns-clause-gone : goal.returns-clause-gone
returns-clause-gone c = λ g. returns-clause-verdict c ∙ stays_refused c.stays_gone.ensures c.args.self.now c.args.client c.args.series c.args.responded g

pub returns-clause-may_keep : goal.returns-clause-may_keep
returns-clause-may_keep c = λ reply short e.
    subst (λ (t : Table). MayKeep c.args.client c.args.series reply t) (sym (returns-clause-table c))
    (may_keep c.args.client c.args.series c.args.responded reply c.args.self.now (sym (returns-clause-verdict c) ∙ e) short)

pub invariant_of-self : goal.invariant_of-self
invariant_of-self c =
    let es = c.self.inside.cache.entries in
    let x = c.in-Some.session.now in
    let there : lookup (nat_eq c.args.client) es ≡ Some x = sym c.in-Some.ensures in
    elim c.match-get_mut.branch [
      | in-Some-get_mut w ↦ rw (w.self-inside-is, w.raise.ensures, touched c.args.client es x _ there, same_value c.args.client es w.in-Some-get_mut.session.now x w.in-Some-get_mut.ensures.value there)
          (admitted_table c.args.client c.args.responded x (record { limit = c.self.inside.cache.cap; sessions = es }) c.self.invariant c.requires.responded_in there)
      | in_default w ↦ found_again c.args.client es x (sym w.in_default.ensures.value) there
    ]
