use Rattle.std.proofs.Common.{◌≡◌, ◌≤◌, ◌∷◌, sym, subst, refl, rules, nat_eq, Some, ◌<◌}
use Rattle.std.specs.Map.{lookup}
use Rattle.std.proofs.lemmas.Map.Steps.{set_value_same}
use Rattle.host_ids.specs.declared.proposal.Proposal.TheVariants as proposals
use Rattle.session_lru.specs.Table.{Table}
use Rattle.session_lru.specs.Law.{StandsFor}
use Rattle.session_lru.proofs.Exits.{on_ok, on_err}
use Rattle.session_lru.proofs.Keeping.{keep_stands}
use Rattle.session_lru.proofs.table.SessionTable.keep.Goals.{in-Some, in-None+in-Long-1, in-None+in-Short-1}
use Rattle.session_lru.proofs.Tables.{limit_one, is_found, set_table, kept_either}
use Rattle.session_lru.proofs.Parts.{table_parts}
use Rattle.session_lru.proofs.Putting.{same_value}
use Rattle.session_lru.proofs.table.SessionTable.keep.Goals as goal

pub returns-clause-table : goal.returns-clause-table
returns-clause-table c = search rules

pub returns-clause-err : goal.returns-clause-err
returns-clause-err c = elim c.match-peek_mut.branch [
  | in-Some w ↦ (let there : lookup (nat_eq c.args.client) c.self.inside.cache.entries ≡ Some w.in-Some.session.now = sym w.in-Some.ensures.value in
      rw (w.result-is, w.self-inside-is) (on_err w.keep.result w.keep.ensures.err
      (λ e. rw (e, ← c.self.view_is, set_value_same (nat_eq c.args.client) c.self.inside.cache.entries w.in-Some.session.now there) refl)))
  | in-None+in-Long-1 w ↦ rw w.result-is tt
  | in-None+in-Short-1 w ↦ rw w.result-is tt
]

pub returns-clause-stands : goal.returns-clause-stands
returns-clause-stands c = λ h responded command a same.
    (let one : 1 ≤ c.args.self.now.limit = rw (← c.self.view_is) (limit_one c.self.inside.cache.cap c.self.inside.cache.entries c.self.invariant) in
    on_ok c.match-peek_mut.result (returns-clause-table c)
    (λ e. subst (λ (t : Table). StandsFor (proposals.Session c.args.client c.args.series responded command ∷ h) t) (sym e)
    (keep_stands h c.args.client c.args.series responded command c.args.reply c.args.self.now one a same)))

pub invariant_of-self : goal.invariant_of-self
invariant_of-self c =
    let es = c.self.inside.cache.entries in
    let t : Table = record { limit = c.self.inside.cache.cap; sessions = es } in
    elim c.match-peek_mut.branch [
      | in-Some w ↦
          (let s = w.in-Some.session.now in
          let there : lookup (nat_eq c.args.client) es ≡ Some s = sym w.in-Some.ensures.value in
          let stands : lookup (nat_eq c.args.client) es ≡ Some c.requires.may.session = rw (← c.self.view_is) at c.requires.may.stands in
          let same = same_value c.args.client es s c.requires.may.session (sym there) stands in
          let above : s.responded < c.args.series = rw same c.requires.may.above in
          let one = is_found c.args.client es s there (table_parts t c.self.invariant).sessions in
          rw w.self-inside-is (set_table c.args.client _ t c.self.invariant
          (kept_either w.keep.result c.args.client c.args.series c.args.reply s _ w.keep.ensures.ok w.keep.ensures.few w.keep.ensures.err one above c.requires.series_in.1 c.requires.may.short)))
      | in-None+in-Long-1 w ↦ rw w.self-inside-is c.self.invariant
      | in-None+in-Short-1 w ↦ rw w.self-inside-is c.self.invariant
    ]
