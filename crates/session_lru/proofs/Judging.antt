-- What a table answers is the verdict of the history that it stands for.
use Rattle.std.proofs.Common.{◌≡◌, ◌≢◌, ℕ, List, [], ◌∷◌, ◌++◌, Bool, true, false, cond, Option, Some, None, max, refl, sym, ap, ◌∙◌, arith}
use Rattle.std.specs.Prelude.{nat_le, nat_lt}
use Rattle.std.specs.Option.{is_some}
use Rattle.std.proofs.lemmas.Bool.Decides.{nat_tests}
use Rattle.host_ids.specs.declared.proposal.Proposal.{Proposal}
use Rattle.host_ids.specs.declared.proposal.Proposal.TheVariants as proposals
use Rattle.host_ids.specs.declared.verdict.Verdict.TheVariants as verdicts
use Rattle.object_model.specs.Sequence.{has, stands, raised, verdict, command_verdict}
use Rattle.object_model.specs.Laws.{ActsOnce, StaysGone}
use Rattle.session_lru.specs.declared.session.Session.{Session}
use Rattle.session_lru.specs.Table.{Table}
use Rattle.session_lru.specs.Calls.{session_of, kept_reply, register_verdict, close_verdict, admit_verdict}
use Rattle.session_lru.specs.Law.{replied, Holds, StandsFor, HasActed, IsGone}
use Rattle.session_lru.proofs.Lookups.{clients, has_found, has_reverse}
use Rattle.session_lru.proofs.Holding.{holds_found}

-- a client has a session where it stands
pub stood_is : (h : List Proposal) (t : Table) (client : ℕ) → StandsFor h t → is_some (session_of client t) ≡ stands t.limit client h
stood_is h t client s = sym (has_found client t.sessions) ∙ sym (has_reverse client (clients t.sessions)) ∙ ap (λ (l : List ℕ). has client l) s.clients

pub stands_some : (h : List Proposal) (t : Table) (client : ℕ) (s : Session) → StandsFor h t → session_of client t ≡ Some s → stands t.limit client h ≡ true
stands_some h t client s f e = sym (stood_is h t client f) ∙ ap (λ (o : Option Session). is_some o) e

pub stands_none : (h : List Proposal) (t : Table) (client : ℕ) → StandsFor h t → session_of client t ≡ None → stands t.limit client h ≡ false
stands_none h t client f e = sym (stood_is h t client f) ∙ ap (λ (o : Option Session). is_some o) e

pub held : (h : List Proposal) (t : Table) (client : ℕ) (s : Session) → StandsFor h t → session_of client t ≡ Some s → Holds t.limit h client s
held h t client s f e = holds_found t.limit client h t.sessions s e f.sessions

-- ---- a register and a close

register_by : (o : Option Session) (stood : Bool) → is_some o ≡ stood → register_verdict o ≡ cond stood verdicts.Taken verdicts.Acts
register_by None stood e = rw (sym e) refl
register_by (Some s) stood e = rw (sym e) refl

pub register_judged : (h : List Proposal) (t : Table) (client : ℕ) → StandsFor h t → register_verdict (session_of client t) ≡ verdict t.limit h (proposals.Register client)
register_judged h t client s = register_by (session_of client t) (stands t.limit client h) (stood_is h t client s)

close_by : (o : Option Session) (stood : Bool) → is_some o ≡ stood → close_verdict o ≡ cond stood verdicts.Acts verdicts.NotStanding
close_by None stood e = rw (sym e) refl
close_by (Some s) stood e = rw (sym e) refl

pub close_judged : (h : List Proposal) (t : Table) (client : ℕ) → StandsFor h t → close_verdict (session_of client t) ≡ verdict t.limit h (proposals.Close client)
close_judged h t client s = close_by (session_of client t) (stands t.limit client h) (stood_is h t client s)

-- ---- a command

-- up to the bound, a series is responded, whatever it was replied
is_responded : (bound series : ℕ) (found : Option (List ℕ)) → nat_le series bound ≡ true → command_verdict true bound series found ≡ verdicts.Responded
is_responded bound series None e = rw e refl
is_responded bound series (Some reply) e = rw e refl

-- a reply at or below the responded value makes no difference
above_matter : (value responded series : ℕ) (found : Option (List ℕ)) → command_verdict true (max value responded) series (cond (nat_lt value series) found None) ≡ command_verdict true (max value responded) series found
above_matter value responded series found = elim (nat_lt value series) as (λ b. nat_lt value series ≡ b → command_verdict true (max value responded) series (cond b found None) ≡ command_verdict true (max value responded) series found) [
  | true ↦ λ q. refl
  | false ↦ λ q. (let upto : nat_le series (max value responded) ≡ true = grind (arith, nat_tests) in is_responded (max value responded) series None upto ∙ sym (is_responded (max value responded) series found upto))
] refl

admit_some : (limit client series responded : ℕ) (h : List Proposal) (s : Session) → Holds limit h client s → command_verdict true (max s.responded responded) series (kept_reply series s) ≡ command_verdict true (max (raised limit client h) responded) series (replied limit h client series)
admit_some limit client series responded h s o =
    ap (λ (f : Option (List ℕ)). command_verdict true (max s.responded responded) series f) (o.replies series) ∙ above_matter s.responded responded series (replied limit h client series)
    ∙ ap (λ (v : ℕ). command_verdict true (max v responded) series (replied limit h client series)) o.responded

admit_by : (limit client series responded : ℕ) (h : List Proposal) (o : Option Session) (stood : Bool) → is_some o ≡ stood → ((s : Session) → o ≡ Some s → Holds limit h client s)
    → admit_verdict o series responded ≡ command_verdict stood (max (raised limit client h) responded) series (replied limit h client series)
admit_by limit client series responded h None stood e held = rw (sym e) refl
admit_by limit client series responded h (Some s) stood e held = rw (sym e) (admit_some limit client series responded h s (held s refl))

pub admit_judged : (h : List Proposal) (t : Table) (client series responded : ℕ) (command : List ℕ) → StandsFor h t → admit_verdict (session_of client t) series responded ≡ verdict t.limit h (proposals.Session client series responded command)
admit_judged h t client series responded command f =
    admit_by t.limit client series responded h (session_of client t) (stands t.limit client h) (stood_is h t client f) (λ s e. held h t client s f e)

-- ---- at most once

pub admits_once : ActsOnce → (t : Table) (client series responded : ℕ) → HasActed client series t → admit_verdict (session_of client t) series responded ≢ verdicts.Acts
admits_once once t client series responded a e =
    let p : Proposal = proposals.Session client series a.responded a.command in
    once t.limit client series a.responded responded a.command [] a.older a.newer a.acts a.none
    (sym (admit_judged (a.newer ++ p ∷ a.older) t client series responded [] a.stands) ∙ e)

pub stays_refused : StaysGone → (t : Table) (client series responded : ℕ) → IsGone client t → admit_verdict (session_of client t) series responded ≡ verdicts.NotStanding
stays_refused gone t client series responded g =
    admit_judged (g.newer ++ g.older) t client series responded [] g.stands ∙ gone t.limit client series responded [] g.older g.newer g.gone g.none
