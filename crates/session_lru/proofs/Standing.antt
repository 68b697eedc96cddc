-- What a call makes of a table stands for the history with its proposal.
use Rattle.std.proofs.Common.{◌≡◌, ◌≢◌, ℕ, ◌==◌, ◌-◌, ◌≤◌, List, [], ◌∷◌, ◌++◌, true, false, Some, None, length, take, reverse, refl, sym, ap, ◌∙◌, subst, nat_eq, eqb-true, arith}
use Rattle.std.specs.Map.{remove_entry}
use Rattle.std.proofs.lemmas.Bool.Decides.{nat_tests}
use Rattle.std.proofs.lemmas.List.{reverse-reverse, length-reverse, take-map}
use Rattle.object_model.proofs.Lists.{all_map}
use Rattle.host_ids.specs.declared.proposal.Proposal.{Proposal}
use Rattle.host_ids.specs.declared.proposal.Proposal.TheVariants as proposals
use Rattle.host_ids.specs.declared.verdict.Verdict.{Verdict}
use Rattle.host_ids.specs.declared.verdict.Verdict.TheVariants as verdicts
use Rattle.object_model.specs.Sequence.{has, without, with_room, standing, stands, raised, after_all, does_act, verdict}
use Rattle.session_lru.specs.declared.session.Session.{Session}
use Rattle.session_lru.specs.Table.{Table}
use Rattle.session_lru.specs.Calls.{session_of, registered, closed, admit_verdict, admitted, raised_to}
use Rattle.session_lru.specs.Law.{Holds, StandsFor, OthersLeave}
use Rattle.session_lru.proofs.Lookups.{Apart, clients, has_reverse, reverse_cons, reverse_without, removed, gone_removed, all_removed, all_take, has_take}
use Rattle.session_lru.proofs.Order.{orderly, room, apart_reverse}
use Rattle.session_lru.proofs.Holding.{holds_on, holds_other, all_others, holds_touched, holds_fresh, nothing_begins}
use Rattle.session_lru.proofs.Judging.{stands_some, stands_none, held, admit_judged}

-- ---- proposals that no table sees

blank_leaves : (h : List Proposal) (t : Table) → StandsFor h t → StandsFor (proposals.Blank ∷ h) t
unfolding standing raised after_all
blank_leaves h t s = record {
  clients = s.clients;
  sessions = all_map (λ (e : ℕ × Session). Holds t.limit h e.0 e.1) (λ (e : ℕ × Session). Holds t.limit (proposals.Blank ∷ h) e.0 e.1) t.sessions
      (λ e o. holds_on t.limit proposals.Blank h e.0 e.1 refl (λ k. refl) o) s.sessions;
}

plain_leaves : (h : List Proposal) (command : List ℕ) (t : Table) → StandsFor h t → StandsFor (proposals.Plain command ∷ h) t
unfolding standing raised after_all
plain_leaves h command t s = record {
  clients = s.clients;
  sessions = all_map (λ (e : ℕ × Session). Holds t.limit h e.0 e.1) (λ (e : ℕ × Session). Holds t.limit (proposals.Plain command ∷ h) e.0 e.1) t.sessions
      (λ e o. holds_on t.limit (proposals.Plain command) h e.0 e.1 refl (λ k. refl) o) s.sessions;
}

pub others_leave : OthersLeave
others_leave h command t s = (blank_leaves h t s, plain_leaves h command t s)

-- ---- the clients of a table

from_back : (h : List Proposal) (t : Table) → StandsFor h t → clients t.sessions ≡ reverse (standing t.limit h)
from_back h t s = sym (reverse-reverse (clients t.sessions)) ∙ ap reverse s.clients

pub apart_of : (h : List Proposal) (t : Table) → 1 ≤ t.limit → StandsFor h t → Apart (clients t.sessions)
apart_of h t one s = subst (λ (l : List ℕ). Apart l) (sym (from_back h t s)) (apart_reverse (standing t.limit h) (orderly t.limit h one).apart)

within_of : (h : List Proposal) (t : Table) → 1 ≤ t.limit → StandsFor h t → length (clients t.sessions) ≤ t.limit
within_of h t one s =
    let same : length (clients t.sessions) ≡ length (standing t.limit h) = sym (length-reverse (clients t.sessions)) ∙ ap length s.clients in
    omega (arith, same, (orderly t.limit h one).within)

gone_of : (h : List Proposal) (t : Table) (client : ℕ) → StandsFor h t → stands t.limit client h ≡ false → has client (clients t.sessions) ≡ false
gone_of h t client s e = sym (has_reverse client (clients t.sessions)) ∙ ap (λ (l : List ℕ). has client l) s.clients ∙ e

-- ---- a register

-- a register that is taken leaves each session
taken_holds : (limit client : ℕ) (h : List Proposal) (c : ℕ) (s : Session) → stands limit client h ≡ true → Holds limit h c s → Holds limit (proposals.Register client ∷ h) c s
taken_holds limit client h c s st o = elim (client == c) as (λ b. (client == c) ≡ b → Holds limit (proposals.Register client ∷ h) c s) [
  | true ↦ λ q. (let same : client ≡ c = eqb-true client c q in nothing_begins limit client h c s st same o)
  | false ↦ λ q. holds_other limit (proposals.Register client) h c s (grind (arith, nat_tests)) o
] refl

taken_stands : (h : List Proposal) (t : Table) (client : ℕ) → stands t.limit client h ≡ true → StandsFor h t → StandsFor (proposals.Register client ∷ h) t
unfolding standing
taken_stands h t client st s = record {
  clients = rw st s.clients;
  sessions = all_map (λ (e : ℕ × Session). Holds t.limit h e.0 e.1) (λ (e : ℕ × Session). Holds t.limit (proposals.Register client ∷ h) e.0 e.1) t.sessions
      (λ e o. taken_holds t.limit client h e.0 e.1 st o) s.sessions;
}

-- the clients with one more, after the one that had to go
with_new : (h : List Proposal) (t : Table) (client : ℕ) → 1 ≤ t.limit → StandsFor h t → reverse (client ∷ clients (take (t.limit - 1) t.sessions)) ≡ with_room t.limit (standing t.limit h) ++ client ∷ []
with_new h t client one s =
    reverse_cons client (clients (take (t.limit - 1) t.sessions))
    ∙ ap (λ (l : List ℕ). reverse l ++ client ∷ []) (sym (take-map (λ (e : ℕ × Session). e.0) (t.limit - 1) t.sessions))
    ∙ ap (λ (l : List ℕ). l ++ client ∷ []) (sym (room t.limit (clients t.sessions) one (within_of h t one s)))
    ∙ ap (λ (l : List ℕ). with_room t.limit l ++ client ∷ []) s.clients

begun_stands : (h : List Proposal) (t : Table) (client : ℕ) → 1 ≤ t.limit → stands t.limit client h ≡ false → StandsFor h t → StandsFor (proposals.Register client ∷ h) (registered client None t)
unfolding standing
begun_stands h t client one st s = record {
  clients = rw st (with_new h t client one s);
  sessions = (
    holds_fresh t.limit client h st,
    all_others t.limit (proposals.Register client) h (take (t.limit - 1) t.sessions) (has_take client (t.limit - 1) t.sessions (gone_of h t client s st))
        (all_take (λ (e : ℕ × Session). Holds t.limit h e.0 e.1) (t.limit - 1) t.sessions s.sessions),
  );
}

pub register_stands : (h : List Proposal) (t : Table) (client : ℕ) → 1 ≤ t.limit → StandsFor h t → StandsFor (proposals.Register client ∷ h) (registered client (session_of client t) t)
register_stands h t client one s = elim (session_of client t) as (λ o. session_of client t ≡ o → StandsFor (proposals.Register client ∷ h) (registered client o t)) [
  | None ↦ λ e. begun_stands h t client one (stands_none h t client s e) s
  | Some x ↦ λ e. taken_stands h t client (stands_some h t client x s e) s
] refl

-- ---- a close

pub close_stands : (h : List Proposal) (t : Table) (client : ℕ) → 1 ≤ t.limit → StandsFor h t → StandsFor (proposals.Close client ∷ h) (closed client t)
unfolding standing
close_stands h t client one s =
    let apart = apart_of h t one s in
    record {
      clients = ap reverse (removed client t.sessions apart) ∙ reverse_without client (clients t.sessions) ∙ ap (λ (l : List ℕ). without client l) s.clients;
      sessions = all_others t.limit (proposals.Close client) h (remove_entry (nat_eq client) t.sessions) (gone_removed client t.sessions apart)
          (all_removed (λ (e : ℕ × Session). Holds t.limit h e.0 e.1) (nat_eq client) t.sessions s.sessions);
    }

-- ---- a command

-- the clients with one of them touched
touched_clients : (h : List Proposal) (t : Table) (client : ℕ) → 1 ≤ t.limit → StandsFor h t → reverse (client ∷ clients (remove_entry (nat_eq client) t.sessions)) ≡ without client (standing t.limit h) ++ client ∷ []
touched_clients h t client one s =
    reverse_cons client (clients (remove_entry (nat_eq client) t.sessions))
    ∙ ap (λ (l : List ℕ). reverse l ++ client ∷ []) (removed client t.sessions (apart_of h t one s))
    ∙ ap (λ (l : List ℕ). l ++ client ∷ []) (reverse_without client (clients t.sessions))
    ∙ ap (λ (l : List ℕ). without client l ++ client ∷ []) s.clients

-- a touched session that holds what it is to hold, before the others
pub touched_stands : (h : List Proposal) (t : Table) (client series responded : ℕ) (command : List ℕ) (x : Session) → 1 ≤ t.limit → stands t.limit client h ≡ true → StandsFor h t
    → Holds t.limit (proposals.Session client series responded command ∷ h) client x
    → StandsFor (proposals.Session client series responded command ∷ h) (record t { sessions = (client, x) ∷ remove_entry (nat_eq client) t.sessions })
unfolding standing
touched_stands h t client series responded command x one st s o = record {
  clients = rw st (touched_clients h t client one s);
  sessions = (
    o,
    all_others t.limit (proposals.Session client series responded command) h (remove_entry (nat_eq client) t.sessions) (gone_removed client t.sessions (apart_of h t one s))
        (all_removed (λ (e : ℕ × Session). Holds t.limit h e.0 e.1) (nat_eq client) t.sessions s.sessions),
  );
}

refused_stands : (h : List Proposal) (t : Table) (client series responded : ℕ) (command : List ℕ) → stands t.limit client h ≡ false → StandsFor h t → StandsFor (proposals.Session client series responded command ∷ h) t
unfolding standing
refused_stands h t client series responded command st s = record {
  clients = rw st s.clients;
  sessions = all_others t.limit (proposals.Session client series responded command) h t.sessions (gone_of h t client s st) s.sessions;
}

not_acting : (v : Verdict) → v ≢ verdicts.Acts → does_act v ≡ false
not_acting verdicts.Nothing e = refl
not_acting verdicts.NotStanding e = refl
not_acting verdicts.Taken e = refl
not_acting verdicts.Responded e = refl
not_acting (verdicts.RepeatOf reply) e = refl
not_acting verdicts.Acts e = absurd (e refl)

pub admit_stands : (h : List Proposal) (t : Table) (client series responded : ℕ) (command : List ℕ) → 1 ≤ t.limit → StandsFor h t → admit_verdict (session_of client t) series responded ≢ verdicts.Acts
    → StandsFor (proposals.Session client series responded command ∷ h) (admitted client responded (session_of client t) t)
admit_stands h t client series responded command one s na =
    let p : Proposal = proposals.Session client series responded command in
    let no : does_act (verdict t.limit h p) ≡ false = not_acting (verdict t.limit h p) (λ e. na (admit_judged h t client series responded command s ∙ e)) in
    elim (session_of client t) as (λ o. session_of client t ≡ o → StandsFor (proposals.Session client series responded command ∷ h) (admitted client responded o t)) [
      | None ↦ λ e. refused_stands h t client series responded command (stands_none h t client s e) s
      | Some x ↦ λ e. (let st = stands_some h t client x s e in touched_stands h t client series responded command (raised_to responded x) one st s (holds_touched t.limit client series responded command h x st no (held h t client x s e)))
    ] refl
