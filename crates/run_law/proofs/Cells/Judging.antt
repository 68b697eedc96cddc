-- A proposal is given to the sessions and to the object: they judge it as the definitions do, and stand for the history with it.
use Rattle.std.proofs.Common.{◌≡◌, ◌≤◌, ℕ, List, [], ◌∷◌, Option, Some, None, refl, sym, subst, ◌∙◌, if◌then◌else◌}
use Rattle.std.proofs.lemmas.Bool.{cond_both}
use Rattle.host_ids.specs.declared.proposal.Proposal.{Proposal}
use Rattle.host_ids.specs.declared.proposal.Proposal.TheVariants as proposals
use Rattle.host_ids.specs.declared.verdict.Verdict.{Verdict}
use Rattle.object_model.specs.Object.{Pairs}
use Rattle.object_model.specs.Sequence.{standing, state, verdict, does_act, effect_of, ending_by, after_all}
use Rattle.session_lru.specs.declared.session.Session.{Session}
use Rattle.session_lru.specs.Table.{Table}
use Rattle.session_lru.specs.Calls.{session_of, registered, admit_verdict, admitted, kept_by}
use Rattle.session_lru.specs.Law.{StandsFor, OthersLeave}
use Rattle.session_lru.specs.Follow.{commanded, RegistersFollow, ClosesFollow, CommandsFollow}
use Rattle.run_model.specs.World.{Cell, new_cell}
use Rattle.run_model.specs.Run.{verdict_by, sessions_after, given, ending_of}

-- what is known of the sessions
pub record Follows : Type 0 where
  pub registers : RegistersFollow
  pub closes : ClosesFollow
  pub commands : CommandsFollow
  pub others : OthersLeave

-- the sessions and the object stand for a history
pub record Judges (history : List Proposal) (t : Table) (pairs : Pairs) : Type 0 where
  pub positive : 1 ≤ t.limit
  pub sessions : StandsFor history t
  pub object : pairs ≡ state t.limit history

-- a new cell stands for the empty history
pub new_judges : (limit : ℕ) → 1 ≤ limit → Judges [] (new_cell limit).sessions []
unfolding standing after_all
new_judges limit h = record { positive = h; sessions = record { clients = refl; sessions = tt }; object = refl }

-- the sessions judge a proposal as the definitions do
verdict_is : (laws : Follows) (h : List Proposal) (t : Table) (p : Proposal) → 1 ≤ t.limit → StandsFor h t → verdict_by p t ≡ verdict t.limit h p
verdict_is laws h t proposals.Blank one s = refl
verdict_is laws h t (proposals.Plain command) one s = refl
verdict_is laws h t (proposals.Session client series responded command) one s = (laws.commands h t client series responded command one s).0
verdict_is laws h t (proposals.Register client) one s = (laws.registers h t client one s).0
verdict_is laws h t (proposals.Close client) one s = (laws.closes h t client one s).0

-- ---- the limit stays

-- a command that is admitted leaves the limit of sessions
admitted_limit : (client responded : ℕ) (o : Option Session) (t : Table) → (admitted client responded o t).limit ≡ t.limit
admitted_limit client responded None t = refl
admitted_limit client responded (Some s) t = refl

-- a reply that is kept leaves the limit of sessions
kept_limit : (client series : ℕ) (reply : List ℕ) (o : Option Session) (t : Table) → (kept_by client series reply o t).limit ≡ t.limit
kept_limit client series reply None t = refl
kept_limit client series reply (Some s) t = refl

-- a register leaves the limit of sessions
registered_limit : (client : ℕ) (o : Option Session) (t : Table) → (registered client o t).limit ≡ t.limit
registered_limit client None t = refl
registered_limit client (Some s) t = refl

-- a command leaves the limit of sessions
commanded_limit : (client series responded : ℕ) (reply : List ℕ) (t : Table) → (commanded client series responded reply t).limit ≡ t.limit
commanded_limit client series responded reply t =
    let next = admitted client responded (session_of client t) t in
    let same = admitted_limit client responded (session_of client t) t in
    cond_both (does_act (admit_verdict (session_of client t) series responded)) (kept_by client series reply (session_of client next) next) next (λ (u : Table). u.limit ≡ t.limit)
    (λ _. kept_limit client series reply (session_of client next) next ∙ same)
    (λ _. same)

-- every proposal leaves the limit of sessions
pub limit_stays : (p : Proposal) (reply : List ℕ) (t : Table) → (sessions_after p reply t).limit ≡ t.limit
limit_stays proposals.Blank reply t = refl
limit_stays (proposals.Plain command) reply t = refl
limit_stays (proposals.Session client series responded command) reply t = commanded_limit client series responded reply t
limit_stays (proposals.Register client) reply t = registered_limit client (session_of client t) t
limit_stays (proposals.Close client) reply t = refl

-- ---- the sessions and the object follow

-- the sessions after a proposal stand for the history with it
sessions_follow : (laws : Follows) (h : List Proposal) (t : Table) (p : Proposal) → 1 ≤ t.limit → StandsFor h t → StandsFor (p ∷ h) (sessions_after p (effect_of p (state t.limit h)).reply t)
sessions_follow laws h t proposals.Blank one s = (laws.others h [] t s).0
sessions_follow laws h t (proposals.Plain command) one s = (laws.others h command t s).1
sessions_follow laws h t (proposals.Session client series responded command) one s = (laws.commands h t client series responded command one s).1
sessions_follow laws h t (proposals.Register client) one s = (laws.registers h t client one s).1
sessions_follow laws h t (proposals.Close client) one s = (laws.closes h t client one s).1

-- the object after a proposal
state_next : (limit : ℕ) (h : List Proposal) (p : Proposal) → state limit (p ∷ h) ≡ (if does_act (verdict limit h p) then (effect_of p (state limit h)).pairs else state limit h)
unfolding after_all
state_next limit h p = refl

-- by a proposal with equal verdicts equal objects become equal ones
changed_alike : (p : Proposal) (v w : Verdict) (a b : Pairs) → v ≡ w → a ≡ b → (if does_act v then (effect_of p a).pairs else a) ≡ (if does_act w then (effect_of p b).pairs else b)
changed_alike p v w a b e f = rw (e, f) refl

-- a cell that stands for a history stands for it with the proposal that the cell is given
pub given_judges : (laws : Follows) (h : List Proposal) (p : Proposal) (c : Cell) → Judges h c.sessions c.pairs → Judges (p ∷ h) (given p c).sessions (given p c).pairs
given_judges laws h p c j =
    let t = c.sessions in
    let same = limit_stays p (effect_of p c.pairs).reply t in
    let next : (given p c).pairs ≡ state t.limit (p ∷ h) = changed_alike p (verdict_by p t) (verdict t.limit h p) c.pairs (state t.limit h) (verdict_is laws h t p j.positive j.sessions) j.object
    ∙ sym (state_next t.limit h p) in
    record {
      positive = subst (λ (n : ℕ). 1 ≤ n) (sym same) j.positive;
      sessions = subst (λ (pairs : Pairs). StandsFor (p ∷ h) (sessions_after p (effect_of p pairs).reply t)) (sym j.object) (sessions_follow laws h t p j.positive j.sessions);
      object = subst (λ (n : ℕ). (given p c).pairs ≡ state n (p ∷ h)) (sym same) next;
    }

-- by equal verdicts and equal objects the request of a proposal ends in one way
ending_alike : (p : Proposal) (v w : Verdict) (a b : Pairs) → v ≡ w → a ≡ b → ending_by v p a ≡ ending_by w p b
ending_alike p v w a b e f = rw (e, f) refl

-- the request of a proposal ends as the definitions say
pub ending_is : (laws : Follows) (h : List Proposal) (p : Proposal) (c : Cell) → Judges h c.sessions c.pairs → ending_of p c ≡ ending_by (verdict c.sessions.limit h p) p (state c.sessions.limit h)
ending_is laws h p c j = ending_alike p (verdict_by p c.sessions) (verdict c.sessions.limit h p) c.pairs (state c.sessions.limit h) (verdict_is laws h c.sessions p j.positive j.sessions) j.object
