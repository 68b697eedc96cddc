-- Votes are counted, and a majority leads: at VoteReply, and at Saved for a candidate's own vote.
use Rattle.std.proofs.lemmas.Bool.{cond_both}
use Rattle.std.proofs.Common.{◌≡◌, ⊎_elim, ℕ, List, true, false, refl, sym, ap, ◌∙◌, subst, inl, inr, ◌==◌, ◌&&◌}
use Rattle.std.specs.Prelude.{slice_set}
use Rattle.std.proofs.lemmas.Bool.{and_parts, eqb-true, cases_eq}
use Rattle.std.proofs.lemmas.List.{get_or-set_other}
use Rattle.host_ids.specs.declared.entry.Entry.{Entry}
use Rattle.host_ids.specs.declared.batch.Batch.{Batch}
use Rattle.raft_model.specs.declared.saved.SavedState.{SavedState}
use Rattle.host_ids.specs.declared.proposal.Proposal.TheVariants as proposals
use Rattle.wire_types.specs.declared.envelope.Envelope.{Envelope}
use Rattle.raft_model.specs.declared.role.Role.TheVariants.{Candidate}
use Rattle.raft_model.specs.declared.state.State.{State as Replica}
use Rattle.roster.specs.Roster.{is_set, is_majority}
use Rattle.raft_model.specs.Group.{Group, seat}
use Rattle.raft_model.specs.Replica.{Row, is_candidate, in_term, no_key, crowned, lead}
use Rattle.raft_model.specs.Voting.{election, counts, granted_by}
use Rattle.raft_model.specs.Saving.{counts_own, own_vote}
use Rattle.raft_safety.specs.History.{History}
use Rattle.raft_safety.specs.Envelopes.{Tells, IsGrant}
use Rattle.raft_safety.specs.Invariant.{HasAnswer}
use Rattle.raft_safety.proofs.Frame.Opened.{SecuredBut, Open}
use Rattle.raft_safety.proofs.Frame.Settle.{reached, in_term_step, delivered, either_row}
use Rattle.raft_safety.proofs.Replication.Sending.{Leads, append_all_step}
use Rattle.raft_safety.proofs.Replication.Extending.{appended_step}
use Rattle.raft_safety.proofs.Laws.Owed.{VoteReplyRow}
use Rattle.raft_safety.proofs.Elections.Crowning.{crowning, crown_step}
use Rattle.raft_safety.proofs.Frame.Roles.{stands_for}
use Rattle.raft_safety.proofs.Frame.Words.{rest, rest_step}

-- some history fits, in which nothing more is saved
pub record Fits (h : History) (g : Group) (v : ℕ) (b : SavedState) (r : Replica) (d : List Entry) (w : List Envelope) : Type 0 where
  pub history : History
  pub holds : Open history g v b r d w
  pub saving : (u t : ℕ) → history.saving u t ≡ h.saving u t
  pub answer : (u t : ℕ) → history.answer u t ≡ h.answer u t

module _ {g : Group} {v : ℕ} {h : History} {b : SavedState} {d : List Entry} {w : List Envelope} where
  -- a candidate with a majority leads: it appends a blank entry and sends it
  pub lead_step : {r : Replica} → r.role ≡ Candidate → is_majority g.voters (is_set r.granted) ≡ true → Open h g v b r d w → Fits h g v b (lead (seat g v) r).replica d w
  lead_step {r} role majority o =
      let x : Leads (crowning role majority o) g v b (crowned (seat g v) r) d w = record { open_group = crown_step role majority o; role = refl } in
      record {
        history = _;
        holds = (append_all_step (appended_step x no_key proposals.Blank)).open_group;
        saving = λ u t. refl;
        answer = λ u t. refl;
      }

  -- a saved vote for the candidate is counted
  pub granted_step : (u : ℕ) {r : Replica} → h.vote u r.term ≡ v → SecuredBut g v b u r.term v → Open h g v b r d w → Open h g v b (record r { granted = slice_set r.granted u true }) d w
  granted_step u {r} voted secured o =
      let s = o.mine.stands in
      rest_step (record (rest r) { granted = slice_set r.granted u true }) o o.mine.held
      (λ e. let c = s.candidate e in record {
        some = c.some;
        vote = c.vote;
        voted = c.voted;
        log = c.log;
        new = c.new;
        granted = λ x counted. ⊎_elim
            (λ same. subst (λ y. (h.vote y r.term ≡ v) × SecuredBut g v b y r.term v) (sym same) (voted, secured))
            (λ other. c.granted x (sym (get_or-set_other r.granted u x true false other) ∙ counted))
            (cases_eq x u);
      })
      s.leader o.mine.inbox

  -- and with it a majority leads
  pub granted_by_step : (u : ℕ) {r : Replica} → r.role ≡ Candidate → h.vote u r.term ≡ v → SecuredBut g v b u r.term v → Open h g v b r d w → Fits h g v b (granted_by (seat g v) u r).replica d w
  granted_by_step u {r} role voted secured o =
      let q = record r { granted = slice_set r.granted u true } in
      let oq : Open h g v b q d w = granted_step u voted secured o in
      cond_both (is_majority g.voters (is_set q.granted)) _ _ (λ (z : Row). Fits h g v b z.replica d w) (λ e. lead_step role e oq)
      (λ _. record { history = h; holds = oq; saving = λ u t. refl; answer = λ u t. refl })

  -- at Saved: a candidate counts its own vote, which is saved with this batch
  pub own_vote_step : (p : Batch) {r : Replica} → b.term ≡ p.term → b.vote ≡ p.vote → Open h g v b r d w → Fits h g v b (own_vote (seat g v) p r).replica d w
  own_vote_step p {r} term vote o =
      cond_both (counts_own (seat g v) p r) _ _ (λ (z : Row). Fits h g v b z.replica d w)
      (λ e.
      let a = and_parts (is_candidate r && (p.term == r.term)) (p.vote == v) e in
      let c = and_parts (is_candidate r) (p.term == r.term) a.0 in
      let role : r.role ≡ Candidate = stands_for r c.0 in
      granted_by_step v role (o.mine.stands.candidate role).voted (inl (refl, inr (term ∙ eqb-true p.term r.term c.1, vote ∙ eqb-true p.vote v a.1))) o)
      (λ _. record { history = h; holds = o; saving = λ u t. refl; answer = λ u t. refl })

-- the row of VoteReply: a granted vote of this term is counted
pub vote_reply_row : VoteReplyRow
vote_reply_row m granted body g v h b r d w some o to on =
    let q = in_term m.term r in
    let oq = in_term_step m.term o in
    let a = delivered m oq on in
    either_row (counts (election q) m.term granted) _ _
    (λ e.
    let x = and_parts (granted && (m.term == q.term)) (is_candidate q) e in
    let y = and_parts granted (m.term == q.term) x.0 in
    let now : m.term ≡ q.term = eqb-true m.term q.term y.1 in
    let told : granted ≡ true → IsGrant h m.from m.to m.term a.stage = subst (λ z. Tells h d (HasAnswer w) h.answer m.from m.to m.term z a.stage) body a.tells in
    let grant = told y.0 in
    let voted : h.vote m.from q.term ≡ v = ap (h.vote m.from) (sym now) ∙ grant.vote ∙ to in
    let secured : SecuredBut g v b m.from q.term v =
    subst (λ c. SecuredBut g v b m.from q.term c) to (subst (λ t. SecuredBut g v b m.from t m.to) now (a.secured m.term m.to grant.secured)) in
    reached (granted_by_step m.from (stands_for q x.1) voted secured oq).holds)
    (λ _. reached oq)
