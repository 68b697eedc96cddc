-- The row of Vote: a vote is granted only to a log that holds what the voter holds.
use Rattle.std.proofs.lemmas.Bool.{cases_Bool}
use Rattle.std.proofs.Common.{◌≡◌, ◌⊎◌, ⊎_elim, ℕ, ◌<◌, ◌≤◌, List, length, true, false, refl, sym, ap, ◌∙◌, subst, arith, inl, inr, Bool}
use Rattle.host_ids.specs.declared.entry.Entry.{Entry}
use Rattle.raft_model.specs.declared.saved.SavedState.{SavedState}
use Rattle.wire_types.specs.declared.envelope.Envelope.{Envelope}
use Rattle.wire_types.specs.declared.envelope.Body.TheVariants as bodies
use Rattle.raft_model.specs.declared.state.State.{State as Replica}
use Rattle.raft_model.specs.Group.{Group, seat, term_of}
use Rattle.raft_model.specs.Replica.{sent, in_term}
use Rattle.raft_model.specs.Voting.{election, grants, voted}
use Rattle.raft_safety.specs.History.{History}
use Rattle.raft_safety.specs.Replicas.{Stage, whole, IsSecured}
use Rattle.raft_safety.specs.Envelopes.{Tells, IsCampaign}
use Rattle.raft_safety.specs.Invariant.{IsVote, HasAnswer}
use Rattle.raft_safety.proofs.Argument.Voters.{voter_saw}
use Rattle.raft_safety.proofs.Frame.Opened.{SecuredBut, Open}
use Rattle.raft_safety.proofs.Frame.Words.{holding}
use Rattle.raft_safety.proofs.Frame.Settle.{Reached, reached, in_term_step, delivered, in_term_most}
use Rattle.raft_safety.proofs.Laws.Owed.{VoteRow}
use Rattle.raft_safety.proofs.Elections.Casting.{casting, vote_step}
use Rattle.raft_safety.proofs.Elections.Granting.{IsGranting, granting}
use Rattle.raft_safety.proofs.Argument.WholeLogs.{whole_length, last_term_whole}
use Rattle.raft_safety.proofs.Frame.Tables.{at_there}

-- a vote of the host is recorded
pub record Voted (g : Group) (v : ℕ) (b : SavedState) (r : Replica) (d : List Entry) (w : List Envelope) (c : ℕ) : Type 0 where
  pub history : History
  pub holds : Open history g v b (record r { vote = c }) d w
  pub vote : history.vote v r.term ≡ c

module _ {g : Group} {v : ℕ} {h : History} {b : SavedState} {r : Replica} {d : List Entry} {w : List Envelope} (o : Open h g v b r d w)
    {from t l lt : ℕ} {x : Stage} (campaign : IsCampaign h from t l lt x) (secured : (s c : ℕ) → IsSecured x.term x.vote s c → SecuredBut g v b from s c)
    (grant : IsGranting (election r) from t l lt) where
  -- the host's whole log: the decided places up to its front, then its entries
  abbrev log : List Entry
  log = whole d r.log.front r.log.entries

  -- the log of the campaign
  abbrev asked : List Entry
  asked = h.campaign t from

  -- the candidate's log is at least as late as the voter's
  late : (term_of log (length log) < term_of asked (length asked)) ⊎ ((term_of asked (length asked) ≡ term_of log (length log)) × (length log ≤ length asked))
  late =
      let n = o.mine.stands.now in
      let fits : r.log.front ≤ length d = omega (arith, n.front, n.commit.right) in
      let mine = last_term_whole d r.log fits o.mine.based.2 in
      let size = whole_length d r.log.front r.log.entries fits in
      let last : term_of asked (length asked) ≡ lt = ap (term_of asked) campaign.length ∙ campaign.last in
      ⊎_elim
      (λ m. inl (omega (arith, m, mine, last)))
      (λ e. inr (last ∙ e.0 ∙ mine, omega (arith, e.1, size, campaign.length)))
      grant.late

  -- so it holds what the voter holds
  shows : IsVote h d (SecuredBut g v b) v t from
  shows =
      let own = o.common.votes from t from campaign.some campaign.vote in
      let keeps = o.mine.stands.now.keeps in
      record {
        secured = λ other. secured t from campaign.secured;
        matches = own.matches;
        saw = λ unled R n k below.
            let kept = keeps R n k in
            record {
              there = voter_saw o.common k.led k.own k.safe asked kept late (λ i a m. (own.matches i a m).0);
              last = let old = kept.clean (length log) kept.there.left (omega arith) in ⊎_elim (λ m. omega (arith, m, old)) (λ e. omega (arith, e.0, old)) late;
            };
      }

  -- the vote is free, or it was the sender's before
  pub voted_for : r.term ≡ t → Voted g v b r d w from
  voted_for same =
      ⊎_elim
      (λ free. record {
        history = casting from campaign.some free o;
        holds = vote_step from campaign.some free o (subst (λ s. IsVote h d (SecuredBut g v b) v s from) (sym same) shows);
        vote = at_there v r.term from h.vote;
      })
      (λ again. record {
        history = h;
        holds = subst (λ c. Open h g v b (record r { vote = c }) d w) again o;
        vote = o.mine.stands.now.vote (λ z. campaign.some (sym again ∙ z)) ∙ again;
      })
      grant.vote

-- the row of Vote keeps the invariant
pub vote_row : VoteRow
vote_row m l lt body g v h b r d w mine o to on =
    let q = in_term m.term r in
    let oq = in_term_step m.term o in
    let a = delivered m oq on in
    let campaign : IsCampaign h m.from m.term l lt a.stage = subst (λ y. Tells h d (HasAnswer w) h.answer m.from m.to m.term y a.stage) body a.tells in
    let answers : Bool → Replica = λ granted. sent (seat g v) m.from (bodies.VoteReply granted) (record q { vote = (voted m.from granted (election q)).vote }) in
    ⊎_elim
    (λ given.
    let grant = granting (election q) m.from m.term l lt given in
    let least = in_term_most m.term r in
    let done = voted_for oq campaign a.secured grant (omega (arith, least, grant.term)) in
    subst (λ y. Reached g v b d w (answers y)) (sym given)
    (reached (holding (record { from = v; to = m.from; group = g.number; term = q.term; body = bodies.VoteReply true }) refl
    (λ _. record { some = campaign.some; vote = done.vote; secured = inr (refl, refl) }) done.holds)))
    (λ refused. subst (λ y. Reached g v b d w (answers y)) (sym refused)
    (reached (holding (record { from = v; to = m.from; group = g.number; term = q.term; body = bodies.VoteReply false }) refl (λ granted. absurd (cc)) oq)))
    (cases_Bool (grants (election q) m.from m.term l lt))
