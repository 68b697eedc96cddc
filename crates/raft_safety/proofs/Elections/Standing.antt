-- A candidate stands for election with no vote counted, and asks each other voter for its vote.
use Rattle.std.proofs.Common.{◌≡◌, ◌≢◌, ℕ, ◌≤◌, List, length, refl, sym, ap, ◌∙◌, arith, inr}
use Rattle.host_ids.specs.declared.entry.Entry.{Entry}
use Rattle.raft_model.specs.declared.saved.SavedState.{SavedState}
use Rattle.wire_types.specs.declared.envelope.Envelope.{Envelope}
use Rattle.wire_types.specs.declared.envelope.Body.TheVariants as bodies
use Rattle.raft_model.specs.declared.role.Role.TheVariants.{Candidate}
use Rattle.raft_model.specs.declared.state.State.{State as Replica}
use Rattle.roster.specs.Roster.{none_set}
use Rattle.raft_model.specs.Group.{Group, seat, term_of}
use Rattle.raft_model.specs.Replica.{sent}
use Rattle.raft_model.specs.Voting.{asked_votes}
use Rattle.log_view.specs.Log.{last, last_term}
use Rattle.raft_safety.specs.History.{Reign, History, IsLed}
use Rattle.raft_safety.specs.Replicas.{whole, of_replica, IsCandidate}
use Rattle.raft_safety.specs.Envelopes.{IsCampaign}
use Rattle.raft_safety.proofs.Argument.WholeLogs.{whole_length, term_whole}
use Rattle.raft_safety.proofs.Frame.Opened.{SecuredBut, Open}
use Rattle.raft_safety.proofs.Frame.Words.{holding, each_other_stays, rest, rest_step}
use Rattle.raft_safety.proofs.Frame.Tables.{none_is_set}

module _ {g : Group} {v : ℕ} {h : History} {b : SavedState} {d : List Entry} {w : List Envelope} where
  -- who voted for itself with the log of its campaign stands for election, with no vote counted
  pub stand_step : {r : Replica} → v ≢ 0 → r.vote ≡ v → h.vote v r.term ≡ v → h.campaign r.term v ≡ whole d r.log.front r.log.entries
      → ((R : Reign) → IsLed h.reigns R → R.term ≡ r.term → R.leader ≢ v) → Open h g v b r d w → Open h g v b (record r { role = Candidate; leader = 0; granted = none_set }) d w
  stand_step {r} some vote voted log new o =
      rest_step (record (rest r) { role = Candidate; leader = 0; granted = none_set }) o o.mine.held
      (λ e. record { some = some; vote = vote; voted = voted; log = log; new = new; granted = λ u counted. (let none = none_is_set u in absurd (cc)) }) (λ e. absurd (cc)) o.mine.inbox

  -- what a candidate asks for votes with
  asks : {r : Replica} → r.role ≡ Candidate → Open h g v b r d w → IsCampaign h v r.term (last r.log) (last_term r.log) (of_replica d r)
  asks {r} role o =
      let c : IsCandidate h d (SecuredBut g v b) v r = o.mine.stands.candidate role in
      let n = o.mine.stands.now in
      let fits : r.log.front ≤ length d = omega (arith, n.front, n.commit.right) in
      record {
        some = c.some;
        vote = c.voted;
        secured = inr (refl, c.vote);
        length = ap (λ xs. length xs) c.log ∙ whole_length d r.log.front r.log.entries fits;
        last = ap (λ xs. term_of xs (last r.log)) c.log ∙ sym (term_whole d r.log (last r.log) fits o.mine.based.2 (omega arith));
      }

  -- a candidate asks each other voter
  pub asked_step : {r : Replica} → r.role ≡ Candidate → Open h g v b r d w → Open h g v b (asked_votes (seat g v) r) d w
  asked_step {r} role o = (each_other_stays (λ q. (q.role ≡ Candidate) × Open h g v b q d w) v (λ u q. sent (seat g v) u (bodies.Vote (last q.log) (last_term q.log)) q)
      (λ u q other x. (x.0, holding _ refl (asks x.0 x.1) x.1)) g.voters r (role, o)).1
