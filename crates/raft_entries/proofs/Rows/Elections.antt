-- The rows of Timeout, Vote and VoteReply.
use Rattle.std.proofs.Common.{◌≡◌, ℕ, Bool, true, false, refl}
use Rattle.std.proofs.lemmas.Bool.{and_parts, or_parts}
use Rattle.std.specs.Prelude.{◌==◌, ◌&&◌}
use Rattle.host_ids.specs.declared.proposal.Proposal.TheVariants as proposals
use Rattle.wire_types.specs.declared.envelope.Body.TheVariants as bodies
use Rattle.wire_types.specs.declared.envelope.Envelope.{Envelope}
use Rattle.raft_model.specs.declared.role.Role.TheVariants.{Follower, Candidate, Leader}
use Rattle.raft_model.specs.declared.role.Role.{Role}
use Rattle.raft_model.specs.declared.state.State.{State as Replica}
use Rattle.roster.specs.Roster.{Seat}
use Rattle.log_view.specs.Log.{last, last_term}
use Rattle.raft_model.specs.Replica.{is_candidate, is_leader, is_full, sent, no_key, crowned}
use Rattle.raft_model.specs.Voting.{election, campaigned, on_timeout, grants, voted, on_vote, with_grant, granted_by, on_vote_reply}
use Rattle.raft_entries.specs.Mail.{Property, Following}
use Rattle.raft_entries.specs.Parts.{Parts, parts}
use Rattle.raft_entries.proofs.Rows.Words.{On, Words}
use Rattle.raft_entries.proofs.Rows.Sending.{room, pick, tells, each, to_all}

-- who passes the test on candidates is one
pub candidate_is : (role : Role) → (elim role as (λ _. Bool) [ Follower ↦ false | Candidate ↦ true | Leader ↦ false ]) ≡ true → role ≡ Candidate
candidate_is Follower e = absurd (cc e)
candidate_is Candidate e = refl
candidate_is Leader e = absurd (cc e)

module _ {Own : Property} {Follows : Following} {L : Type 0} {Mail : Envelope → Type 0} {s : Seat} {G : Parts → Type 0} (W : Words Own Follows L Mail s G) where
  -- Timeout: a replica that doesn't lead stands in the next term and asks each other voter for its vote
  pub timeout : (r : Replica) → On G r → On G (on_timeout s r).replica
  timeout r k =
      pick G _ _ _ (λ _. k)
      (λ e.
      let free = room r (or_parts (is_full r) (is_leader r) e).0 in
      each W s.me (λ v q. sent s v (bodies.Vote (last q.log) (last_term q.log)) q)
      (λ v q a. tells W v (bodies.Vote (last q.log) (last_term q.log)) q tt (λ _. tt) a) s.voters (campaigned s r) (W.stands (parts r) free.0 free.1 k))

  -- Vote: a vote changes no entry
  pub vote : (from t l lt : ℕ) (r : Replica) → On G r → On G (on_vote s from t l lt r).replica
  vote from t l lt r k =
      let granted = grants (election r) from t l lt in
      tells W from (bodies.VoteReply granted) (record r { vote = (voted from granted (election r)).vote }) tt (λ _. tt) k

  -- a candidate that is granted a majority leads, and its first entry is a blank one
  pub granted_to : (from : ℕ) (r : Replica) → Own no_key proposals.Blank → r.role ≡ Candidate → On G r → On G (granted_by s from r).replica
  granted_to from r blank stood k =
      let q = record r { granted = (with_grant from (election r)).granted } in
      pick G _ _ _ (λ _. to_all W no_key proposals.Blank (crowned s q) refl (λ l. (W.limits (parts r) k l).may_lead stood) blank (W.leads (parts r) stood k)) (λ _. k)

  -- VoteReply: it counts for a candidate of its term
  pub vote_reply : (from t : ℕ) (granted : Bool) (r : Replica) → Own no_key proposals.Blank → On G r → On G (on_vote_reply s from t granted r).replica
  vote_reply from t granted r blank k =
      pick G _ _ _ (λ e. granted_to from r blank (candidate_is r.role (and_parts (granted && (t == r.term)) (is_candidate r) e).1) k) (λ _. k)
