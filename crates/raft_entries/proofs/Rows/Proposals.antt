-- The rows of Propose and of a proposal that is asked at its own host.
use Rattle.std.proofs.Common.{◌≡◌, Bool, true, false, refl, arith}
use Rattle.std.proofs.lemmas.Bool.{and_parts}
use Rattle.std.specs.Prelude.{◌==◌, not}
use Rattle.host_ids.specs.declared.entry.Key.{Key}
use Rattle.host_ids.specs.declared.proposal.Proposal.{Proposal}
use Rattle.wire_types.specs.declared.envelope.Body.TheVariants as bodies
use Rattle.wire_types.specs.declared.envelope.Envelope.{Envelope}
use Rattle.raft_model.specs.declared.role.Role.TheVariants.{Follower, Candidate, Leader}
use Rattle.raft_model.specs.declared.role.Role.{Role}
use Rattle.raft_model.specs.declared.state.State.{State as Replica}
use Rattle.roster.specs.Roster.{Seat}
use Rattle.raft_model.specs.Replica.{is_leader, is_full}
use Rattle.raft_model.specs.Proposing.{on_propose, on_local_proposal}
use Rattle.raft_entries.specs.Mail.{Property, Following}
use Rattle.raft_entries.specs.Parts.{Parts}
use Rattle.raft_entries.proofs.Rows.Words.{On, Words}
use Rattle.raft_entries.proofs.Rows.Sending.{room, not_false, pick, sends, to_all}

-- who passes the test on leaders is one
leader_is : (role : Role) → (elim role as (λ _. Bool) [ Follower ↦ false | Candidate ↦ false | Leader ↦ true ]) ≡ true → role ≡ Leader
leader_is Follower e = absurd (cc e)
leader_is Candidate e = absurd (cc e)
leader_is Leader e = refl

module _ {Own : Property} {Follows : Following} {L : Type 0} {Mail : Envelope → Type 0} {s : Seat} {G : Parts → Type 0} (W : Words Own Follows L Mail s G) where
  -- Propose: a leader that isn't full appends the proposal
  pub propose : (key : Key) (p : Proposal) (r : Replica) → Own key p → On G r → On G (on_propose s key p r).replica
  propose key p r own k =
      pick G _ _ _
      (λ e.
      let a = and_parts (is_leader r) (not (is_full r)) e in
      to_all W key p r (leader_is r.role a.0) (λ _. (room r (not_false (is_full r) a.1)).1) own k)
      (λ _. k)

  -- a local proposal: a leader appends it, and another replica hands it on to the leader that it knows
  pub local_proposal : (key : Key) (p : Proposal) (r : Replica) → Own key p → On G r → On G (on_local_proposal s key p r).replica
  local_proposal key p r own k =
      pick G (is_full r) _ _ (λ _. k)
      (λ free. pick G (is_leader r) _ _ (λ e. to_all W key p r (leader_is r.role e) (λ _. (room r free).1) own k)
      (λ _. pick G (r.leader == 0) _ _ (λ _. k) (λ _. sends W 0 r.leader (bodies.Propose key p) r own (λ _. (omega arith, tt)) k)))
