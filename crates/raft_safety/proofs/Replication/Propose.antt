-- The rows that only hand on, and those by which a leader appends.
use Rattle.std.proofs.Common.{ℕ, List, refl, ◌==◌, ◌&&◌}
use Rattle.std.specs.Prelude.{not}
use Rattle.std.proofs.lemmas.Bool.{and_parts}
use Rattle.host_ids.specs.declared.entry.Entry.{Entry}
use Rattle.host_ids.specs.declared.entry.Key.{Key}
use Rattle.host_ids.specs.declared.proposal.Proposal.{Proposal}
use Rattle.raft_model.specs.declared.saved.SavedState.{SavedState}
use Rattle.wire_types.specs.declared.envelope.Envelope.{Envelope}
use Rattle.raft_model.specs.declared.state.State.{State as Replica}
use Rattle.raft_model.specs.Replica.{is_leader, is_full, appended_to_all}
use Rattle.raft_model.specs.Group.{Group, seat}
use Rattle.raft_safety.specs.History.{History}
use Rattle.raft_safety.proofs.Frame.Words.{holding}
use Rattle.raft_safety.proofs.Frame.Settle.{Reached, reached, either_row}
use Rattle.raft_safety.proofs.Replication.Sending.{Leads, append_all_step}
use Rattle.raft_safety.proofs.Replication.Extending.{appended_step}
use Rattle.raft_safety.proofs.Laws.Owed.{ProposeRow, LocalProposalRow}
use Rattle.raft_safety.proofs.Frame.Roles.{leads}

-- a leader appends an entry and sends it to the others
pub appends : (key : Key) (p : Proposal) {g : Group} {v : ℕ} {h : History} {b : SavedState} {r : Replica} {d : List Entry} {w : List Envelope} → Leads h g v b r d w
    → Reached g v b d w (appended_to_all (seat g v) key p r)
appends key p {g} {v} {h} {b} {r} {d} {w} x = reached (append_all_step (appended_step x key p)).open_group

-- the row of Propose keeps the invariant
pub propose : ProposeRow
propose key p g v h b r d w some o =
    either_row (is_leader r && not (is_full r)) _ _ (λ e. appends key p (record { open_group = o; role = leads r (and_parts (is_leader r) (not (is_full r)) e).0 })) (λ _. reached o)

-- a local proposal keeps the invariant: a leader appends it, another host hands it on
pub local_proposal : LocalProposalRow
local_proposal key p g v h b r d w some o =
    either_row (is_full r) _ _ (λ _. reached o)
    (λ _. either_row (is_leader r) _ _ (λ e. appends key p (record { open_group = o; role = leads r e }))
    (λ _. either_row (r.leader == 0) _ _ (λ _. reached o) (λ _. reached (holding _ refl tt o))))
