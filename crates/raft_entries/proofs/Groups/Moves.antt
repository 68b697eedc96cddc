-- What has to be shown of a single host, and that a group keeps it when one of its hosts moves.
use Rattle.std.proofs.Common.{◌≡◌, ◌<◌, ◌∙◌, ◌&&◌, ℕ, List, [], Bool, sym, slice_set, subst}
use Rattle.std.proofs.lemmas.Bool.{cond_both, and_parts, ltb-true}
use Rattle.std.proofs.lemmas.List.{length-set, set-get_or}
use Rattle.std.proofs.lemmas.List.Elements.{All-append}
use Rattle.std.specs.Prelude.{not, nat_lt, Some, None, if◌then◌else◌}
use Rattle.std.specs.List.{All}
use Rattle.host_ids.specs.declared.entry.Entry.{Entry}
use Rattle.wire_types.specs.declared.envelope.Envelope.{Envelope}
use Rattle.raft_model.specs.declared.durable.Durable.{Durable}
use Rattle.raft_model.specs.declared.event.LaneFault.TheVariants as faults
use Rattle.raft_model.specs.declared.input.Input.{Input}
use Rattle.raft_model.specs.declared.saved.SavedState.{SavedState}
use Rattle.raft_model.specs.declared.state.State.{State as Replica}
use Rattle.raft_model.specs.declared.state.Pending.{Pending}
use Rattle.roster.specs.Roster.{Seat}
use Rattle.log_view.specs.Log.{Log, reset}
use Rattle.raft_model.specs.Replica.{fresh}
use Rattle.raft_model.specs.Snapping.{stays}
use Rattle.raft_model.specs.Restarting.{state_of, log_of, begun_log, restarted}
use Rattle.raft_model.specs.Saving.{gave_batch}
use Rattle.raft_model.specs.Step.{step, saved}
use Rattle.raft_model.specs.Group.{Group, Acted, saved_at, is_member, is_up, moved, continued, refuses, at_up, merged, nothing_saved}
use Rattle.raft_entries.specs.Kept.{Having, Given, IsLeft, Holds}
use Rattle.raft_entries.proofs.Groups.Tables.{both_written}

-- a replica that starts again has the log that was saved, or an empty one at a mark above its front
pub begins_with : (d : Durable) (P : Log → Type 0) → (d.batch.front < d.mark → P (reset d.mark d.mark_term)) → P (log_of (state_of d.batch)) → P (begun_log d)
begins_with d P marked kept =
    let is_old = nat_lt d.batch.front d.mark in
    let is_lost = not (stays (log_of (state_of d.batch)) d.mark d.mark_term) in
    cond_both (is_old && is_lost) (reset d.mark d.mark_term) (log_of (state_of d.batch)) P (λ e. marked (ltb-true d.batch.front d.mark (and_parts is_old is_lost e).0)) (λ _. kept)

-- what has to stay with each step of a host, whatever it has saved
pub record Moves (H : Having) : Type 0 where
  pub begins : H.Host nothing_saved fresh
  pub none : H.Listed []
  pub steps : (b : SavedState) (s : Seat) (input : Input) (r : Replica) → Given H.Own H.Mail input → H.Host b r
      → H.Host b (step s input r).replica × All H.Mail (step s input r).sent
  pub readies : (b : SavedState) (r : Replica) → r.pending ≡ None → H.Host b r → H.Host b (gave_batch r)
  pub saves : (b : SavedState) (s : Seat) (p : Pending) (r : Replica) → r.pending ≡ Some p → H.Host b r
      → H.Host (merged b p.batch) (saved s p r).replica × All H.Mail (saved s p r).sent
  pub leaves : (b : SavedState) (r : Replica) (d : Durable) → IsLeft b r d → H.Host b r → H.Left d
  pub restarts : (d : Durable) → H.Left d → H.Host (state_of d.batch) (restarted d)
  pub lists : (d : List Entry) (b : SavedState) (r : Replica) → H.Listed d → H.Host b r → H.Listed (continued d r)

module _ {H : Having} (M : Moves H) where
  -- a host becomes another replica over another state that it has saved, and sends
  pub moves_saved : (g : Group) (up : List Bool) (h : ℕ) (b : SavedState) (r : Replica) (sent : List Envelope) → Holds H g → H.Host b r → All H.Mail sent
      → Holds H (moved (record g { up = up; saves = slice_set g.saves h b }) h r sent)
  moves_saved g up h b r sent k of mail = record {
    tables = length-set g.saves h b ∙ k.tables ∙ sym (length-set g.replicas h r);
    hosts = both_written H.Host g.saves g.replicas h b nothing_saved r fresh k.tables k.hosts of;
    wire = All-append H.Mail g.wire sent k.wire mail;
    decided = M.lists g.decided b r k.decided of;
  }

  -- a host becomes another replica over what it has saved already, and sends
  pub moves : (g : Group) (h : ℕ) (r : Replica) (sent : List Envelope) → Holds H g → H.Host (saved_at g h) r → All H.Mail sent → Holds H (moved g h r sent)
  moves g h r sent k of mail =
      subst (λ saves. Holds H (moved (record g { saves = saves }) h r sent)) (set-get_or g.saves h nothing_saved) (moves_saved g g.up h (saved_at g h) r sent k of mail)

module _ (H : Having) where
  -- what the groups of two outcomes have, that of either has, as a test picks it
  pub pick : (b : Bool) (x y : Acted) → Holds H x.group → Holds H y.group → Holds H (if b then x else y).group
  pick b x y h k = cond_both b x y (λ a. Holds H a.group) (λ _. h) (λ _. k)

  -- an event at a host that is no voter or is down changes nothing
  pub where_up : (g : Group) (h : ℕ) (a : Acted) → Holds H g → Holds H a.group → Holds H (at_up g h a).group
  where_up g h a k next = pick (not (is_member g h)) _ _ k (pick (is_up g h) a (refuses g faults.IsDown) next k)
