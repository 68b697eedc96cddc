-- What stays with each step of a host stays with every event of a group, and so with every list of them.
use Rattle.std.proofs.Common.{◌≡◌, ◌&&◌, ℕ, zero, suc, List, [], ◌∷◌, Bool, true, false, refl, sym, slice_set, subst}
use Rattle.std.proofs.lemmas.Bool.{cond_both, and_parts}
use Rattle.std.proofs.lemmas.List.Elements.{All-nil}
use Rattle.std.specs.Prelude.{◌==◌, not, nat_le, Option, Some, None, IfSome, slice_index_or, replicate}
use Rattle.std.specs.List.{All, AllByRecursion}
use Rattle.host_ids.specs.declared.entry.Key.{Key}
use Rattle.wire_types.specs.declared.envelope.Envelope.{Envelope}
use Rattle.raft_model.specs.declared.durable.Durable.{Durable}
use Rattle.raft_model.specs.declared.event.LaneEvent.{LaneEvent}
use Rattle.raft_model.specs.declared.event.LaneEvent.TheVariants as events
use Rattle.raft_model.specs.declared.input.Input.{Input}
use Rattle.raft_model.specs.declared.input.Input.TheVariants as inputs
use Rattle.raft_model.specs.declared.state.Pending.{Pending}
use Rattle.raft_model.specs.Replica.{fresh, ripe, is_changed, is_pending}
use Rattle.raft_model.specs.Restarting.{state_of, restarted}
use Rattle.raft_model.specs.Saving.{is_stuck}
use Rattle.raft_model.specs.Step.{step, ready, after_ready, saved}
use Rattle.raft_model.specs.Group.{Group, Acted, replica_at, saved_at, is_member, is_up, seat, inputs_at, readies, merged}
use Rattle.raft_model.specs.Group.{saves_batch, saves_id, delivers, envelope_at, is_asked, noted_ask, restarts, act, run, fresh_group, nothing_saved}
use Rattle.raft_entries.specs.Kept.{Having, Given, Comes, Holds, Stays}
use Rattle.raft_entries.proofs.Groups.Tables.{found_or_not, got, all_alike}
use Rattle.raft_entries.proofs.Groups.Moves.{Moves, moves_saved, moves, pick, where_up}

-- a replica that passes the test has no pending batch
none_pending : (o : Option Pending) → not (elim o as (λ _. Bool) [ None ↦ false | Some p ↦ true ]) ≡ true → o ≡ None
none_pending None e = refl
none_pending (Some p) e = absurd (cc e)

module _ {H : Having} (M : Moves H) where
  -- an input at a host
  inputs_by : (g : Group) (h : ℕ) (input : Input) → Given H.Own H.Mail input → Holds H g → Holds H (inputs_at g h input).group
  inputs_by g h input of k =
      let w = step (seat g h) input (replica_at g h) in
      let x = M.steps (saved_at g h) (seat g h) input (replica_at g h) of (k.hosts h) in
      moves M g h w.replica w.sent k x.0 x.1

  -- Ready: the next batch is taken where none is pending, or the replica stays
  readies_by : (g : Group) (h : ℕ) → Holds H g → Holds H (readies g h).group
  readies_by g h k =
      let r = replica_at g h in
      let host : H.Host (saved_at g h) (after_ready r) = cond_both _ _ _ (H.Host (saved_at g h))
      (λ e.
      let none = none_pending r.pending (and_parts (not (is_pending r)) (is_changed r) (and_parts (not (is_pending r) && is_changed r) (not (is_stuck r)) e).0).0 in
      M.readies (saved_at g h) r none (k.hosts h))
      (λ _. k.hosts h) in
      found_or_not (ready r) _ _ (λ (a : Acted). Holds H a.group) (λ _. moves M g h r [] k (k.hosts h) (All-nil H.Mail)) (λ b _. moves M g h (after_ready r) [] k host (All-nil H.Mail))

  -- Saved: what a host has saved is joined with its pending batch
  saves_by_batch : (g : Group) (h : ℕ) (p : Pending) → (replica_at g h).pending ≡ Some p → Holds H g → Holds H (saves_batch g h p).group
  saves_by_batch g h p e k =
      let w = saved (seat g h) p (replica_at g h) in
      let x = M.saves (saved_at g h) (seat g h) p (replica_at g h) e (k.hosts h) in
      moves_saved M g g.up h (merged (saved_at g h) p.batch) w.replica w.sent k x.0 x.1

  -- Saved is refused but for the pending batch
  saves_by_id : (g : Group) (h id : ℕ) → Holds H g → Holds H (saves_id g h id).group
  saves_by_id g h id k =
      found_or_not (replica_at g h).pending _ _ (λ (a : Acted). Holds H a.group) (λ _. k) (λ p e. pick H (p.batch.id == id) _ _ (saves_by_batch g h p e k) k)

  -- an envelope that is found on the wire arrives
  delivers_by : (g : Group) (o : Option Envelope) → IfSome o H.Mail → Holds H g → Holds H (delivers g o).group
  delivers_by g None of k = k
  delivers_by g (Some m) of k = where_up H g m.to _ k (inputs_by g m.to (inputs.Envelope m) of k)

  -- an envelope that is found by its number is one of the wire
  on_wire : (wire : List Envelope) (n : ℕ) → All H.Mail wire → IfSome (envelope_at wire n) H.Mail
  on_wire wire zero k = tt
  on_wire wire (suc n) k = got H.Mail wire n k

  -- the first asking of a read changes no host, no envelope and no entry
  asked_by : (g : Group) (key : Key) → Holds H g → Holds H (noted_ask g key)
  asked_by g key k = cond_both (is_asked g key) _ _ (Holds H) (λ _. k) (λ _. record { tables = k.tables; hosts = k.hosts; wire = k.wire; decided = k.decided })

  -- a host starts again from what a crash left
  restarts_by : (g : Group) (h : ℕ) (d : Durable) → H.Left d → Holds H g → Holds H (restarts g h d).group
  restarts_by g h d left k =
      pick H (not (is_member g h)) _ _ k
      (pick H (is_up g h) _ _ k (moves_saved M g (slice_set g.up h true) h (state_of d.batch) (restarted d) [] k (M.restarts d left) (All-nil H.Mail)))

  -- every event
  act_by : (e : LaneEvent) (g : Group) → Comes H e → Holds H g → Holds H (act e g).group
  unfolding act
  act_by (events.Timeout h) g of k = where_up H g h _ k (inputs_by g h inputs.Timeout tt k)
  act_by (events.Beat h) g of k = where_up H g h _ k (inputs_by g h inputs.Beat tt k)
  act_by (events.Deliver n) g of k = delivers_by g (envelope_at g.wire n) (on_wire g.wire n k.wire) k
  act_by (events.Ready h) g of k = where_up H g h _ k (readies_by g h k)
  act_by (events.Saved h id) g of k = where_up H g h _ k (saves_by_id g h id k)
  act_by (events.Propose h key p) g of k = where_up H g h _ k (inputs_by g h (inputs.Propose key p) of k)
  act_by (events.Ask h key) g of k = where_up H g h _ k (inputs_by (noted_ask g key) h (inputs.Ask key) tt (asked_by g key k))
  act_by (events.Chunk h to c) g of k = where_up H g h _ k (inputs_by g h (inputs.Chunk to c) tt k)
  act_by (events.Compact h i) g of k = where_up H g h _ k (pick H (nat_le i (ripe (replica_at g h))) _ _ (inputs_by g h (inputs.Compact i) tt k) k)
  act_by (events.Installed h i t) g of k = where_up H g h _ k (inputs_by g h (inputs.Installed i t) tt k)
  act_by (events.Down h) g of k = where_up H g h _ k (record { tables = k.tables; hosts = k.hosts; wire = k.wire; decided = k.decided })
  act_by (events.Restart h d) g of k = restarts_by g h d of k

  -- every list of events
  run_by : (es : List LaneEvent) (g : Group) → AllByRecursion (Comes H) es → Holds H g → Holds H (run es g).group
  unfolding run
  run_by [] g of k = k
  run_by (e ∷ es) g of k = run_by es (act e g).group of.1 (act_by e g of.0 k)

  -- a group that has just begun
  begins_by : (number : ℕ) (voters : List ℕ) → Holds H (fresh_group number voters)
  begins_by number voters = record {
    tables = refl;
    hosts = λ h.
        subst (λ b. H.Host b (slice_index_or (replicate 10 fresh) h fresh)) (sym (all_alike 10 nothing_saved h))
        (subst (λ r. H.Host nothing_saved r) (sym (all_alike 10 fresh h)) M.begins);
    wire = All-nil H.Mail;
    decided = M.none;
  }

  -- what every step of a host keeps stays with a group
  pub stays_by : Stays H
  stays_by = record { begins = begins_by; events = act_by; runs = run_by; leaves = λ g h d left k. M.leaves (saved_at g h) (replica_at g h) d left (k.hosts h) }
