-- The voters of a group stay, whatever happens to it, and so do the reads that were asked, but for the one that an event asks.
use Rattle.std.proofs.Common.{◌≡◌, ℕ, ◌==◌, List, [], ◌∷◌, Option, Some, None, length, refl, if◌then◌else◌}
use Rattle.std.specs.Prelude.{not}
use Rattle.std.specs.BTreeMap.{insert_entry}
use Rattle.std.proofs.lemmas.Bool.{cond_both}
use Rattle.host_ids.specs.declared.batch.Batch.{Batch}
use Rattle.host_ids.specs.declared.entry.Key.{Key}
use Rattle.wire_types.specs.declared.envelope.Envelope.{Envelope}
use Rattle.raft_model.specs.declared.durable.Durable.{Durable}
use Rattle.raft_model.specs.declared.state.Pending.{Pending}
use Rattle.raft_model.specs.declared.event.LaneEvent.{LaneEvent}
use Rattle.raft_model.specs.declared.event.LaneEvent.TheVariants as events
use Rattle.raft_model.specs.declared.event.LaneFault.TheVariants as faults
use Rattle.raft_model.specs.declared.input.Input.TheVariants as inputs
use Rattle.raft_model.specs.declared.note.Note.TheVariants as notes
use Rattle.raft_model.specs.Step.{ready, after_ready}
use Rattle.raft_model.specs.Group
use Rattle.raft_model.specs.Group.{Group, Acted, act, key_order, replica_at}

-- after an event its group's voters and the reads that were asked have a property
abbrev Stay : (List ℕ → List (Key × ℕ) → Type 0) → Acted → Type 0
Stay P a = P a.group.voters a.group.asks

module _ (P : List ℕ → List (Key × ℕ) → Type 0) where
  -- a property stays with an event at a host, whether that is refused or not
  up_stay : (g : Group) (h : ℕ) (a : Acted) → P g.voters g.asks → Stay P a → Stay P (Group.at_up g h a)
  up_stay g h a k p =
      cond_both (not (Group.is_member g h)) _ _ (Stay P) (λ _. k)
      (λ _. cond_both (Group.is_up g h) a _ (Stay P) (λ _. p) (λ _. k))

  -- it stays where a batch is taken, or there is none to take
  ready_stay : (g : Group) (h : ℕ) (o : Option Batch) → P g.voters g.asks
      → Stay P (elim o as (λ _. Acted) [
        | None ↦ Group.did (Group.moved g h (replica_at g h) []) (notes.Idle ∷ [])
        | Some b ↦ Group.did (Group.moved g h (after_ready (replica_at g h)) []) (notes.Pending h b.id ∷ [])
      ])
  ready_stay g h None k = k
  ready_stay g h (Some b) k = k

  -- it stays where a batch is handed back as saved, or isn't the pending one
  saved_stay : (g : Group) (h id : ℕ) (o : Option Pending) → P g.voters g.asks
      → Stay P (elim o as (λ _. Acted) [
        | None ↦ Group.refuses g (faults.NotPending 0)
        | Some p ↦ (if p.batch.id == id then Group.saves_batch g h p else Group.refuses g (faults.NotPending p.batch.id))
      ])
  saved_stay g h id None k = k
  saved_stay g h id (Some p) k = cond_both (p.batch.id == id) (Group.saves_batch g h p) _ (Stay P) (λ _. k) (λ _. k)

  -- it stays where an envelope arrives, or isn't there
  delivers_stay : (g : Group) (o : Option Envelope) → P g.voters g.asks → Stay P (Group.delivers g o)
  delivers_stay g None k = k
  delivers_stay g (Some e) k = up_stay g e.to (Group.inputs_at g e.to (inputs.Envelope e)) k k

  -- it stays where the first asking of a read is noted, if it does with the key in the table
  noted_stay : (g : Group) (key : Key) → P g.voters g.asks → P g.voters (insert_entry key_order g.asks key (length g.decided)) → P (Group.noted_ask g key).voters (Group.noted_ask g key).asks
  noted_stay g key k p = cond_both (Group.is_asked g key) g _ (λ (n : Group). P n.voters n.asks) (λ _. k) (λ _. p)

  -- it stays where a log is cut up to an index, or that is refused
  compacts_stay : (g : Group) (h i : ℕ) → P g.voters g.asks → Stay P (Group.compacts g h i)
  compacts_stay g h i k = cond_both _ (Group.inputs_at g h (inputs.Compact i)) _ (Stay P) (λ _. k) (λ _. k)

  -- it stays where a host starts, or that is refused
  restarts_stay : (g : Group) (h : ℕ) (d : Durable) → P g.voters g.asks → Stay P (Group.restarts g h d)
  restarts_stay g h d k =
      cond_both (not (Group.is_member g h)) _ _ (Stay P) (λ _. k)
      (λ _. cond_both (Group.is_up g h) _ _ (Stay P) (λ _. k) (λ _. k))

  -- it stays with every event, if it does with the key of a read that the event asks
  pub all_stay : (e : LaneEvent) (g : Group) → P g.voters g.asks
      → ((h : ℕ) (key : Key) → e ≡ events.Ask h key → P g.voters (insert_entry key_order g.asks key (length g.decided))) → P (act e g).group.voters (act e g).group.asks
  unfolding act
  all_stay (events.Timeout h) g k p = up_stay g h (Group.inputs_at g h inputs.Timeout) k k
  all_stay (events.Beat h) g k p = up_stay g h (Group.inputs_at g h inputs.Beat) k k
  all_stay (events.Deliver n) g k p = delivers_stay g (Group.envelope_at g.wire n) k
  all_stay (events.Ready h) g k p = up_stay g h (Group.readies g h) k (ready_stay g h (ready (replica_at g h)) k)
  all_stay (events.Saved h id) g k p = up_stay g h (Group.saves_id g h id) k (saved_stay g h id (replica_at g h).pending k)
  all_stay (events.Propose h key q) g k p = up_stay g h (Group.inputs_at g h (inputs.Propose key q)) k k
  all_stay (events.Ask h key) g k p = up_stay g h (Group.inputs_at (Group.noted_ask g key) h (inputs.Ask key)) k (noted_stay g key k (p h key refl))
  all_stay (events.Chunk h to c) g k p = up_stay g h (Group.inputs_at g h (inputs.Chunk to c)) k k
  all_stay (events.Compact h i) g k p = up_stay g h (Group.compacts g h i) k (compacts_stay g h i k)
  all_stay (events.Installed h i t) g k p = up_stay g h (Group.inputs_at g h (inputs.Installed i t)) k k
  all_stay (events.Down h) g k p = up_stay g h _ k k
  all_stay (events.Restart h d) g k p = restarts_stay g h d k

-- every event leaves the voters
pub act_stay : (e : LaneEvent) (g : Group) → (act e g).group.voters ≡ g.voters
act_stay e g = all_stay (λ vs asks. vs ≡ g.voters) e g refl (λ h key is. refl)
