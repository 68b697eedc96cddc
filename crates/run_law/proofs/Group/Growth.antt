-- Each event of a group makes its decided list longer, or leaves it.
use Rattle.std.proofs.Common.{◌≡◌, ℕ, ◌-◌, ◌==◌, List, [], ◌∷◌, ◌++◌, Option, Some, None, length, take, drop, refl, sym, subst, append-nil, if◌then◌else◌}
use Rattle.std.specs.Prelude.{nat_lt, nat_le, ◌&&◌, not}
use Rattle.std.proofs.lemmas.Bool.{cond_both}
use Rattle.host_ids.specs.declared.batch.Batch.{Batch}
use Rattle.host_ids.specs.declared.entry.Entry.{Entry}
use Rattle.host_ids.specs.declared.entry.Key.{Key}
use Rattle.wire_types.specs.declared.envelope.Envelope.{Envelope}
use Rattle.raft_model.specs.declared.durable.Durable.{Durable}
use Rattle.raft_model.specs.declared.state.State.{State as Replica}
use Rattle.raft_model.specs.declared.state.Pending.{Pending}
use Rattle.raft_model.specs.declared.event.LaneEvent.{LaneEvent}
use Rattle.raft_model.specs.declared.event.LaneEvent.TheVariants as events
use Rattle.raft_model.specs.declared.event.LaneFault.TheVariants as faults
use Rattle.raft_model.specs.declared.input.Input.{Input}
use Rattle.raft_model.specs.declared.input.Input.TheVariants as inputs
use Rattle.raft_model.specs.declared.note.Note.TheVariants as notes
use Rattle.raft_model.specs.Restarting.{restarted}
use Rattle.raft_model.specs.Step.{step, ready, after_ready, saved}
use Rattle.raft_model.specs.Group
use Rattle.raft_model.specs.Group.{Group, Acted, act, replica_at, continued}

-- a list and what it began with
pub record Longer (d e : List Entry) : Type 0 where
  pub more : List Entry
  pub is : e ≡ d ++ more

-- each list begins with itself
same_longer : (d : List Entry) → Longer d d
same_longer d = record { more = []; is = sym (append-nil d) }

-- the decided list as a replica continues it begins with what it was
continued_longer : (d : List Entry) (r : Replica) → Longer d (continued d r)
continued_longer d r =
    cond_both (nat_lt (length d) r.commit && nat_le r.log.front (length d)) _ d (Longer d)
    (λ _. record { more = take (r.commit - length d) (drop (length d - r.log.front) r.log.entries); is = refl })
    (λ _. same_longer d)

-- the decided list lasts with an event: after it the list begins with what it was before
abbrev Lasts : Group → Acted → Type 0
Lasts g a = Longer g.decided a.group.decided

-- the decided list lasts with an input of a replica
inputs_last : (g : Group) (h : ℕ) (input : Input) → Lasts g (Group.inputs_at g h input)
inputs_last g h input = continued_longer g.decided (step (Group.seat g h) input (replica_at g h)).replica

-- it lasts with an event at a host, whether that is refused or not
up_last : (g : Group) (h : ℕ) (a : Acted) → Lasts g a → Lasts g (Group.at_up g h a)
up_last g h a p =
    cond_both (not (Group.is_member g h)) _ _ (Lasts g) (λ _. same_longer g.decided)
    (λ _. cond_both (Group.is_up g h) a _ (Lasts g) (λ _. p) (λ _. same_longer g.decided))

-- it lasts where a batch is taken, or there is none to take
ready_last : (g : Group) (h : ℕ) (o : Option Batch)
    → Lasts g (elim o as (λ _. Acted) [
      | None ↦ Group.did (Group.moved g h (replica_at g h) []) (notes.Idle ∷ [])
      | Some b ↦ Group.did (Group.moved g h (after_ready (replica_at g h)) []) (notes.Pending h b.id ∷ [])
    ])
ready_last g h None = continued_longer g.decided (replica_at g h)
ready_last g h (Some b) = continued_longer g.decided (after_ready (replica_at g h))

-- it lasts where a batch is handed back as saved, or isn't the pending one
saved_last : (g : Group) (h id : ℕ) (o : Option Pending)
    → Lasts g (elim o as (λ _. Acted) [
      | None ↦ Group.refuses g (faults.NotPending 0)
      | Some p ↦ (if p.batch.id == id then Group.saves_batch g h p else Group.refuses g (faults.NotPending p.batch.id))
    ])
saved_last g h id None = same_longer g.decided
saved_last g h id (Some p) = cond_both (p.batch.id == id) (Group.saves_batch g h p) _ (Lasts g) (λ _. continued_longer g.decided (saved (Group.seat g h) p (replica_at g h)).replica)
    (λ _. same_longer g.decided)

-- it lasts where an envelope arrives, or isn't there
delivers_last : (g : Group) (o : Option Envelope) → Lasts g (Group.delivers g o)
delivers_last g None = same_longer g.decided
delivers_last g (Some e) = up_last g e.to (Group.inputs_at g e.to (inputs.Envelope e)) (inputs_last g e.to (inputs.Envelope e))

-- noting the first asking of a read leaves the decided list
noted_same : (g : Group) (key : Key) → (Group.noted_ask g key).decided ≡ g.decided
noted_same g key = cond_both (Group.is_asked g key) g _ (λ (k : Group). k.decided ≡ g.decided) (λ _. refl) (λ _. refl)

-- it lasts where a log is cut up to an index, or that is refused
compacts_last : (g : Group) (h i : ℕ) → Lasts g (Group.compacts g h i)
compacts_last g h i = cond_both _ (Group.inputs_at g h (inputs.Compact i)) _ (Lasts g) (λ _. inputs_last g h (inputs.Compact i)) (λ _. same_longer g.decided)

-- it lasts where a host starts, or that is refused
restarts_last : (g : Group) (h : ℕ) (d : Durable) → Lasts g (Group.restarts g h d)
restarts_last g h d =
    cond_both (not (Group.is_member g h)) _ _ (Lasts g) (λ _. same_longer g.decided)
    (λ _. cond_both (Group.is_up g h) _ _ (Lasts g) (λ _. same_longer g.decided) (λ _. continued_longer g.decided (restarted d)))

-- with every event the decided list goes on, or stays
pub act_lasts : (e : LaneEvent) (g : Group) → Longer g.decided (act e g).group.decided
unfolding act
act_lasts (events.Timeout h) g = up_last g h (Group.inputs_at g h inputs.Timeout) (inputs_last g h inputs.Timeout)
act_lasts (events.Beat h) g = up_last g h (Group.inputs_at g h inputs.Beat) (inputs_last g h inputs.Beat)
act_lasts (events.Deliver k) g = delivers_last g (Group.envelope_at g.wire k)
act_lasts (events.Ready h) g = up_last g h (Group.readies g h) (ready_last g h (ready (replica_at g h)))
act_lasts (events.Saved h id) g = up_last g h (Group.saves_id g h id) (saved_last g h id (replica_at g h).pending)
act_lasts (events.Propose h key p) g = up_last g h (Group.inputs_at g h (inputs.Propose key p)) (inputs_last g h (inputs.Propose key p))
act_lasts (events.Ask h key) g =
    let k = Group.noted_ask g key in
    up_last g h (Group.inputs_at k h (inputs.Ask key)) (subst (λ (d : List Entry). Longer d (Group.inputs_at k h (inputs.Ask key)).group.decided) (noted_same g key) (inputs_last k h (inputs.Ask key)))
act_lasts (events.Chunk h to c) g = up_last g h (Group.inputs_at g h (inputs.Chunk to c)) (inputs_last g h (inputs.Chunk to c))
act_lasts (events.Compact h i) g = up_last g h (Group.compacts g h i) (compacts_last g h i)
act_lasts (events.Installed h i t) g = up_last g h (Group.inputs_at g h (inputs.Installed i t)) (inputs_last g h (inputs.Installed i t))
act_lasts (events.Down h) g = up_last g h _ (same_longer g.decided)
act_lasts (events.Restart h d) g = restarts_last g h d
