-- What an event leaves of a group: its voters, and all of it where it is refused.
use Rattle.std.proofs.Common.{◌≡◌, ℕ, List, [], ◌∷◌, Option, Some, None, false, refl, sym, ap, subst, ◌∙◌}
use Rattle.std.specs.Prelude.{not, nat_le, ◌==◌, if◌then◌else◌, OnSome}
use Rattle.std.proofs.lemmas.Bool.{cond_both}
use Rattle.std.proofs.lemmas.Option.{none-some}
use Rattle.host_ids.specs.declared.batch.Batch.{Batch}
use Rattle.host_ids.specs.declared.entry.Key.{Key}
use Rattle.wire_types.specs.declared.envelope.Envelope.{Envelope}
use Rattle.raft_model.specs.declared.durable.Durable.{Durable}
use Rattle.raft_model.specs.declared.input.Input.{Input}
use Rattle.raft_model.specs.declared.input.Input.TheVariants as inputs
use Rattle.raft_model.specs.declared.event.LaneEvent.{LaneEvent}
use Rattle.raft_model.specs.declared.event.LaneEvent.TheVariants as events
use Rattle.raft_model.specs.declared.event.LaneFault.{LaneFault}
use Rattle.raft_model.specs.declared.event.LaneFault.TheVariants as faults
use Rattle.raft_model.specs.declared.note.Note.{Note}
use Rattle.raft_model.specs.declared.note.Note.TheVariants as notes
use Rattle.raft_model.specs.declared.state.Pending.{Pending}
use Rattle.raft_model.specs.Replica.{ripe}
use Rattle.raft_model.specs.Step.{ready, after_ready}
use Rattle.group_world.specs.Members.{Kept}
use Rattle.script_world.specs.Parts.{is_memory}
use Rattle.raft_model.specs.Group.{Group, Acted, act, at_up, compacts, delivers, did, envelope_at, inputs_at, is_asked, is_member, is_up, moved, noted_ask, readies, refuses, replica_at, restarts, saves_batch, saves_id}

pub record Leaves (g : Group) (a : Acted) : Type 0 where
  pub voters : a.group.voters ≡ g.voters
  pub refused : (f : LaneFault) → a.refused ≡ Some f → (a.group ≡ g) × (a.notes ≡ [])

did_leaves : (g h : Group) (ns : List Note) → h.voters ≡ g.voters → Leaves g (did h ns)
did_leaves g h ns e = record { voters = e; refused = λ f r. absurd (none-some f r) }

refuses_leaves : (g : Group) (f : LaneFault) → Leaves g (refuses g f)
refuses_leaves g f = record { voters = refl; refused = λ f r. (refl, refl) }

up_leaves : (g : Group) (h : ℕ) (a : Acted) → Leaves g a → Leaves g (at_up g h a)
up_leaves g h a k =
    cond_both (not (is_member g h)) (refuses g faults.NotMember) _ (Leaves g)
    (λ _. refuses_leaves g faults.NotMember)
    (λ _. cond_both (is_up g h) a (refuses g faults.IsDown) (Leaves g) (λ _. k) (λ _. refuses_leaves g faults.IsDown))

input_leaves : (g : Group) (h at : ℕ) (input : Input) → Leaves g (at_up g at (inputs_at g h input))
input_leaves g h at input = up_leaves g at (inputs_at g h input) (did_leaves g _ _ refl)

readies_by : (g : Group) (h : ℕ) (o : Option Batch) → Leaves g (elim o as (λ _. Acted) [ None ↦ did (moved g h (replica_at g h) []) (notes.Idle ∷ []) | Some b ↦ did (moved g h (after_ready (replica_at g h)) []) (notes.Pending h b.id ∷ []) ])
readies_by g h None = did_leaves g _ _ refl
readies_by g h (Some b) = did_leaves g _ _ refl

saves_by : (g : Group) (h id : ℕ) (o : Option Pending)
    → Leaves g (elim o as (λ _. Acted) [ None ↦ refuses g (faults.NotPending 0) | Some p ↦ (if p.batch.id == id then saves_batch g h p else refuses g (faults.NotPending p.batch.id)) ])
saves_by g h id None = refuses_leaves g (faults.NotPending 0)
saves_by g h id (Some p) = cond_both (p.batch.id == id) (saves_batch g h p) (refuses g (faults.NotPending p.batch.id)) (Leaves g) (λ _. did_leaves g _ _ refl) (λ _. refuses_leaves g (faults.NotPending p.batch.id))

delivers_leaves : (g : Group) (o : Option Envelope) → Leaves g (delivers g o)
delivers_leaves g None = refuses_leaves g faults.NoEnvelope
delivers_leaves g (Some e) = input_leaves g e.to e.to (inputs.Envelope e)

noted_voters : (g : Group) (key : Key) → (noted_ask g key).voters ≡ g.voters
noted_voters g key = cond_both (is_asked g key) g _ (λ (h : Group). h.voters ≡ g.voters) (λ _. refl) (λ _. refl)

compacts_leaves : (g : Group) (h i : ℕ) → Leaves g (compacts g h i)
compacts_leaves g h i = cond_both (nat_le i (ripe (replica_at g h))) (inputs_at g h (inputs.Compact i)) (refuses g (faults.NotRipe (ripe (replica_at g h)))) (Leaves g) (λ _. did_leaves g _ _ refl) (λ _. refuses_leaves g (faults.NotRipe (ripe (replica_at g h))))

restarts_leaves : (g : Group) (h : ℕ) (d : Durable) → Leaves g (restarts g h d)
restarts_leaves g h d =
    cond_both (not (is_member g h)) (refuses g faults.NotMember) _ (Leaves g)
    (λ _. refuses_leaves g faults.NotMember)
    (λ _. cond_both (is_up g h) (refuses g faults.IsUp) _ (Leaves g) (λ _. refuses_leaves g faults.IsUp) (λ _. did_leaves g _ _ refl))

pub act_leaves : (e : LaneEvent) (g : Group) → Leaves g (act e g)
unfolding act
act_leaves (events.Timeout h) g = input_leaves g h h inputs.Timeout
act_leaves (events.Beat h) g = input_leaves g h h inputs.Beat
act_leaves (events.Deliver k) g = delivers_leaves g (envelope_at g.wire k)
act_leaves (events.Ready h) g = up_leaves g h (readies g h) (readies_by g h (ready (replica_at g h)))
act_leaves (events.Saved h id) g = up_leaves g h (saves_id g h id) (saves_by g h id (replica_at g h).pending)
act_leaves (events.Propose h key p) g = input_leaves g h h (inputs.Propose key p)
act_leaves (events.Ask h key) g = up_leaves g h (inputs_at (noted_ask g key) h (inputs.Ask key)) (did_leaves g _ _ (noted_voters g key))
act_leaves (events.Chunk h to c) g = input_leaves g h h (inputs.Chunk to c)
act_leaves (events.Compact h i) g = up_leaves g h (compacts g h i) (compacts_leaves g h i)
act_leaves (events.Installed h i t) g = input_leaves g h h (inputs.Installed i t)
act_leaves (events.Down h) g = up_leaves g h _ (did_leaves g _ _ refl)
act_leaves (events.Restart h d) g = restarts_leaves g h d

-- a lane that is kept where this is so has the same group there
pub kept_group : (old new : Kept) (o : Option LaneFault) → OnSome o (new ≡ old) → OnSome o (new.group ≡ old.group)
kept_group old new None k = k
kept_group old new (Some f) k = ap (λ (x : Kept). x.group) k

-- a refusal that isn't out of memory leaves the group, and notes nothing
pub refused_leaves : (e : LaneEvent) (g new : Group) (fault : LaneFault) (o : Option LaneFault) → (act e g).refused ≡ o → (o ≡ None → fault ≡ faults.NoMemory) → OnSome o (new ≡ g) → is_memory fault ≡ false
    → (new ≡ (act e g).group) × ((act e g).notes ≡ [])
refused_leaves e g new fault None q m k f = let h : is_memory faults.NoMemory ≡ false = subst (λ (x : LaneFault). is_memory x ≡ false) (m refl) f in absurd cc
refused_leaves e g new fault (Some x) q m k f = let s = (act_leaves e g).refused x q in (k ∙ sym s.0, s.1)
