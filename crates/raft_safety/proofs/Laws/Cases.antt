-- What an event comes to, by the forms of its definition, for any property of what comes out.
use Rattle.std.proofs.Common.{◌≡◌, ℕ, List, [], ◌∷◌, length, Bool, true, false, refl, Option, Some, None, ◌==◌, if◌then◌else◌}
use Rattle.std.specs.Prelude.{not, nat_le, slice_set}
use Rattle.std.specs.BTreeMap.{insert_entry}
use Rattle.std.proofs.lemmas.Bool.{cond_both, not-false}
use Rattle.host_ids.specs.declared.entry.Key.{Key}
use Rattle.raft_model.specs.declared.saved.SavedState.{SavedState}
use Rattle.wire_types.specs.declared.envelope.Envelope.{Envelope}
use Rattle.raft_model.specs.declared.durable.Durable.{Durable}
use Rattle.raft_model.specs.declared.event.LaneEvent.{LaneEvent}
use Rattle.raft_model.specs.declared.event.LaneEvent.TheVariants as events
use Rattle.raft_model.specs.declared.event.LaneFault.{LaneFault}
use Rattle.raft_model.specs.declared.event.LaneFault.TheVariants as faults
use Rattle.raft_model.specs.declared.note.Note.TheVariants as notes
use Rattle.raft_model.specs.declared.input.Input.{Input}
use Rattle.raft_model.specs.declared.input.Input.TheVariants as inputs
use Rattle.raft_model.specs.declared.state.State.{State as Replica}
use Rattle.raft_model.specs.declared.state.Pending.{Pending}
use Rattle.raft_model.specs.Replica.{ripe}
use Rattle.raft_model.specs.Restarting.{state_of, restarted}
use Rattle.raft_model.specs.Saving.{may_give, gave_batch, batch_of}
use Rattle.raft_model.specs.Step.{step, saved}
use Rattle.raft_model.specs.Group.{Group, Acted, replica_at, saved_at, is_member, is_up, is_asked, key_order, envelope_at, seat, moved, merged, did, refuses, act}
use Rattle.raft_model.specs.Group.{at_up, inputs_at, delivers, noted_ask, saves_batch, readies, saves_id, compacts, restarts}

module _ (g : Group) (v : ℕ) (P : Acted → Type 0) where
  -- Ready notes that there is nothing to save, or gives the batch
  pub readies_cases : P (did (moved g v (replica_at g v) []) (notes.Idle ∷ []))
      → (may_give (replica_at g v) ≡ true → P (did (moved g v (gave_batch (replica_at g v)) []) (notes.Pending v (batch_of (replica_at g v)).id ∷ []))) → P (readies g v)
  readies_cases idle gives =
      let r = replica_at g v in
      elim (may_give r) as (λ x. may_give r ≡ x → P (elim (if x then Some (batch_of r) else None) as (λ _. Acted) [
        | None ↦ did (moved g v r []) (notes.Idle ∷ [])
        | Some b ↦ did (moved g v (if x then gave_batch r else r) []) (notes.Pending v b.id ∷ [])
      ])) [ true ↦ gives | false ↦ λ e. idle ] refl

  module _ (refused : (f : LaneFault) → P (refuses g f)) where
    -- an event at a host is refused, or the host is of the roster and up
    pub at_up_cases : (a : Acted) → (is_member g v ≡ true → is_up g v ≡ true → P a) → P (at_up g v a)
    at_up_cases a next = cond_both (not (is_member g v)) _ _ P (λ _. refused faults.NotMember)
        (λ out. cond_both (is_up g v) _ _ P (next (not-false (is_member g v) out)) (λ _. refused faults.IsDown))

    -- Saved is refused, or saves the batch that is pending
    pub saves_id_cases : (id : ℕ) → ((p : Pending) → (replica_at g v).pending ≡ Some p → P (saves_batch g v p)) → P (saves_id g v id)
    saves_id_cases id saves =
        elim (replica_at g v).pending as (λ x. (replica_at g v).pending ≡ x → P (elim x as (λ _. Acted) [
          | None ↦ refuses g (faults.NotPending 0)
          | Some p ↦ (if p.batch.id == id then saves_batch g v p else refuses g (faults.NotPending p.batch.id))
        ])) [ None ↦ λ e. refused (faults.NotPending 0) | Some p ↦ λ e. cond_both (p.batch.id == id) _ _ P (λ _. saves p e) (λ _. refused (faults.NotPending p.batch.id)) ] refl

    -- Compact is refused, or is an input of the host
    pub compacts_cases : (i : ℕ) → P (inputs_at g v (inputs.Compact i)) → P (compacts g v i)
    compacts_cases i cuts = cond_both (nat_le i (ripe (replica_at g v))) _ _ P (λ _. cuts) (λ _. refused (faults.NotRipe (ripe (replica_at g v))))

    -- a start is refused, or the host is up with what was saved
    pub restarts_cases : (s : Durable)
        → (is_member g v ≡ true → P (did (moved (record g { up = slice_set g.up v true; saves = slice_set g.saves v (state_of s.batch) }) v (restarted s) []) [])) → P (restarts g v s)
    restarts_cases s starts = cond_both (not (is_member g v)) _ _ P (λ _. refused faults.NotMember)
        (λ out. cond_both (is_up g v) _ _ P (λ _. refused faults.IsUp) (λ _. starts (not-false (is_member g v) out)))

-- a delivery is refused, or is an input of the host that the envelope is for
pub delivers_cases : (g : Group) (x : Option Envelope) (P : Acted → Type 0) → ((f : LaneFault) → P (refuses g f))
    → ((m : Envelope) → x ≡ Some m → is_member g m.to ≡ true → is_up g m.to ≡ true → P (inputs_at g m.to (inputs.Envelope m))) → P (delivers g x)
delivers_cases g None P refused next = refused faults.NoEnvelope
delivers_cases g (Some m) P refused next = at_up_cases g m.to P refused (inputs_at g m.to (inputs.Envelope m)) (next m refl)

-- a read was asked before, or its first asking is noted with the length of the decided list
pub noted_ask_cases : (g : Group) (key : Key) (P : Group → Type 0) → (is_asked g key ≡ true → P g)
    → (is_asked g key ≡ false → P (record g { asks = insert_entry key_order g.asks key (length g.decided) })) → P (noted_ask g key)
noted_ask_cases g key P before first = cond_both (is_asked g key) _ _ P before first

-- Any event leaves the group as it was but for which hosts are up, or moves one replica, with other hosts up, another saved state or a first asking.
module _ (g : Group) (P : Group → Type 0) (turns : (up : List Bool) → P (record g { up = up }))
    (moves : (up : List Bool) (saves : List SavedState) (v : ℕ) (q : Replica) (sent : List Envelope) → P (moved (record g { up = up; saves = saves }) v q sent))
    (asks : (key : Key) (v : ℕ) (q : Replica) (sent : List Envelope) → is_asked g key ≡ false → P (moved (record g { asks = insert_entry key_order g.asks key (length g.decided) }) v q sent)) where
  -- the property holds of the group that an event leaves
  abbrev Q : Acted → Type 0
  Q a = P a.group

  -- it does after an input of a host, which moves the replica
  input_leaves : (v : ℕ) (i : Input) → Q (inputs_at g v i)
  input_leaves v i = let s = step (seat g v) i (replica_at g v) in moves g.up g.saves v s.replica s.sent

  -- it does where the host has to be up, if it does where the host is
  up_leaves : (v : ℕ) (a : Acted) → Q a → Q (at_up g v a)
  up_leaves v a next = at_up_cases g v Q (λ f. turns g.up) a (λ _ _. next)

  -- so it does after any event
  pub act_leaves : (e : LaneEvent) → Q (act e g)
  unfolding act
  act_leaves (events.Timeout v) = up_leaves v _ (input_leaves v inputs.Timeout)
  act_leaves (events.Beat v) = up_leaves v _ (input_leaves v inputs.Beat)
  act_leaves (events.Deliver n) = delivers_cases g (envelope_at g.wire n) Q (λ f. turns g.up) (λ m _ _ _. input_leaves m.to (inputs.Envelope m))
  act_leaves (events.Ready v) = up_leaves v _ (readies_cases g v Q (moves g.up g.saves v (replica_at g v) []) (λ _. moves g.up g.saves v (gave_batch (replica_at g v)) []))
  act_leaves (events.Saved v id) = up_leaves v _ (saves_id_cases g v Q (λ f. turns g.up) id (λ p _.
      let s = saved (seat g v) p (replica_at g v) in moves g.up (slice_set g.saves v (merged (saved_at g v) p.batch)) v s.replica s.sent))
  act_leaves (events.Propose v key p) = up_leaves v _ (input_leaves v (inputs.Propose key p))
  act_leaves (events.Ask v key) = up_leaves v _ (noted_ask_cases g key (λ n. P (inputs_at n v (inputs.Ask key)).group) (λ _. input_leaves v (inputs.Ask key))
      (λ new. let s = step (seat g v) (inputs.Ask key) (replica_at g v) in asks key v s.replica s.sent new))
  act_leaves (events.Chunk v to c) = up_leaves v _ (input_leaves v (inputs.Chunk to c))
  act_leaves (events.Compact v i) = up_leaves v _ (compacts_cases g v Q (λ f. turns g.up) i (input_leaves v (inputs.Compact i)))
  act_leaves (events.Installed v i t) = up_leaves v _ (input_leaves v (inputs.Installed i t))
  act_leaves (events.Down v) = up_leaves v _ (turns (slice_set g.up v false))
  act_leaves (events.Restart v s) = restarts_cases g v Q (λ f. turns g.up) s (λ _. moves (slice_set g.up v true) (slice_set g.saves v (state_of s.batch)) v (restarted s) [])
