-- One more envelope at the head of the wire changes nothing but the numbers by which the others are delivered.
use Rattle.std.proofs.Common.{◌≡◌, ℕ, zero, suc, [], ◌∷◌, length, Bool, true, false, refl, ap, ◌∙◌, Option, Some, None, ◌==◌, if◌then◌else◌}
use Rattle.std.specs.Prelude.{not, nat_le, slice_set}
use Rattle.std.specs.BTreeMap.{insert_entry}
use Rattle.host_ids.specs.declared.entry.Key.{Key}
use Rattle.wire_types.specs.declared.envelope.Envelope.{Envelope}
use Rattle.raft_model.specs.declared.durable.Durable.{Durable}
use Rattle.raft_model.specs.declared.event.LaneEvent.{LaneEvent}
use Rattle.raft_model.specs.declared.event.LaneEvent.TheVariants as events
use Rattle.raft_model.specs.declared.event.LaneFault.TheVariants as faults
use Rattle.raft_model.specs.declared.input.Input.TheVariants as inputs
use Rattle.raft_model.specs.Replica.{ripe}
use Rattle.raft_model.specs.Restarting.{state_of, restarted}
use Rattle.raft_model.specs.Step.{ready}
use Rattle.raft_model.specs.Group.{Group, Acted, replica_at, is_member, is_up, is_asked, key_order, envelope_at, moved, did, refuses, act}
use Rattle.raft_model.specs.Group.{at_up, inputs_at, delivers, noted_ask, saves_batch, readies, saves_id, compacts, restarts}
use Rattle.raft_safety.specs.Events.{IsAllowed}

-- the group with one more envelope at the head of its wire
abbrev pub ahead : Envelope → Group → Group
ahead m g = record g { wire = m ∷ g.wire }

-- what an event came to, with that envelope there
abbrev acted_ahead : Envelope → Acted → Acted
acted_ahead m a = record a { group = ahead m a.group }

-- the event that does the same in that group: a delivery takes the next number
abbrev pub later_by_one : LaneEvent → LaneEvent
later_by_one (events.Deliver (suc n)) = events.Deliver (suc (suc n))
later_by_one e = e

-- a function applied to both sides of a choice is applied to what is chosen
picked : {A B : Type 0} (f : A → B) (test : Bool) (x y : A) → (if test then f x else f y) ≡ f (if test then x else y)
picked f true x y = refl
picked f false x y = refl

-- and so it is where the choice is by an option
found : {A B C : Type 0} (f : A → B) (x : Option C) (none : A) (some : C → A) (other : C → B) → ((c : C) → other c ≡ f (some c))
    → (elim x as (λ _. B) [ None ↦ f none | Some c ↦ other c ]) ≡ f (elim x as (λ _. A) [ None ↦ none | Some c ↦ some c ])
found f None none some other same = refl
found f (Some c) none some other same = same c

module _ (m : Envelope) where
  -- of two events with the envelope there, a test picks the one that it picks without
  acted : (test : Bool) (a b : Acted) → (if test then acted_ahead m a else acted_ahead m b) ≡ acted_ahead m (if test then a else b)
  acted test a b = picked (acted_ahead m) test a b

  -- an event that does the same does so too where the host has to be of the roster
  at_member_ahead : (g : Group) (v : ℕ) (a b : Acted) → b ≡ acted_ahead m a
      → (if not (is_member g v) then refuses (ahead m g) faults.NotMember else b) ≡ acted_ahead m (if not (is_member g v) then refuses g faults.NotMember else a)
  at_member_ahead g v a b same = ap (λ x. if not (is_member g v) then refuses (ahead m g) faults.NotMember else x) same ∙ acted (not (is_member g v)) (refuses g faults.NotMember) a

  -- and where it has to be up
  at_up_ahead : (g : Group) (v : ℕ) (a : Acted) → at_up (ahead m g) v (acted_ahead m a) ≡ acted_ahead m (at_up g v a)
  at_up_ahead g v a = at_member_ahead g v (if is_up g v then a else refuses g faults.IsDown) _ (acted (is_up g v) a (refuses g faults.IsDown))

  -- the delivery of an envelope does the same
  delivers_ahead : (g : Group) (x : Option Envelope) → delivers (ahead m g) x ≡ acted_ahead m (delivers g x)
  delivers_ahead g None = refl
  delivers_ahead g (Some e) = at_up_ahead g e.to (inputs_at g e.to (inputs.Envelope e))

  -- Ready does the same
  readies_ahead : (g : Group) (v : ℕ) → readies (ahead m g) v ≡ acted_ahead m (readies g v)
  readies_ahead g v = found (acted_ahead m) (ready (replica_at g v)) _ _ _ (λ b. refl)

  -- Saved does the same
  saves_ahead : (g : Group) (v id : ℕ) → saves_id (ahead m g) v id ≡ acted_ahead m (saves_id g v id)
  saves_ahead g v id = found (acted_ahead m) (replica_at g v).pending _ _ _ (λ p. acted (p.batch.id == id) (saves_batch g v p) (refuses g (faults.NotPending p.batch.id)))

  -- a read is noted as asked in the same way
  noted_ahead : (g : Group) (key : Key) → noted_ask (ahead m g) key ≡ ahead m (noted_ask g key)
  noted_ahead g key = picked (ahead m) (is_asked g key) g (record g { asks = insert_entry key_order g.asks key (length g.decided) })

  -- Compact does the same
  compacts_ahead : (g : Group) (v i : ℕ) → compacts (ahead m g) v i ≡ acted_ahead m (compacts g v i)
  compacts_ahead g v i = acted (nat_le i (ripe (replica_at g v))) (inputs_at g v (inputs.Compact i)) (refuses g (faults.NotRipe (ripe (replica_at g v))))

  -- a start does the same
  restarts_ahead : (g : Group) (v : ℕ) (d : Durable) → restarts (ahead m g) v d ≡ acted_ahead m (restarts g v d)
  restarts_ahead g v d =
      let started = did (moved (record g { up = slice_set g.up v true; saves = slice_set g.saves v (state_of d.batch) }) v (restarted d) []) [] in
      at_member_ahead g v (if is_up g v then refuses g faults.IsUp else started) _ (acted (is_up g v) (refuses g faults.IsUp) started)

  -- each event, with its number put right, does the same in the group with one more envelope
  pub act_ahead : (e : LaneEvent) (g : Group) → act (later_by_one e) (ahead m g) ≡ acted_ahead m (act e g)
  unfolding act
  act_ahead (events.Timeout v) g = at_up_ahead g v (inputs_at g v inputs.Timeout)
  act_ahead (events.Beat v) g = at_up_ahead g v (inputs_at g v inputs.Beat)
  act_ahead (events.Deliver zero) g = refl
  act_ahead (events.Deliver (suc n)) g = delivers_ahead g (envelope_at g.wire (suc n))
  act_ahead (events.Ready v) g = ap (at_up (ahead m g) v) (readies_ahead g v) ∙ at_up_ahead g v (readies g v)
  act_ahead (events.Saved v id) g = ap (at_up (ahead m g) v) (saves_ahead g v id) ∙ at_up_ahead g v (saves_id g v id)
  act_ahead (events.Propose v key p) g = at_up_ahead g v (inputs_at g v (inputs.Propose key p))
  act_ahead (events.Ask v key) g = ap (λ n. at_up (ahead m g) v (inputs_at n v (inputs.Ask key))) (noted_ahead g key) ∙ at_up_ahead g v (inputs_at (noted_ask g key) v (inputs.Ask key))
  act_ahead (events.Chunk v to c) g = at_up_ahead g v (inputs_at g v (inputs.Chunk to c))
  act_ahead (events.Compact v i) g = ap (at_up (ahead m g) v) (compacts_ahead g v i) ∙ at_up_ahead g v (compacts g v i)
  act_ahead (events.Installed v i t) g = at_up_ahead g v (inputs_at g v (inputs.Installed i t))
  act_ahead (events.Down v) g = at_up_ahead g v (did (record g { up = slice_set g.up v false }) [])
  act_ahead (events.Restart v d) g = restarts_ahead g v d

  -- and it is allowed there where the event is allowed
  pub allowed_ahead : (e : LaneEvent) (g : Group) → IsAllowed g e → IsAllowed (ahead m g) (later_by_one e)
  allowed_ahead (events.Deliver zero) g a = refl
  allowed_ahead (events.Deliver (suc n)) g a = refl
  allowed_ahead e g a = a
