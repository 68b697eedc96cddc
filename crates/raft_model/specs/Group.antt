-- A group: its replicas, which are up, the wire, what each has saved, and the one decided list. Source: dissertation chapter 3; the wire that keeps every envelope, what is saved when, and the refusals are this project's own.
use Rattle.std.specs.Prelude.{ℕ, ◌-◌, ◌==◌, ◌&&◌, List, [], ◌∷◌, ◌++◌, Bool, true, false, not, nat_lt, nat_le, length, take, drop, Option, Some, None, slice_get, slice_set, slice_index_or, replicate, is_some, if◌then◌else◌, zero, suc}
use Rattle.std.specs.BTreeMap.{insert_entry, is_at}
use Rattle.std.specs.Map.{lookup}
use Rattle.std.specs.declared.cmp.Ordering.{Ordering}
use Rattle.std.specs.Ordering.{nat_cmp, ordering_then}
use Rattle.std.specs.List.{list_any}
use Rattle.host_ids.specs.declared.entry.Entry.{Entry}
use Rattle.host_ids.specs.declared.entry.Key.{Key}
use Rattle.wire_types.specs.declared.envelope.Envelope.{Envelope}
use Rattle.host_ids.specs.declared.batch.Batch.{Batch}
use Rattle.raft_model.specs.declared.durable.Durable.{Durable}
use Rattle.raft_model.specs.declared.saved.SavedState.{SavedState}
use Rattle.raft_model.specs.declared.input.Input.{Input}
use Rattle.raft_model.specs.declared.input.Input.TheVariants as inputs
use Rattle.raft_model.specs.declared.event.LaneEvent.{LaneEvent}
use Rattle.raft_model.specs.declared.event.LaneEvent.TheVariants as events
use Rattle.raft_model.specs.declared.event.LaneFault.{LaneFault}
use Rattle.raft_model.specs.declared.event.LaneFault.TheVariants as faults
use Rattle.raft_model.specs.declared.note.Note.{Note}
use Rattle.raft_model.specs.declared.note.Note.TheVariants as notes
use Rattle.roster.specs.Roster.{Seat}
use Rattle.log_view.specs.Log.{term_in}
use Rattle.raft_model.specs.declared.state.State.{State as Replica}
use Rattle.raft_model.specs.declared.state.Pending.{Pending}
use Rattle.raft_model.specs.Replica.{fresh, ripe}
use Rattle.raft_model.specs.Restarting.{state_of, restarted}
use Rattle.raft_model.specs.Step.{Step, step, ready, after_ready, saved}

pub record Group : Type 0 where
  pub number : ℕ
  pub voters : List ℕ
  pub replicas : List Replica  -- a table by host
  pub up : List Bool
  pub wire : List Envelope
  pub saves : List SavedState  -- what each has saved
  pub decided : List Entry
  pub asks : List (Key × ℕ)  -- by key, the decided list's length at the first asking of a read with it

abbrev pub nothing_saved : SavedState
nothing_saved = record { term = 0; vote = 0; commit = 0; front = 0; front_term = 0; entries = [] }

abbrev pub replica_at : Group → ℕ → Replica
replica_at g h = slice_index_or g.replicas h fresh

abbrev pub is_up : Group → ℕ → Bool
is_up g h = slice_index_or g.up h false

abbrev pub saved_at : Group → ℕ → SavedState
saved_at g h = slice_index_or g.saves h nothing_saved

abbrev pub fresh_group : ℕ → List ℕ → Group
fresh_group number voters = record { number = number; voters = voters; replicas = replicate 10 fresh; up = replicate 10 true; wire = []; saves = replicate 10 nothing_saved; decided = []; asks = [] }

abbrev pub seat : Group → ℕ → Seat
seat g h = record { group = g.number; me = h; voters = g.voters }

-- a replica whose commit index passes the list continues it by its own entries, where its log reaches down to the list's end
abbrev pub continued : List Entry → Replica → List Entry
continued d r =
    if nat_lt (length d) r.commit && nat_le r.log.front (length d)
    then d ++ take (r.commit - length d) (drop (length d - r.log.front) r.log.entries)
    else d

-- a replica becomes another, and envelopes go on the wire
abbrev pub moved : Group → ℕ → Replica → List Envelope → Group
moved g h r sent = record g { replicas = slice_set g.replicas h r; wire = g.wire ++ sent; decided = continued g.decided r }

pub record Acted : Type 0 where
  pub group : Group
  pub notes : List Note
  pub refused : Option LaneFault

abbrev pub did : Group → List Note → Acted
did g ns = record { group = g; notes = ns; refused = None }

abbrev pub refuses : Group → LaneFault → Acted
refuses g f = record { group = g; notes = []; refused = Some f }

abbrev pub stepped : Group → ℕ → Step → Acted
stepped g h s = did (moved g h s.replica s.sent) s.notes

abbrev pub inputs_at : Group → ℕ → Input → Acted
inputs_at g h input = stepped g h (step (seat g h) input (replica_at g h))

abbrev pub is_member : Group → ℕ → Bool
is_member g h = list_any (λ v. v == h) g.voters

-- an event at a host of the roster that is up; else the refusal
abbrev pub at_up : Group → ℕ → Acted → Acted
at_up g h a = if not (is_member g h) then refuses g faults.NotMember else (if is_up g h then a else refuses g faults.IsDown)

abbrev pub readies : Group → ℕ → Acted
readies g h = elim (ready (replica_at g h)) as (λ _. Acted) [
  | None ↦ did (moved g h (replica_at g h) []) (notes.Idle ∷ [])
  | Some b ↦ did (moved g h (after_ready (replica_at g h)) []) (notes.Pending h b.id ∷ [])
]

-- what is saved after a batch: its front, the old entries between that and its first one, and its own
abbrev pub merged : SavedState → Batch → SavedState
merged old b = record {
  term = b.term;
  vote = b.vote;
  commit = b.commit;
  front = b.front;
  front_term = b.front_term;
  entries = take (b.first - b.front - 1) (drop (b.front - old.front) old.entries) ++ b.entries;
}

abbrev pub saves_batch : Group → ℕ → Pending → Acted
saves_batch g h p = stepped (record g { saves = slice_set g.saves h (merged (saved_at g h) p.batch) }) h (saved (seat g h) p (replica_at g h))

abbrev pub saves_id : Group → ℕ → ℕ → Acted
saves_id g h id = elim (replica_at g h).pending as (λ _. Acted) [
  | None ↦ refuses g (faults.NotPending 0)
  | Some p ↦ (if p.batch.id == id then saves_batch g h p else refuses g (faults.NotPending p.batch.id))
]

abbrev pub delivers : Group → Option Envelope → Acted
delivers g None = refuses g faults.NoEnvelope
delivers g (Some e) = at_up g e.to (inputs_at g e.to (inputs.Envelope e))

abbrev pub envelope_at : List Envelope → ℕ → Option Envelope
envelope_at wire zero = None
envelope_at wire (suc k) = slice_get wire k

-- keys in order of host, start and serial
abbrev pub key_order : Key → Key → Ordering
key_order a b = ordering_then (nat_cmp a.host b.host) (ordering_then (nat_cmp a.start b.start) (nat_cmp a.serial b.serial))

abbrev pub is_asked : Group → Key → Bool
is_asked g key = is_some (lookup (is_at (key_order key)) g.asks)

-- the first asking of a read remembers how long the decided list was
abbrev pub noted_ask : Group → Key → Group
noted_ask g key = if is_asked g key then g else record g { asks = insert_entry key_order g.asks key (length g.decided) }

abbrev pub compacts : Group → ℕ → ℕ → Acted
compacts g h i = if nat_le i (ripe (replica_at g h)) then inputs_at g h (inputs.Compact i) else refuses g (faults.NotRipe (ripe (replica_at g h)))

abbrev pub restarts : Group → ℕ → Durable → Acted
restarts g h d =
    if not (is_member g h) then refuses g faults.NotMember
    else (if is_up g h then refuses g faults.IsUp
    else did (moved (record g { up = slice_set g.up h true; saves = slice_set g.saves h (state_of d.batch) }) h (restarted d) []) [])

unfoldable pub act : LaneEvent → Group → Acted
act (events.Timeout h) g = at_up g h (inputs_at g h inputs.Timeout)
act (events.Beat h) g = at_up g h (inputs_at g h inputs.Beat)
act (events.Deliver k) g = delivers g (envelope_at g.wire k)
act (events.Ready h) g = at_up g h (readies g h)
act (events.Saved h id) g = at_up g h (saves_id g h id)
act (events.Propose h key p) g = at_up g h (inputs_at g h (inputs.Propose key p))
act (events.Ask h key) g = at_up g h (inputs_at (noted_ask g key) h (inputs.Ask key))
act (events.Chunk h to c) g = at_up g h (inputs_at g h (inputs.Chunk to c))
act (events.Compact h i) g = at_up g h (compacts g h i)
act (events.Installed h i t) g = at_up g h (inputs_at g h (inputs.Installed i t))
act (events.Down h) g = at_up g h (did (record g { up = slice_set g.up h false }) [])
act (events.Restart h d) g = restarts g h d

-- 0 with the term 0, or a place of the decided list with its term
abbrev pub is_decided : List Entry → ℕ → ℕ → Bool
is_decided d zero t = t == 0
is_decided d (suc k) t = nat_lt k (length d) && (term_in d k == t)

abbrev pub term_of : List Entry → ℕ → ℕ
term_of d zero = 0
term_of d (suc k) = term_in d k

-- the snapshot that a host has received is of this place and this term
abbrev pub is_named : Group → ℕ → ℕ → ℕ → Bool
is_named g h i t = elim (replica_at g h).inbox as (λ _. Bool) [ None ↦ false | Some b ↦ (b.received.index == i) && (b.received.term == t) ]

-- all notes of a list of events, and the group after them
pub record Ran : Type 0 where
  pub group : Group
  pub notes : List Note

unfoldable pub run : List LaneEvent → Group → Ran
run [] g = record { group = g; notes = [] }
run (e ∷ es) g =
    let a = act e g in
    let more = run es a.group in
    record { group = more.group; notes = a.notes ++ more.notes }
