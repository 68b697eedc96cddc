-- A read that is confirmed is answered from all that was decided when it was asked. Source: dissertation section 6.4.
use Rattle.std.specs.Prelude.{◌≡◌, ◌⊎◌, ◌≤◌, ℕ, List, [], ◌∷◌, length, Some, None, false}
use Rattle.std.specs.BTreeMap.{is_at}
use Rattle.std.specs.Map.{lookup}
use Rattle.host_ids.specs.declared.entry.Key.{Key}
use Rattle.raft_model.specs.declared.note.Note.{Note}
use Rattle.raft_model.specs.declared.note.Note.TheVariants as notes
use Rattle.raft_model.specs.declared.event.LaneEvent.{LaneEvent}
use Rattle.raft_model.specs.declared.event.LaneEvent.TheVariants as events
use Rattle.raft_model.specs.Group.{Group, is_member, fresh_group, key_order, is_asked, act, run}
use Rattle.raft_safety.specs.Events.{AreAllowed}

-- a read with this key was asked, and when one was asked first the decided list had at most this length
pub record AskedWithin (asks : List (Key × ℕ)) (key : Key) (n : ℕ) : Type 0 where
  pub first : ℕ
  pub asked : lookup (is_at (key_order key)) asks ≡ Some first
  pub within : first ≤ n

-- the index of a confirmed read covers all that was decided when a read with its key was first asked
abbrev pub IsFronted : List (Key × ℕ) → Note → Type 0
IsFronted asks (notes.Leader host term) = Unit {0}
IsFronted asks (notes.Pending host id) = Unit {0}
IsFronted asks notes.Idle = Unit {0}
IsFronted asks (notes.Dropped key) = Unit {0}
IsFronted asks (notes.Confirmed host key n) = AskedWithin asks key n

-- so it is with each of these notes
abbrev pub AreFronted : List (Key × ℕ) → List Note → Type 0
AreFronted asks [] = Unit {0}
AreFronted asks (n ∷ ns) = IsFronted asks n × AreFronted asks ns

-- what is noted over any allowed events from a fresh group whose voters are hosts from 1 on
abbrev pub ReadFront : Type 0
ReadFront = (number : ℕ) (voters : List ℕ) → is_member (fresh_group number voters) 0 ≡ false → (es : List LaneEvent) → AreAllowed (fresh_group number voters) es
    → AreFronted (run es (fresh_group number voters)).group.asks (run es (fresh_group number voters)).notes

-- a note is among these
abbrev pub IsNoted : List Note → Note → Type 0
IsNoted [] n = ⊥
IsNoted (m ∷ ms) n = (n ≡ m) ⊎ IsNoted ms n

-- a read with a new key that is asked now is confirmed, whenever that is and where, with an index that covers all that is decided now
abbrev pub CoversNow : Group → Type 0
CoversNow g = (v : ℕ) (key : Key) → (act (events.Ask v key) g).refused ≡ None → is_asked g key ≡ false
    → (es : List LaneEvent) → AreAllowed (act (events.Ask v key) g).group es
    → (host n : ℕ) → IsNoted (run (events.Ask v key ∷ es) g).notes (notes.Confirmed host key n) → length g.decided ≤ n

-- so it is at each moment of a run of allowed events from a fresh group whose voters are hosts from 1 on
abbrev pub FirstAsk : Type 0
FirstAsk = (number : ℕ) (voters : List ℕ) → is_member (fresh_group number voters) 0 ≡ false
    → (es : List LaneEvent) → AreAllowed (fresh_group number voters) es → CoversNow (run es (fresh_group number voters)).group
