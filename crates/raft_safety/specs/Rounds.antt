-- The invariant of reads: what is remembered of rounds of beats, and what it says of replicas and envelopes. Source: dissertation section 6.4; the form is
-- this project's own.
use Rattle.std.specs.Prelude.{◌≡◌, ◌≢◌, ◌⊎◌, ℕ, ◌<◌, ◌≤◌, List, [], ◌∷◌, ◌++◌, length, Bool, true, false, Option, Some}
use Rattle.std.specs.BTreeMap.{is_at}
use Rattle.std.specs.Map.{lookup}
use Rattle.host_ids.specs.declared.entry.Key.{Key}
use Rattle.wire_types.specs.declared.envelope.Envelope.{Envelope}
use Rattle.wire_types.specs.declared.envelope.Body.{Body}
use Rattle.wire_types.specs.declared.envelope.Body.TheVariants as bodies
use Rattle.raft_model.specs.declared.state.State.{State as Replica}
use Rattle.raft_model.specs.declared.state.Pending.{Pending}
use Rattle.read_index.specs.declared.reads.OpenRead.{OpenRead}
use Rattle.raft_model.specs.declared.role.Role.{Role}
use Rattle.raft_model.specs.declared.role.Role.TheVariants.{Leader}
use Rattle.raft_model.specs.declared.event.LaneEvent.{LaneEvent}
use Rattle.roster.specs.Roster.{at, is_majority}
use Rattle.raft_model.specs.Group.{Group, replica_at, saved_at, key_order, is_member, fresh_group, act}
use Rattle.raft_safety.specs.Invariant.{IsOnWire, Kept}
use Rattle.raft_safety.specs.Events.{IsAllowed}
use Rattle.raft_safety.specs.ReadFront.{AskedWithin, AreFronted}

-- a group with seals: envelopes at the head of its wire, by which what a leader could have sent is remembered in any history that fits
abbrev pub aheads : List Envelope → Group → Group
aheads ms g = record g { wire = ms ++ g.wire }

-- the seal that host u led term t, and that the first c places of its log are decided
abbrev pub seal : ℕ → ℕ → ℕ → Envelope
seal u t c = record { from = u; to = 0; group = 0; term = t; body = bodies.Append 0 0 c [] }

-- what is remembered of rounds: how many were opened in a term, and whose saved term was above it when a round was opened (who had gone)
pub record Rounds : Type 0 where
  pub count : ℕ → ℕ
  pub gone : ℕ → ℕ → ℕ → Bool

-- by key, the decided list's length at the first asking of a read with it
abbrev pub Asks : Type 0
Asks = List (Key × ℕ)

-- the part of a replica that its reads depend on
pub record View : Type 0 where
  pub held : List Envelope
  pub pending : Option Pending
  pub role : Role
  pub term : ℕ
  pub round : ℕ
  pub answered : List ℕ
  pub reads : List OpenRead
  pub commit : ℕ

-- the part of this replica
abbrev pub view : Replica → View
view r = record { held = r.held; pending = r.pending; role = r.role; term = r.term; round = r.reads.round; answered = r.reads.answered; reads = r.reads.waiting; commit = r.commit }

-- a read with this key was asked
pub record IsAsked (asks : Asks) (key : Key) : Type 0 where
  pub first : ℕ
  pub asked : lookup (is_at (key_order key)) asks ≡ Some first

-- what an envelope tells of reads: a beat's round was opened, who answers a round had not gone at its opening, and an answered read has its front
abbrev pub ReadTells : Rounds → Asks → ℕ → ℕ → Body → Type 0
ReadTells x asks from t (bodies.Vote l lt) = Unit {0}
ReadTells x asks from t (bodies.VoteReply granted) = Unit {0}
ReadTells x asks from t (bodies.Append prev pt c es) = Unit {0}
ReadTells x asks from t (bodies.AppendReply ok i) = Unit {0}
ReadTells x asks from t (bodies.Beat c round) = round ≤ x.count t
ReadTells x asks from t (bodies.BeatReply round) = (round ≤ x.count t) × (x.gone t round from ≡ false)
ReadTells x asks from t (bodies.SnapChunk i lt number count size bytes) = Unit {0}
ReadTells x asks from t (bodies.SnapReply i want all) = Unit {0}
ReadTells x asks from t (bodies.Propose key p) = Unit {0}
ReadTells x asks from t (bodies.ReadAsk key) = IsAsked asks key
ReadTells x asks from t (bodies.ReadAnswer key i) = AskedWithin asks key i

-- each envelope tells so, of its sender and its term
abbrev pub AllTell : Rounds → Asks → List Envelope → Type 0
AllTell x asks [] = Unit {0}
AllTell x asks (e ∷ es) = ReadTells x asks e.from e.term e.body × AllTell x asks es

-- an open read covers what was decided when it was asked first, or a majority had gone when its round was opened
pub record IsOpen (x : Rounds) (voters : List ℕ) (asks : Asks) (t : ℕ) (read : OpenRead) : Type 0 where
  pub within : read.round ≤ x.count t
  pub front : AskedWithin asks read.key read.index ⊎ (is_majority voters (x.gone t read.round) ≡ true)

-- each open read was asked, with a round of this term
abbrev pub AllOpen : Rounds → List ℕ → Asks → ℕ → List OpenRead → Type 0
AllOpen x voters asks t [] = Unit {0}
AllOpen x voters asks t (read ∷ more) = IsOpen x voters asks t read × AllOpen x voters asks t more

-- a leader's rounds, what it heard of them, and its open reads fit what is remembered
pub record ReadsOfLeader (x : Rounds) (voters : List ℕ) (asks : Asks) (t round : ℕ) (answered : List ℕ) (reads : List OpenRead) : Type 0 where
  pub begun : round ≡ x.count t
  pub heard : (u : ℕ) → (at answered u ≤ x.count t) × (x.gone t (at answered u) u ≡ false)
  pub stay : AllOpen x voters asks t reads

-- a replica fits what is remembered of reads: what it holds, what waits for its batch, and its reads while it leads
pub record IsReader (x : Rounds) (voters : List ℕ) (asks : Asks) (r : View) : Type 0 where
  pub held : AllTell x asks r.held
  pub pending : (p : Pending) → r.pending ≡ Some p → AllTell x asks p.envelopes
  pub leader : r.role ≡ Leader → ReadsOfLeader x voters asks r.term r.round r.answered r.reads

-- a seal tells that the term was led
pub record HasSeal (ms : List Envelope) (t : ℕ) : Type 0 where
  pub host : ℕ
  pub decided : ℕ
  pub there : IsOnWire ms (seal host t decided)

-- a sealed leader has decided all that is decided, and has committed it as long as it leads its term
pub record IsDecidedBy (ms : List Envelope) (g : Group) : Type 0 where
  pub host : ℕ
  pub term : ℕ
  pub there : IsOnWire ms (seal host term (length g.decided))
  pub own : (replica_at g host).role ≡ Leader → (replica_at g host).term ≡ term → length g.decided ≤ (replica_at g host).commit

-- the sentences on reads that name no replica's reads: with the seals the invariant holds, those who had gone are gone for good, and who decided last is known
pub record ReadsCommon (x : Rounds) (ms : List Envelope) (g : Group) : Type 0 where
  pub kept : Kept (aheads ms g)
  pub bounded : (key : Key) (m : ℕ) → lookup (is_at (key_order key)) g.asks ≡ Some m → m ≤ length g.decided
  pub wire : AllTell x g.asks g.wire
  pub gone : (t r u : ℕ) → x.gone t r u ≡ true → t < (saved_at g u).term
  pub within : (t r u : ℕ) → x.gone t r u ≡ true → (0 < r) × (r ≤ x.count t)
  pub more : (t r s u : ℕ) → x.gone t r u ≡ true → r ≤ s → s ≤ x.count t → x.gone t s u ≡ true
  pub led : (t : ℕ) → x.count t ≢ 0 → HasSeal ms t
  pub decided : (length g.decided ≡ 0) ⊎ IsDecidedBy ms g

-- the invariant of reads: some rounds and seals fit
pub record HasReads (g : Group) : Type 0 where
  pub rounds : Rounds
  pub seals : List Envelope
  pub common : ReadsCommon rounds seals g
  pub hosts : (u : ℕ) → IsReader rounds g.voters g.asks (view (replica_at g u))

-- a fresh group whose voters are hosts from 1 on has it
abbrev pub BeginsReads : Type 0
BeginsReads = (number : ℕ) (voters : List ℕ) → is_member (fresh_group number voters) 0 ≡ false → HasReads (fresh_group number voters)

-- each allowed event keeps it
abbrev pub StaysReads : Type 0
StaysReads = (e : LaneEvent) (g : Group) → IsAllowed g e → HasReads g → HasReads (act e g).group

-- and an allowed event notes reads as confirmed only with their fronts
abbrev pub NotesFronts : Type 0
NotesFronts = (e : LaneEvent) (g : Group) → IsAllowed g e → HasReads g → AreFronted (act e g).group.asks (act e g).notes
