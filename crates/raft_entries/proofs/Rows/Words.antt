-- The words that the rows of the step table are told in, and what a property of a replica's parts has to meet at each of them.
use Rattle.std.proofs.Common.{◌≡◌, ◌≤◌, ◌<◌, ◌+◌, ◌-◌, ◌^◌, ℕ, List, [], ◌∷◌, ◌++◌, true, false, length}
use Rattle.std.specs.Prelude.{◌&&◌, ⊤, nat_lt, nat_le, min, max, Option, Some, None, IfSome, IsSomeAnd, slice_set}
use Rattle.std.specs.List.{All}
use Rattle.host_ids.specs.declared.entry.Entry.{Entry}
use Rattle.host_ids.specs.declared.entry.Key.{Key}
use Rattle.host_ids.specs.declared.proposal.Proposal.{Proposal}
use Rattle.wire_types.specs.declared.envelope.Envelope.{Envelope}
use Rattle.wire_types.specs.declared.envelope.Body.{Body}
use Rattle.wire_types.specs.declared.envelope.Body.TheVariants as bodies
use Rattle.raft_model.specs.declared.chunk.Chunk.{Chunk}
use Rattle.raft_model.specs.declared.input.Input.{Input}
use Rattle.raft_model.specs.declared.input.Input.TheVariants as inputs
use Rattle.raft_model.specs.declared.state.Inbox.{Inbox}
use Rattle.roster.specs.Roster.{Seat, at, all_at}
use Rattle.raft_model.specs.declared.role.Role.TheVariants.{Follower, Candidate, Leader}
use Rattle.raft_model.specs.declared.state.State.{State as Replica}
use Rattle.log_view.specs.Log.{last, slice, laid, cut_front, reset}
use Rattle.raft_model.specs.Appending.{lacks}
use Rattle.raft_model.specs.Snapping.{stays, taken}
use Rattle.raft_entries.specs.Parts.{Parts, parts}
use Rattle.raft_entries.specs.Mail.{Property, Following, Carries}

-- the numbers of a body that its reader takes over, but for those of entries, are at most these
abbrev pub IsBounded : Body → Type 0
IsBounded (bodies.Vote l lt) = ⊤
IsBounded (bodies.VoteReply granted) = ⊤
IsBounded (bodies.Append prev pt c es) = ⊤
IsBounded (bodies.AppendReply ok i) = i ≤ 2 ^ 62
IsBounded (bodies.Beat c round) = ⊤
IsBounded (bodies.BeatReply round) = ⊤
IsBounded (bodies.SnapChunk index last_term number count size bytes) = (index ≤ 2 ^ 62) × (number + 1 < 2 ^ 32) × (count + 1 < 2 ^ 32)
IsBounded (bodies.SnapReply i want whole) = i ≤ 2 ^ 62
IsBounded (bodies.Propose key p) = ⊤
IsBounded (bodies.ReadAsk key) = ⊤
IsBounded (bodies.ReadAnswer key i) = ⊤

-- so are those of a piece of a snapshot
abbrev pub IsPiece : Chunk → Type 0
IsPiece c = IsBounded (bodies.SnapChunk c.index c.last_term c.number c.count c.size c.bytes)

-- what has to come with an input where numbers are limited: those of a piece that is to be sent are, and an installed snapshot is the received one
abbrev pub IsAsked : Replica → Input → Type 0
IsAsked r inputs.Timeout = ⊤
IsAsked r inputs.Beat = ⊤
IsAsked r (inputs.Envelope m) = ⊤
IsAsked r (inputs.Propose key p) = ⊤
IsAsked r (inputs.Ask key) = ⊤
IsAsked r (inputs.Chunk to c) = (c.term ≤ 2 ^ 62) × IsPiece c
IsAsked r (inputs.Compact i) = ⊤
IsAsked r (inputs.Installed i t) = IsSomeAnd r.inbox (λ b. b.received.index ≡ i)

-- what a replica's parts have where numbers are limited
pub record Limits (x : Parts) : Type 0 where
  pub term_short : x.term ≤ 2 ^ 62
  pub last_short : last x.log ≤ 2 ^ 62
  pub may_lead : x.role ≡ Candidate → last x.log < 2 ^ 62
  pub received : IfSome x.inbox (λ b. b.received.index ≤ 2 ^ 62)

-- the log changed from an index on, or it didn't change
abbrev pub lowered_by : Option ℕ → Parts → Parts
lowered_by o x = record x {
  from = elim o as (λ _. ℕ) [ None ↦ x.from | Some i ↦ min x.from i ];
  stable = elim o as (λ _. ℕ) [ None ↦ x.stable | Some i ↦ min x.stable (min x.from i - 1) ];
}

-- entries are laid into the log, and the commit index rises to what the leader says, as far as they reach
abbrev pub laid_by : ℕ → ℕ → List Entry → Parts → Parts
laid_by c prev es x =
    let w = laid x.log x.commit prev es in
    let y = lowered_by w.changed_from (record x { log = w.log }) in
    record y { commit = max y.commit (min c (max x.log.front (prev + length es))) }

-- the next entry of a leader: the one after the log's last, of the leader's term
abbrev pub next_entry : Key → Proposal → Parts → Entry
next_entry key p x = record { index = last x.log + 1; term = x.term; key = key; proposal = p }

-- a leader appends its next entry to its log
abbrev pub pushed : Key → Proposal → Parts → Parts
pushed key p x = lowered_by (Some (last x.log + 1)) (record x { log = record x.log { entries = x.log.entries ++ next_entry key p x ∷ [] } })

-- what is said of a replica's parts, said of the replica
abbrev pub On : (Parts → Type 0) → Replica → Type 0
On G r = G (parts r)

-- the words of the rows at a seat, each with what it has to keep: of a proposal with its key, of entries that follow an index in a term, of envelopes, and of a replica's parts; where L holds, numbers are limited
pub record Words (Own : Property) (Follows : Following) (L : Type 0) (Mail : Envelope → Type 0) (s : Seat) (G : Parts → Type 0) : Type 0 where
  -- an envelope: what it carries, how great its numbers are, and what one of this seat has to meet
  pub carries : (m : Envelope) → Mail m → Carries Own Follows m.term m.body
  pub bounds : (m : Envelope) → Mail m → L → (m.term ≤ 2 ^ 62) × IsBounded m.body
  pub writes : (to t : ℕ) (body : Body) → Carries Own Follows t body → (L → (t ≤ 2 ^ 62) × IsBounded body)
      → Mail (record { from = s.me; to = to; group = s.group; term = t; body = body })
  -- how far entries reach, and what the parts have, where numbers are limited
  pub reaches : (t prev : ℕ) (es : List Entry) → Follows t prev es → L → prev + length es ≤ 2 ^ 62
  pub limits : (x : Parts) → G x → L → Limits x
  -- what is held to be sent: a stretch of the log, one envelope more, all of them, and none after they went
  pub stretch : (x : Parts) (next : ℕ) → (nat_lt x.log.front next && nat_le next (last x.log + 1)) ≡ true → G x → Follows x.term (next - 1) (slice x.log next 64)
  pub holds : (x : Parts) (m : Envelope) → Mail m → G x → G (record x { held = x.held ++ m ∷ [] })
  pub mailed : (x : Parts) → G x → All Mail x.held
  pub empties : (x : Parts) → G x → G (record x { held = [] })
  -- term and role: a greater term, a candidacy, a leader to follow, and an election won
  pub enters : (x : Parts) (t : ℕ) → x.term < t → (L → t ≤ 2 ^ 62) → G x → G (record x { term = t; role = Follower })
  pub stands : (x : Parts) → x.term < 2 ^ 62 → last x.log < 2 ^ 62 → G x → G (record x { term = x.term + 1; role = Candidate })
  pub follows : (x : Parts) → G x → G (record x { role = Follower })
  pub leads : (x : Parts) → x.role ≡ Candidate → G x → G (record x { role = Leader; round = 0; matched = slice_set (all_at 0) s.me x.stable })
  -- what a leader counts: rounds, what a voter has, and what it has itself
  pub rounds : (x : Parts) → x.round < 2 ^ 62 → G x → G (record x { round = x.round + 1 })
  pub hears : (x : Parts) (v i : ℕ) → (L → i ≤ 2 ^ 62) → G x → G (record x { matched = slice_set x.matched v (max (at x.matched v) i) })
  pub matches : (x : Parts) → G x → G (record x { matched = slice_set x.matched s.me x.stable })
  -- the log: a later commit index, a leader's own entry, and entries from the leader
  pub commits : (x : Parts) (c : ℕ) → x.commit ≤ c → c ≤ max x.commit (last x.log) → G x → G (record x { commit = c })
  pub pushes : (x : Parts) (key : Key) (p : Proposal) → x.role ≡ Leader → (L → last x.log < 2 ^ 62) → Own key p → G x → G (pushed key p x)
  pub lays : (x : Parts) (t prev pt c : ℕ) (es : List Entry) → x.role ≡ Follower → t ≤ x.term → lacks x.log prev pt ≡ false
      → Follows t prev es → G x → G (laid_by c prev es x)
  -- pieces of a snapshot, and a whole one
  pub takes : (x : Parts) (c : Chunk) → (L → IsPiece c) → G x → G (record x { assembly = (taken x.assembly c).hand })
  pub receives : (x : Parts) (b : Inbox) → (L → (b.received.index ≤ 2 ^ 62) × (b.count + 1 < 2 ^ 32)) → G x → G (record x { inbox = Some b })
  -- the log's front: a compaction, and a snapshot with the entries after it or with none
  pub cuts : (x : Parts) (i : ℕ) → x.log.front < i → i ≤ min x.commit x.stable → G x → G (record x { log = cut_front x.log i })
  pub bases : (x : Parts) (i t : ℕ) → x.role ≡ Follower → x.commit < i → stays x.log i t ≡ true → G x
      → G (record x { log = cut_front x.log i; commit = i; stable = max x.stable i; from = max x.from (i + 1) })
  pub resets : (x : Parts) (i t : ℕ) → x.role ≡ Follower → x.commit < i → (L → i ≤ 2 ^ 62) → G x → G (record x { log = reset i t; commit = i; stable = i; from = i + 1 })
