-- The rows of SnapChunk, SnapReply, the sending of a chunk, Compact and Installed, and the assembly of chunks. Source: dissertation chapter 5; chunks and their replies are this project's own.
use Rattle.std.specs.Prelude.{ℕ, ◌+◌, ◌==◌, ◌&&◌, List, [], ◌∷◌, ◌++◌, Bool, true, false, not, nat_lt, nat_le, max, length, Option, Some, None, if◌then◌else◌}
use Rattle.std.specs.List.{flat_map}
use Rattle.raft_model.specs.declared.chunk.Chunk.{Chunk}
use Rattle.wire_types.specs.declared.envelope.Body.TheVariants as bodies
use Rattle.roster.specs.Roster.{Seat}
use Rattle.log_view.specs.Log.{Log, last, term_at, cut_front, reset}
use Rattle.raft_model.specs.declared.state.State.{State as Replica}
use Rattle.raft_model.specs.declared.state.Inbox.{Inbox}
use Rattle.raft_model.specs.Replica.{Row, quiet, is_leader, is_follower, ripe, sent, sent_in}
use Rattle.raft_model.specs.Appending.{follows, more_to, reached, progress, with_progress}

-- two chunks are of one series
abbrev pub belongs : Chunk → Chunk → Bool
belongs a b = (a.term == b.term) && (a.index == b.index) && (a.last_term == b.last_term) && (a.count == b.count) && (a.size == b.size)

-- what the chunks in hand become, and the number that is wanted, or all the bytes
pub record Took : Type 0 where
  pub hand : List Chunk
  pub whole : Option (List ℕ)
  pub want : ℕ

-- the next one of the chunks in hand, which are numbers 1, 2 and so on of one series
abbrev pub is_next : List Chunk → Chunk → Bool
is_next [] c = false
is_next (b ∷ bs) c = belongs b c && (c.number == length bs + 2)

-- the first one of another series, which replaces what is in hand
abbrev pub is_first : List Chunk → Chunk → Bool
is_first [] c = c.number == 1
is_first (b ∷ bs) c = not (belongs b c) && (c.number == 1)

-- after the last one the bytes are whole and nothing is in hand; after another one the next number is wanted
abbrev pub counted_in : List Chunk → Chunk → Took
counted_in hand c =
    if c.number == c.count then record { hand = []; whole = Some (flat_map (λ b. b.bytes) hand); want = 1 }
    else record { hand = hand; whole = None; want = c.number + 1 }

-- any other chunk changes nothing
abbrev pub taken : List Chunk → Chunk → Took
taken hand c =
    if is_next hand c then counted_in (hand ++ c ∷ []) c
    else (if is_first hand c then counted_in (c ∷ []) c
    else record { hand = hand; whole = None; want = length hand + 1 })

-- what is wanted next is answered, and a whole snapshot is put into the inbox
abbrev pub after_take : Seat → ℕ → Chunk → Took → Replica → Replica
after_take s from c w r =
    elim w.whole as (λ _. Replica) [
      | None ↦ sent s from (bodies.SnapReply c.index w.want false) (record r { assembly = w.hand })
      | Some bytes ↦ record r { assembly = w.hand; inbox = Some (record { received = record { index = c.index; term = c.last_term; bytes = bytes }; sender = from; count = c.count }) }
    ]

-- | SnapChunk | t < term | send SnapReply{index, 0, 0} |
-- | SnapChunk | t = term, Leader | nothing |
-- | SnapChunk | t = term, else | role Follower; leader = sender; where index <= commit: send SnapReply{index, count + 1, 1}; else the assembly takes it: More and NotNext send SnapReply{index, want, 0}; Whole puts the bytes into the inbox |
abbrev pub on_chunk : Seat → ℕ → Chunk → Replica → Row
on_chunk s from c r =
    if nat_lt c.term r.term then quiet (sent s from (bodies.SnapReply c.index 0 false) r)
    else (if is_leader r then quiet r
    else (if nat_le c.index r.commit then quiet (sent s from (bodies.SnapReply c.index (c.count + 1) true) (follows from r))
    else quiet (after_take s from c (taken r.assembly c) (follows from r))))

-- | SnapReply{i, w, 1} | t = term, Leader | matched = greater of matched and i; next = greater of next and i + 1; where matched < last: AppendTo(sender) |
-- | SnapReply | else | nothing |
abbrev pub on_snap_reply : Seat → ℕ → ℕ → ℕ → Bool → Replica → Row
on_snap_reply s from t i whole r = if whole && (t == r.term) && is_leader r then quiet (more_to s from (with_progress (reached from i (progress r)) r)) else quiet r

-- a chunk is sent with the term in which its stream was opened
abbrev pub sends_chunk : Seat → ℕ → Chunk → Replica → Row
sends_chunk s to c r = quiet (sent_in c.term s to (bodies.SnapChunk c.index c.last_term c.number c.count c.size c.bytes) r)

-- | Compact{i} | i at most ripe | front becomes the greater of front and i, with its term; entries up to it go |
abbrev pub compacted : ℕ → Replica → Row
compacted i r = if nat_lt r.log.front i && nat_le i (ripe r) then quiet (record r { log = cut_front r.log i }) else quiet r

-- the log holds the place with its term, so the entries after it may stay
abbrev pub stays : Log → ℕ → ℕ → Bool
stays l i t = nat_le i (last l) && (term_at l i == t)

-- the log begins after the snapshot, with the entries that stayed or with none
abbrev pub based : ℕ → ℕ → Replica → Replica
based i t r =
    if stays r.log i t then record r { log = cut_front r.log i; commit = i; stable = max r.stable i; from = max r.from (i + 1) }
    else record r { log = reset i t; commit = i; stable = i; from = i + 1 }

-- the sender of the snapshot hears that it is there
abbrev pub replied : Seat → ℕ → Option Inbox → Replica → Replica
replied s i inbox r = elim inbox as (λ _. Replica) [ None ↦ r | Some b ↦ sent s b.sender (bodies.SnapReply i (b.count + 1) true) r ]

-- | Installed{i, t} | Follower, i > commit | where i <= last and term_at(i) = t the entries after i stay, else none; front is i, t; commit = i; stable = greater of stable and i where entries stayed, else i; from = greater of from and i + 1 where they stayed, else i + 1; send SnapReply{i, count + 1, 1} to the sender of the snapshot |
abbrev pub installed : Seat → ℕ → ℕ → Replica → Row
installed s i t r = if is_follower r && nat_lt r.commit i then quiet (replied s i r.inbox (based i t r)) else quiet r
