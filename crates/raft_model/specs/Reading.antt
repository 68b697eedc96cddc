-- The rows of Beat, BeatReply, ReadAsk and ReadAnswer, of the script's beat and of the local read. Source: dissertation section 6.4; the round 0 for a beat of a smaller term is this project's own: rounds begin at 1, so it confirms nothing.
use Rattle.std.specs.Prelude.{ℕ, ◌==◌, ◌||◌, ◌&&◌, List, [], ◌∷◌, ◌++◌, Bool, not, nat_lt, min, max, if◌then◌else◌}
use Rattle.host_ids.specs.declared.entry.Key.{Key}
use Rattle.wire_types.specs.declared.envelope.Body.TheVariants as bodies
use Rattle.read_index.specs.declared.reads.OpenRead.{OpenRead}
use Rattle.read_index.specs.Reads as index
use Rattle.raft_model.specs.declared.note.Note.TheVariants as notes
use Rattle.roster.specs.Roster.{Seat, at}
use Rattle.log_view.specs.Log.{last, term_at}
use Rattle.raft_model.specs.declared.state.State.{State as Replica}
use Rattle.raft_model.specs.Replica.{Row, quiet, notes_idle, notes_dropped, is_leader, is_full, sent, sent_in, each_other}
use Rattle.raft_model.specs.Appending.{follows, more_to}

-- | Beat | t < term | send BeatReply{0} |
-- | Beat | t = term, Leader | nothing |
-- | Beat{c, r} | t = term, else | role Follower; leader = sender; commit = greater of commit and least of c and last; send BeatReply{r} |
abbrev pub on_beat : Seat → ℕ → ℕ → ℕ → ℕ → Replica → Row
on_beat s from t c round r =
    if nat_lt t r.term then quiet (sent s from (bodies.BeatReply 0) r)
    else (if is_leader r then quiet r
    else quiet (sent s from (bodies.BeatReply round) (record (follows from r) { commit = max r.commit (min c (last r.log)) })))

-- a majority, this replica among it, has answered the read's round
abbrev pub is_answered : Seat → Replica → OpenRead → Bool
is_answered s r read = index.is_answered s.voters s.me r.reads read

-- a read waits on, after those that do
abbrev pub waits_on : OpenRead → Replica → Replica
waits_on read r = record r { reads = record r.reads { waiting = r.reads.waiting ++ read ∷ [] } }

-- a confirmed read is noted where it was asked here, and answered to the host that handed it on
abbrev pub confirmed : Seat → OpenRead → Row → Row
confirmed s read w =
    if read.origin == s.me then record w { notes = w.notes ++ notes.Confirmed s.me read.key read.index ∷ [] }
    else record w { replica = sent_in 0 s read.origin (bodies.ReadAnswer read.key read.index) w.replica }

-- the open reads in order: those that are answered are confirmed, the others stay open
abbrev pub confirm : Seat → List OpenRead → Row → Row
confirm s [] w = w
confirm s (read ∷ more) w =
    if is_answered s w.replica read then confirm s more (confirmed s read w)
    else confirm s more (record w { replica = waits_on read w.replica })

abbrev pub confirms : Seat → Replica → Row
confirms s r = confirm s r.reads.waiting (quiet (record r { reads = index.closed r.reads }))

abbrev pub answers_round : ℕ → ℕ → Replica → Replica
answers_round v round r = record r { reads = index.answers_round v round r.reads }

abbrev pub then_more_to : Seat → ℕ → Row → Row
then_more_to s v w = record w { replica = more_to s v w.replica }

-- | BeatReply{r} | t = term, Leader | answered[sender] = greater of it and r; each open read, in order, whose round a majority with me has answered is confirmed; where matched < last: AppendTo(sender) |
-- | BeatReply | else | nothing |
abbrev pub on_beat_reply : Seat → ℕ → ℕ → ℕ → Replica → Row
on_beat_reply s from t round r =
    if (t == r.term) && is_leader r then then_more_to s from (confirms s (answers_round from round r)) else quiet r

-- each other voter is sent what it has matched of the commit index, and the round
abbrev pub beats : Seat → Replica → Replica
beats s r = each_other s.me (λ v q. sent s v (bodies.Beat (min (at q.matched v) q.commit) q.reads.round) q) s.voters r

abbrev pub next_round : Replica → Replica
next_round r = record r { reads = index.next_round r.reads }

-- | Beat of the script | Leader | round + 1; send Beat{least of matched and commit, round} to each other |
-- | Beat of the script | else, or full | note Idle |
abbrev pub on_script_beat : Seat → Replica → Row
on_script_beat s r = if is_full r || not (is_leader r) then notes_idle r else quiet (beats s (next_round r))

-- a leader that has committed an entry of its term
abbrev pub may_read : Replica → Bool
may_read r = is_leader r && (term_at r.log r.commit == r.term)

-- a read opens at the commit index, for the round that begins with it
abbrev pub opened : Key → ℕ → Replica → Replica
opened key origin r = record r { reads = index.opened key origin r.commit r.reads }

abbrev pub open_read : Seat → Key → ℕ → Replica → Row
open_read s key origin r = confirms s (beats s (opened key origin (next_round r)))

-- | ReadAsk{key} | Leader, term_at(commit) = term | round + 1; open a read with commit and the round for the sender; send Beat to each other; confirm as at BeatReply |
-- | ReadAsk | else, or full | nothing |
abbrev pub on_read_ask : Seat → ℕ → Key → Replica → Row
on_read_ask s from key r = if may_read r && not (is_full r) then open_read s key from r else quiet r

-- | ReadAnswer{key, i} | | note Confirmed{key, i} |
abbrev pub on_read_answer : Seat → Key → ℕ → Replica → Row
on_read_answer s key i r = record { replica = r; notes = notes.Confirmed s.me key i ∷ [] }

-- | local read | Leader, term_at(commit) = term | as ReadAsk, for me |
-- | local read | Leader, else | note Dropped |
-- | local read | leader known | send ReadAsk to the leader |
-- | local read | else, or full | note Dropped |
abbrev pub on_ask : Seat → Key → Replica → Row
on_ask s key r =
    if is_full r then notes_dropped key r
    else (if is_leader r then (if may_read r then open_read s key s.me r else notes_dropped key r)
    else (if r.leader == 0 then notes_dropped key r
    else quiet (sent_in 0 s r.leader (bodies.ReadAsk key) r)))
