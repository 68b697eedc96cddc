-- The rows of Append and AppendReply. Source: dissertation section 3.5; hints and what is passed over are this project's own.
use Rattle.std.specs.Prelude.{ℕ, ◌+◌, ◌-◌, ◌==◌, ◌||◌, ◌&&◌, List, Bool, true, false, not, nat_lt, nat_le, min, max, length, Option, Some, None, slice_set, if◌then◌else◌}
use Rattle.host_ids.specs.declared.entry.Entry.{Entry}
use Rattle.wire_types.specs.declared.envelope.Body.TheVariants as bodies
use Rattle.raft_model.specs.declared.role.Role.TheVariants.{Follower}
use Rattle.raft_model.specs.declared.progress.Appended.{Appended}
use Rattle.raft_model.specs.declared.progress.Appended.TheVariants.{Refused, Stored}
use Rattle.raft_model.specs.declared.progress.Progress.{Progress}
use Rattle.roster.specs.Roster.{Seat, at}
use Rattle.log_view.specs.Log.{Log, last, term_at, laid}
use Rattle.raft_model.specs.declared.state.State.{State as Replica}
use Rattle.raft_model.specs.Replica.{Row, quiet, is_leader, sent, append_to, commit_rule, lowered}

-- the entry before the new ones is missing, or isn't of the given term; one below the front is decided and isn't compared
abbrev pub lacks : Log → ℕ → ℕ → Bool
lacks l prev pt = nat_lt (last l) prev || (nat_le l.front prev && not (term_at l prev == pt))

-- a log after an append, and the outcome
pub record Took : Type 0 where
  pub log : Log
  pub outcome : Appended

-- | | prev > last, or prev >= front and term_at(prev) is not pt | send AppendReply{0, least of last and prev - 1} |
abbrev pub refused : Log → ℕ → Took
refused l prev = record { log = l; outcome = Refused (min (last l) (prev - 1)) }

-- | | else | entries at or below commit are passed over; from the first entry that is missing or whose term differs, the log's rest is removed and the entries are appended; n is the greater of front and prev + the number of es |
abbrev pub stored : Log → ℕ → ℕ → List Entry → Took
stored l commit prev es =
    let laid_in = laid l commit prev es in
    record { log = laid_in.log; outcome = Stored (max l.front (prev + length es)) laid_in.changed_from }

abbrev pub takes : Log → ℕ → ℕ → ℕ → List Entry → Took
takes l commit prev pt es = if lacks l prev pt then refused l prev else stored l commit prev es

abbrev pub changed : Option ℕ → Replica → Replica
changed None r = r
changed (Some i) r = lowered i r

-- | | then | commit = greater of commit and least of c and n; send AppendReply{1, n} |
abbrev pub answers_append : Seat → ℕ → ℕ → Appended → Replica → Row
answers_append s from c (Refused hint) r = quiet (sent s from (bodies.AppendReply false hint) r)
answers_append s from c (Stored n changed_from) r =
    let q = changed changed_from r in quiet (sent s from (bodies.AppendReply true n) (record q { commit = max q.commit (min c n) }))

abbrev pub takes_append : Seat → ℕ → ℕ → ℕ → ℕ → List Entry → Replica → Row
takes_append s from prev pt c es r = let took = takes r.log r.commit prev pt es in answers_append s from c took.outcome (record r { log = took.log })

abbrev pub follows : ℕ → Replica → Replica
follows from r = record r { role = Follower; leader = from }

-- | Append | t < term | send AppendReply{0, 0} |
-- | Append | t = term, Leader | nothing |
-- | Append{prev, pt, c, es} | t = term, else | role Follower; leader = sender; then the next three rows |
abbrev pub on_append : Seat → ℕ → ℕ → ℕ → ℕ → ℕ → List Entry → Replica → Row
on_append s from t prev pt c es r =
    if nat_lt t r.term then quiet (sent s from (bodies.AppendReply false 0) r)
    else (if is_leader r then quiet r else takes_append s from prev pt c es (follows from r))

-- a voter that lacks entries is sent more
abbrev pub more_to : Seat → ℕ → Replica → Replica
more_to s v r = if nat_lt (at r.matched v) (last r.log) then append_to s v r else r

-- what a leader knows of its voters' logs
abbrev pub progress : Replica → Progress
progress r = record { next = r.next; matched = r.matched }

abbrev pub with_progress : Progress → Replica → Replica
with_progress p r = record r { next = p.next; matched = p.matched }

-- a voter has matched the log up to an index
abbrev pub reached : ℕ → ℕ → Progress → Progress
reached v i p = record { next = slice_set p.next v (max (at p.next v) (i + 1)); matched = slice_set p.matched v (max (at p.matched v) i) }

-- a voter lacks what was sent: the next index steps back to the hint, but not below what it has matched
abbrev pub stepped_back : ℕ → ℕ → Progress → Progress
stepped_back v i p = record p { next = slice_set p.next v (max (at p.matched v + 1) (min (at p.next v) (i + 1))) }

abbrev pub heard : ℕ → Bool → ℕ → Progress → Progress
heard v ok i p = if ok then reached v i p else stepped_back v i p

-- | AppendReply{1, i} | t = term, Leader | matched = greater of matched and i; next = greater of next and i + 1; commit rule; where matched < last: AppendTo(sender) |
-- | AppendReply{0, i} | t = term, Leader | next = greater of matched + 1 and least of next and i + 1; AppendTo(sender) |
-- | AppendReply | else | nothing |
abbrev pub on_append_reply : Seat → ℕ → ℕ → Bool → ℕ → Replica → Row
on_append_reply s from t ok i r =
    if (t == r.term) && is_leader r
    then (let q = with_progress (heard from ok i (progress r)) r in if ok then quiet (more_to s from (commit_rule s q)) else quiet (append_to s from q))
    else quiet r
