-- No plain event cuts a log: from a new group on each log has the front 0.
use Rattle.std.proofs.Common.{◌≡◌, ◌==◌, ◌+◌, ◌-◌, ℕ, zero, suc, List, [], ◌∷◌, ◌++◌, Bool, true, false, Option, Some, None, length, refl, subst, sym}
use Rattle.std.proofs.lemmas.Bool.{cond_both}
use Rattle.std.specs.Prelude.{◌&&◌, ◌||◌, not, nat_lt, nat_le, min, max, slice_set, slice_index_or, replicate, if◌then◌else◌}
use Rattle.host_ids.specs.declared.entry.Entry.{Entry}
use Rattle.host_ids.specs.declared.entry.Key.{Key}
use Rattle.host_ids.specs.declared.proposal.Proposal.{Proposal}
use Rattle.host_ids.specs.declared.proposal.Proposal.TheVariants as proposals
use Rattle.wire_types.specs.declared.envelope.Envelope.{Envelope}
use Rattle.wire_types.specs.declared.envelope.Body.{Body}
use Rattle.wire_types.specs.declared.envelope.Body.TheVariants as bodies
use Rattle.raft_model.specs.declared.chunk.Chunk.{Chunk}
use Rattle.raft_model.specs.declared.event.LaneEvent.{LaneEvent}
use Rattle.raft_model.specs.declared.event.LaneEvent.TheVariants as events
use Rattle.raft_model.specs.declared.event.LaneFault.TheVariants as faults
use Rattle.raft_model.specs.declared.input.Input.{Input}
use Rattle.raft_model.specs.declared.input.Input.TheVariants as inputs
use Rattle.raft_model.specs.declared.note.Note.TheVariants as notes
use Rattle.raft_model.specs.declared.progress.Appended.TheVariants.{Stored}
use Rattle.raft_model.specs.declared.role.Role.TheVariants.{Follower}
use Rattle.raft_model.specs.declared.state.State.{State as Replica}
use Rattle.raft_model.specs.declared.state.Pending.{Pending}
use Rattle.roster.specs.Roster.{Seat, at, none_set}
use Rattle.read_index.specs.declared.reads.OpenRead.{OpenRead}
use Rattle.read_index.specs.Reads.{closed}
use Rattle.log_view.specs.Log.{Log, Laid, last, last_term, term_at, slice, laid, append_after, is_kept}
use Rattle.raft_model.specs.Replica.{Row, fresh, quiet, notes_dropped, notes_idle, is_full, is_leader, may_release, sent, sent_in, each_other, append_to, appended, appended_to_all, no_key, crowned}
use Rattle.raft_model.specs.Replica.{lead, in_term, commit_rule}
use Rattle.raft_model.specs.Voting.{on_timeout, campaigned, asked_votes, on_vote_reply, with_grant, granted_by, has_won, counts, election}
use Rattle.raft_model.specs.Appending.{Took as AppendTook, lacks, refused, stored, takes_append, answers_append, follows, on_append, more_to, progress, with_progress, heard, reached, on_append_reply}
use Rattle.raft_model.specs.Reading.{on_beat, is_answered, waits_on, confirmed, confirm, confirms, answers_round, then_more_to, on_beat_reply, beats, next_round, on_script_beat, may_read, opened, open_read}
use Rattle.raft_model.specs.Reading.{on_read_ask, on_ask}
use Rattle.raft_model.specs.Proposing.{on_propose, on_local_proposal}
use Rattle.raft_model.specs.Snapping.{taken, after_take, on_chunk, on_snap_reply}
use Rattle.raft_model.specs.Saving.{may_give, gave_batch, own_vote, counts_own, stabilised, saved_batch}
use Rattle.raft_model.specs.Step.{Step, on_body, row, released, step, ready, after_ready, saved}
use Rattle.raft_model.specs.Group.{Group, Acted, replica_at, is_member, is_up, seat, moved, did, refuses, at_up, inputs_at, readies, saves_batch, saves_id, delivers, envelope_at, is_asked, noted_ask}
use Rattle.raft_model.specs.Group.{act, fresh_group}
use Rattle.raft_safety.specs.Events.{IsPlain}

-- no entry of its log was cut off
abbrev pub IsUncut : Replica → Type 0
IsUncut r = r.log.front ≡ 0

-- one of two rows cuts no log if neither does
pick : (b : Bool) (x y : Row) → IsUncut x.replica → IsUncut y.replica → IsUncut (if b then x else y).replica
pick b x y h k = cond_both b x y (λ w. IsUncut w.replica) (λ _. h) (λ _. k)

-- one of two replicas is uncut if both are
pick_one : (b : Bool) (x y : Replica) → IsUncut x → IsUncut y → IsUncut (if b then x else y)
pick_one b x y h k = cond_both b x y (λ q. IsUncut q) (λ _. h) (λ _. k)

-- ---- words

-- what is done for each other voter cuts no log, if it cuts none for any one
each : (me : ℕ) (f : ℕ → Replica → Replica) → ((v : ℕ) (r : Replica) → IsUncut r → IsUncut (f v r)) → (vs : List ℕ) (r : Replica) → IsUncut r → IsUncut (each_other me f vs r)
each me f next [] r k = k
each me f next (v ∷ vs) r k = each me f next vs (if v == me then r else f v r) (pick_one (v == me) r (f v r) k (next v r k))

-- entries that are sent to a voter cut no log
appends_to : (s : Seat) (v : ℕ) (r : Replica) → IsUncut r → IsUncut (append_to s v r)
appends_to s v r k =
    pick_one (nat_lt r.log.front (at r.next v) && nat_le (at r.next v) (last r.log + 1))
    (sent s v (bodies.Append (at r.next v - 1) (term_at r.log (at r.next v - 1)) r.commit (slice r.log (at r.next v) 64)) r) r k k

-- more entries for a voter that lacks some cut no log
more : (s : Seat) (v : ℕ) (r : Replica) → IsUncut r → IsUncut (more_to s v r)
more s v r k = pick_one (nat_lt (at r.matched v) (last r.log)) (append_to s v r) r (appends_to s v r k) k

-- an entry that is appended, and sent to the others, cuts no log
to_all : (s : Seat) (key : Key) (p : Proposal) (r : Replica) → IsUncut r → IsUncut (appended_to_all s key p r)
to_all s key p r k = each s.me (append_to s) (appends_to s) s.voters (appended key p r) k

-- a greater term that is taken over cuts no log
entered : (t : ℕ) (r : Replica) → IsUncut r → IsUncut (in_term t r)
entered t r k = pick_one (nat_lt r.term t) (record r { term = t; vote = 0; role = Follower; leader = 0; granted = none_set; reads = closed r.reads }) r k k

-- what is of an older term is refused, and a leader takes nothing from another one
takes_from : (old : Bool) (refusal : Row) (r : Replica) (w : Row) → IsUncut refusal.replica → IsUncut r → IsUncut w.replica
    → IsUncut (if old then refusal else (if is_leader r then quiet r else w)).replica
takes_from old refusal r w x k y = pick old refusal (if is_leader r then quiet r else w) x (pick (is_leader r) (quiet r) w k y)

-- ---- rows

-- the row of Timeout cuts no log
timeout : (s : Seat) (r : Replica) → IsUncut r → IsUncut (on_timeout s r).replica
timeout s r k = pick (is_full r || is_leader r) (notes_idle r) (quiet (asked_votes s (campaigned s r))) k
    (each s.me (λ v q. sent s v (bodies.Vote (last q.log) (last_term q.log)) q) (λ v q a. a) s.voters (campaigned s r) k)

-- a grant that is counted cuts no log, also where the candidate leads by it
granted_to : (s : Seat) (from : ℕ) (r : Replica) → IsUncut r → IsUncut (granted_by s from r).replica
granted_to s from r k = let e = with_grant from (election r) in let q = record r { granted = e.granted } in pick (has_won s.voters e) (lead s q) (quiet q)
    (to_all s no_key proposals.Blank (crowned s q) k) k

-- the row of VoteReply cuts no log
vote_reply : (s : Seat) (from t : ℕ) (granted : Bool) (r : Replica) → IsUncut r → IsUncut (on_vote_reply s from t granted r).replica
vote_reply s from t granted r k = pick (counts (election r) t granted) (granted_by s from r) (quiet r) (granted_to s from r k) k

-- the row of Propose cuts no log
propose : (s : Seat) (key : Key) (p : Proposal) (r : Replica) → IsUncut r → IsUncut (on_propose s key p r).replica
propose s key p r k = pick (is_leader r && not (is_full r)) (quiet (appended_to_all s key p r)) (quiet r) (to_all s key p r k) k

-- what a host is asked: full, a leader, without a leader, or with one to hand it to
is_asked_of : (r : Replica) (dropped own handed : Row) → IsUncut dropped.replica → IsUncut own.replica → IsUncut handed.replica
    → IsUncut (if is_full r then dropped else (if is_leader r then own else (if r.leader == 0 then dropped else handed))).replica
is_asked_of r dropped own handed x y z =
    let other : Row = if r.leader == 0 then dropped else handed in pick (is_full r) dropped (if is_leader r then own else other) x
    (pick (is_leader r) own other y (pick (r.leader == 0) dropped handed x z))

-- the row of the local proposal cuts no log
local_proposal : (s : Seat) (key : Key) (p : Proposal) (r : Replica) → IsUncut r → IsUncut (on_local_proposal s key p r).replica
local_proposal s key p r k = is_asked_of r (notes_dropped key r) (quiet (appended_to_all s key p r)) (quiet (sent_in 0 s r.leader (bodies.Propose key p) r)) k (to_all s key p r k) k

-- the row of Beat cuts no log
beat : (s : Seat) (from t c round : ℕ) (r : Replica) → IsUncut r → IsUncut (on_beat s from t c round r).replica
beat s from t c round r k =
    takes_from (nat_lt t r.term) (quiet (sent s from (bodies.BeatReply 0) r)) r
    (quiet (sent s from (bodies.BeatReply round) (record (follows from r) { commit = max r.commit (min c (last r.log)) }))) k k k

-- a read that is confirmed cuts no log
confirm_one : (s : Seat) (read : OpenRead) (w : Row) → IsUncut w.replica → IsUncut (confirmed s read w).replica
confirm_one s read w k =
    pick (read.origin == s.me) (record w { notes = w.notes ++ notes.Confirmed s.me read.key read.index ∷ [] })
    (record w { replica = sent_in 0 s read.origin (bodies.ReadAnswer read.key read.index) w.replica }) k k

-- open reads of which the answered ones are confirmed cut no log
confirm_all : (s : Seat) (reads : List OpenRead) (w : Row) → IsUncut w.replica → IsUncut (confirm s reads w).replica
confirm_all s [] w k = k
confirm_all s (read ∷ rest) w k =
    let waits : Row = record w { replica = waits_on read w.replica } in
    pick (is_answered s w.replica read) (confirm s rest (confirmed s read w)) (confirm s rest waits) (confirm_all s rest (confirmed s read w) (confirm_one s read w k)) (confirm_all s rest waits k)

-- the row of BeatReply cuts no log
beat_reply : (s : Seat) (from t round : ℕ) (r : Replica) → IsUncut r → IsUncut (on_beat_reply s from t round r).replica
beat_reply s from t round r k =
    let q = answers_round from round r in
    pick ((t == r.term) && is_leader r) (then_more_to s from (confirms s q)) (quiet r) (more s from (confirms s q).replica (confirm_all s q.reads.waiting (quiet (record q { reads = closed q.reads })) k)) k

-- beats that are sent to the others cut no log
beats_all : (s : Seat) (r : Replica) → IsUncut r → IsUncut (beats s r)
beats_all s r k = each s.me (λ v q. sent s v (bodies.Beat (min (at q.matched v) q.commit) q.reads.round) q) (λ v q a. a) s.voters r k

-- the row of the script's beat cuts no log
script_beat : (s : Seat) (r : Replica) → IsUncut r → IsUncut (on_script_beat s r).replica
script_beat s r k = pick (is_full r || not (is_leader r)) (notes_idle r) (quiet (beats s (next_round r))) k (beats_all s (next_round r) k)

-- a read that opens cuts no log
opens : (s : Seat) (key : Key) (origin : ℕ) (r : Replica) → IsUncut r → IsUncut (open_read s key origin r).replica
opens s key origin r k = let q = opened key origin (next_round r) in let b = beats s q in confirm_all s b.reads.waiting (quiet (record b { reads = closed b.reads })) (beats_all s q k)

-- the row of ReadAsk cuts no log
read_ask : (s : Seat) (from : ℕ) (key : Key) (r : Replica) → IsUncut r → IsUncut (on_read_ask s from key r).replica
read_ask s from key r k = pick (may_read r && not (is_full r)) (open_read s key from r) (quiet r) (opens s key from r k) k

-- the row of the local read cuts no log
ask : (s : Seat) (key : Key) (r : Replica) → IsUncut r → IsUncut (on_ask s key r).replica
ask s key r k =
    let dropped = notes_dropped key r in
    is_asked_of r dropped (if may_read r then open_read s key s.me r else dropped) (quiet (sent_in 0 s r.leader (bodies.ReadAsk key) r)) k
    (pick (may_read r) (open_read s key s.me r) dropped (opens s key s.me r k) k) k

-- entries are laid into a log
laid_in : (l : Log) (commit prev : ℕ) (es : List Entry) → l.front ≡ 0 → (laid l commit prev es).log.front ≡ 0
laid_in l commit prev [] k = k
laid_in l commit prev (e ∷ es) k =
    let after : Laid = record { log = append_after l prev (e ∷ es); changed_from = Some (prev + 1) } in
    cond_both (is_kept l commit (prev + 1) e.term) (laid l commit (prev + 1) es) after (λ (w : Laid). w.log.front ≡ 0) (λ _. laid_in l commit (prev + 1) es k) (λ _. k)

-- entries that were stored and are answered cut no log
stores : (s : Seat) (from c n : ℕ) (o : Option ℕ) (r : Replica) → IsUncut r → IsUncut (answers_append s from c (Stored n o) r).replica
stores s from c n None r k = k
stores s from c n (Some i) r k = k

-- the row of Append cuts no log
append : (s : Seat) (from t prev pt c : ℕ) (es : List Entry) (r : Replica) → IsUncut r → IsUncut (on_append s from t prev pt c es r).replica
append s from t prev pt c es r k =
    let q = follows from r in
    takes_from (nat_lt t r.term) (quiet (sent s from (bodies.AppendReply false 0) r)) r (takes_append s from prev pt c es q) k k
    (cond_both (lacks q.log prev pt) (refused q.log prev) (stored q.log q.commit prev es) (λ (w : AppendTook). IsUncut (answers_append s from c w.outcome (record q { log = w.log })).replica)
    (λ _. k)
    (λ _. let w = laid q.log q.commit prev es in stores s from c (max q.log.front (prev + length es)) w.changed_from (record q { log = w.log }) (laid_in q.log q.commit prev es k)))

-- the row of AppendReply cuts no log
append_reply : (s : Seat) (from t : ℕ) (ok : Bool) (i : ℕ) (r : Replica) → IsUncut r → IsUncut (on_append_reply s from t ok i r).replica
append_reply s from t ok i r k =
    let q = with_progress (heard from ok i (progress r)) r in
    let ahead = quiet (more_to s from (commit_rule s q)) in
    let again = quiet (append_to s from q) in
    pick ((t == r.term) && is_leader r) (if ok then ahead else again) (quiet r) (pick ok ahead again (more s from (commit_rule s q) k) (appends_to s from q k)) k

-- a chunk that is taken cuts no log, whether the snapshot is whole with it or not
takes_in : (s : Seat) (from : ℕ) (c : Chunk) (hand : List Chunk) (whole : Option (List ℕ)) (want : ℕ) (r : Replica) → IsUncut r
    → IsUncut (after_take s from c (record { hand = hand; whole = whole; want = want }) r)
takes_in s from c hand None want r k = k
takes_in s from c hand (Some bytes) want r k = k

-- the row of SnapChunk cuts no log
chunk : (s : Seat) (from : ℕ) (c : Chunk) (r : Replica) → IsUncut r → IsUncut (on_chunk s from c r).replica
chunk s from c r k =
    let took = taken r.assembly c in
    let q = follows from r in
    let there = quiet (sent s from (bodies.SnapReply c.index (c.count + 1) true) q) in
    let goes_on = quiet (after_take s from c took q) in
    takes_from (nat_lt c.term r.term) (quiet (sent s from (bodies.SnapReply c.index 0 false) r)) r (if nat_le c.index r.commit then there else goes_on) k k
    (pick (nat_le c.index r.commit) there goes_on k (takes_in s from c took.hand took.whole took.want q k))

-- the row of SnapReply cuts no log
snap_reply : (s : Seat) (from t i : ℕ) (whole : Bool) (r : Replica) → IsUncut r → IsUncut (on_snap_reply s from t i whole r).replica
snap_reply s from t i whole r k = let q = with_progress (reached from i (progress r)) r in pick (whole && (t == r.term) && is_leader r) (quiet (more_to s from q)) (quiet r) (more s from q k) k

-- no envelope of any kind cuts a log
body_on : (s : Seat) (from t : ℕ) (body : Body) (r : Replica) → IsUncut r → IsUncut (on_body s from t body r).replica
body_on s from t (bodies.Vote l lt) r k = entered t r k
body_on s from t (bodies.VoteReply granted) r k = vote_reply s from t granted (in_term t r) (entered t r k)
body_on s from t (bodies.Append prev pt c es) r k = append s from t prev pt c es (in_term t r) (entered t r k)
body_on s from t (bodies.AppendReply ok i) r k = append_reply s from t ok i (in_term t r) (entered t r k)
body_on s from t (bodies.Beat c round) r k = beat s from t c round (in_term t r) (entered t r k)
body_on s from t (bodies.BeatReply round) r k = beat_reply s from t round (in_term t r) (entered t r k)
body_on s from t (bodies.SnapChunk index last_term number count size bytes) r k = chunk s from (record {
  term = t;
  index = index;
  last_term = last_term;
  number = number;
  count = count;
  size = size;
  bytes = bytes;
}) (in_term t r) (entered t r k)
body_on s from t (bodies.SnapReply i want whole) r k = snap_reply s from t i whole (in_term t r) (entered t r k)
body_on s from t (bodies.Propose key p) r k = propose s key p r k
body_on s from t (bodies.ReadAsk key) r k = read_ask s from key r k
body_on s from t (bodies.ReadAnswer key i) r k = k

-- what is held goes on the wire, or stays
goes_out : (before : List Envelope) (w : Row) → IsUncut w.replica → IsUncut (released before w).replica
goes_out before w k =
    cond_both (may_release w.replica) (record {
      replica = record w.replica { held = [] };
      notes = w.notes;
      sent = before ++ w.replica.held;
    }) (record { replica = w.replica; notes = w.notes; sent = before }) (λ (x : Step). IsUncut x.replica) (λ _. k) (λ _. k)

-- a batch that is handed back as saved cuts no log
saves : (s : Seat) (p : Pending) (r : Replica) → IsUncut r → IsUncut (saved s p r).replica
saves s p r k =
    let x = stabilised p.batch r in
    let w = own_vote s p.batch x in
    let voted : IsUncut w.replica = pick (counts_own s p.batch x) (granted_by s s.me x) (quiet x) (granted_to s s.me x k) k in
    goes_out p.envelopes (saved_batch s p.batch r)
    (pick_one (is_leader w.replica) (commit_rule s (record w.replica { matched = slice_set w.replica.matched s.me w.replica.stable })) w.replica voted voted)

-- ---- groups

-- no replica of the group has a log that was cut
abbrev pub AreUncut : Group → Type 0
AreUncut g = (v : ℕ) → IsUncut (replica_at g v)

-- a replica becomes another
written : (rs : List Replica) (h : ℕ) (r : Replica) → ((v : ℕ) → IsUncut (slice_index_or rs v fresh)) → IsUncut r → (v : ℕ) → IsUncut (slice_index_or (slice_set rs h r) v fresh)
written [] h r k q v = k v
written (x ∷ rs) zero r k q zero = q
written (x ∷ rs) zero r k q (suc v) = k (suc v)
written (x ∷ rs) (suc h) r k q zero = k 0
written (x ∷ rs) (suc h) r k q (suc v) = written rs h r (λ v. k (suc v)) q v

-- whichever way a choice of outcomes goes
choose : (b : Bool) (x y : Acted) → AreUncut x.group → AreUncut y.group → AreUncut (if b then x else y).group
choose b x y h k = cond_both b x y (λ a. AreUncut a.group) (λ _. h) (λ _. k)

-- all logs stay uncut with an event at a host, whether that is refused or not, if the event cuts none
where_up : (g : Group) (h : ℕ) (a : Acted) → AreUncut g → AreUncut a.group → AreUncut (at_up g h a).group
where_up g h a k next = choose (not (is_member g h)) (refuses g faults.NotMember) (if is_up g h then a else refuses g faults.IsDown) k (choose (is_up g h) a (refuses g faults.IsDown) next k)

-- an input whose row cuts no log
inputs_on : (g : Group) (h : ℕ) (input : Input) → AreUncut g → IsUncut (row (seat g h) input (replica_at g h)).replica → AreUncut (inputs_at g h input).group
inputs_on g h input k q = written g.replicas h (step (seat g h) input (replica_at g h)).replica k (goes_out [] (row (seat g h) input (replica_at g h)) q)

-- all logs stay uncut where a batch is taken, or there is none to take
readies_on : (g : Group) (h : ℕ) → AreUncut g → AreUncut (readies g h).group
readies_on g h k =
    let r = replica_at g h in
    let given : AreUncut (moved g h (after_ready r) []) = written g.replicas h (after_ready r) k (pick_one (may_give r) (gave_batch r) r (k h) (k h)) in
    let stays : AreUncut (moved g h r []) = written g.replicas h r k (k h) in
    elim (ready r) as (λ o. AreUncut (let a : Acted = elim o as (λ _. Acted) [
      | None ↦ did (moved g h r []) (notes.Idle ∷ [])
      | Some b ↦ did (moved g h (after_ready r) []) (notes.Pending h b.id ∷ [])
    ] in a).group) [ None ↦ stays | Some b ↦ given ]

-- all logs stay uncut where a batch is handed back as saved, or isn't the pending one
saves_on : (g : Group) (h id : ℕ) → AreUncut g → AreUncut (saves_id g h id).group
saves_on g h id k = elim (replica_at g h).pending as (λ o. AreUncut (let a : Acted = elim o as (λ _. Acted) [
  | None ↦ refuses g (faults.NotPending 0)
  | Some p ↦ (if p.batch.id == id then saves_batch g h p else refuses g (faults.NotPending p.batch.id))
] in a).group) [
  | None ↦ k
  | Some p ↦ choose (p.batch.id == id) (saves_batch g h p) (refuses g (faults.NotPending p.batch.id))
      (written g.replicas h (saved (seat g h) p (replica_at g h)).replica k (saves (seat g h) p (replica_at g h) (k h))) k
]

-- all logs stay uncut where an envelope arrives, or isn't there
delivers_on : (g : Group) (o : Option Envelope) → AreUncut g → AreUncut (delivers g o).group
unfolding row
delivers_on g None k = k
delivers_on g (Some m) k = where_up g m.to (inputs_at g m.to (inputs.Envelope m)) k (inputs_on g m.to (inputs.Envelope m) k (body_on (seat g m.to) m.from m.term m.body (replica_at g m.to) (k m.to)))

-- noting the first asking of a read leaves all logs uncut
asked_on : (g : Group) (key : Key) → AreUncut g → AreUncut (noted_ask g key)
asked_on g key k = cond_both (is_asked g key) g _ AreUncut (λ _. k) (λ _. k)

-- every plain event leaves all logs uncut
pub uncut_stays : (e : LaneEvent) → IsPlain e → (g : Group) → AreUncut g → AreUncut (act e g).group
unfolding act row
uncut_stays (events.Timeout h) plain g k = where_up g h _ k (inputs_on g h inputs.Timeout k (timeout (seat g h) (replica_at g h) (k h)))
uncut_stays (events.Beat h) plain g k = where_up g h _ k (inputs_on g h inputs.Beat k (script_beat (seat g h) (replica_at g h) (k h)))
uncut_stays (events.Deliver number) plain g k = delivers_on g (envelope_at g.wire number) k
uncut_stays (events.Ready h) plain g k = where_up g h _ k (readies_on g h k)
uncut_stays (events.Saved h id) plain g k = where_up g h _ k (saves_on g h id k)
uncut_stays (events.Propose h key p) plain g k = where_up g h _ k (inputs_on g h (inputs.Propose key p) k (local_proposal (seat g h) key p (replica_at g h) (k h)))
uncut_stays (events.Ask h key) plain g k =
    let n = noted_ask g key in
    let u : AreUncut n = asked_on g key k in
    where_up g h _ k (inputs_on n h (inputs.Ask key) u (ask (seat n h) key (replica_at n h) (u h)))
uncut_stays (events.Chunk h to c) plain g k = absurd plain
uncut_stays (events.Compact h i) plain g k = absurd plain
uncut_stays (events.Installed h i t) plain g k = absurd plain
uncut_stays (events.Down h) plain g k = absurd plain
uncut_stays (events.Restart h d) plain g k = absurd plain

-- a table of one thing
all_alike : (n v : ℕ) → slice_index_or (replicate n fresh) v fresh ≡ fresh
all_alike zero v = refl
all_alike (suc n) zero = refl
all_alike (suc n) (suc v) = all_alike n v

-- all logs of a new group are uncut
pub uncut_begins : (number : ℕ) (voters : List ℕ) → AreUncut (fresh_group number voters)
uncut_begins number voters v = subst IsUncut (sym (all_alike 10 v)) refl
