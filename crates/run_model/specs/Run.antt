-- A run: what each line of a script does to the world, and the lines that it prints. Source: this project's own.
use Rattle.std.specs.Prelude.{ℕ, zero, suc, ◌+◌, ◌-◌, ◌==◌, List, [], ◌∷◌, ◌++◌, Bool, true, false, not, ◌||◌, ◌&&◌, Option, Some, None, nat_lt, nat_le, length, take, drop, min, map, replicate, slice_get, slice_set, unwrap_or, is_some, codes, bytes_eq, if◌then◌else◌}
use Rattle.std.specs.List.{list_any, list_all, flat_map}
use Rattle.std.specs.Option.{option_map}
use Rattle.std.specs.BTreeMap.{insert_entry, is_at}
use Rattle.std.specs.BTreeSet.{insert_key}
use Rattle.std.specs.Map.{lookup, remove_entry}
use Rattle.host_ids.specs.declared.batch.Batch.{Batch}
use Rattle.host_ids.specs.declared.entry.Entry.{Entry}
use Rattle.host_ids.specs.declared.entry.Key.{Key}
use Rattle.host_ids.specs.declared.proposal.Proposal.{Proposal}
use Rattle.host_ids.specs.declared.proposal.TheConstants.{MOST_COMMAND, MOST_SERIES}
use Rattle.host_ids.specs.declared.proposal.Proposal.TheVariants as proposals
use Rattle.host_ids.specs.declared.verdict.Verdict.{Verdict}
use Rattle.host_ids.specs.declared.verdict.Verdict.TheVariants as verdicts
use Rattle.wire_types.specs.declared.envelope.Envelope.{Envelope}
use Rattle.wire_types.specs.declared.envelope.Body.{Body}
use Rattle.wire_types.specs.declared.envelope.Body.TheVariants as bodies
use Rattle.log_view.specs.Log.{last}
use Rattle.object_model.specs.declared.mark.Ending.{Ending}
use Rattle.object_model.specs.Object.{answer, key_order as text_order}
use Rattle.object_model.specs.Sequence.{does_act, effect_of, ending_by}
use Rattle.session_lru.specs.Table.{Table}
use Rattle.session_lru.specs.Calls.{session_of, register_verdict, registered, close_verdict, closed, admit_verdict}
use Rattle.session_lru.specs.Follow.{commanded}
use Rattle.raft_model.specs.declared.event.LaneEvent.{LaneEvent}
use Rattle.raft_model.specs.declared.event.LaneEvent.TheVariants as events
use Rattle.raft_model.specs.declared.note.Note.{Note}
use Rattle.raft_model.specs.declared.note.Note.TheVariants as notes
use Rattle.raft_model.specs.declared.state.State.{State as Replica}
use Rattle.raft_model.specs.Replica.{is_leader, is_changed, ripe}
use Rattle.raft_model.specs.Saving.{is_stuck}
use Rattle.raft_model.specs.Group.{Group, act, envelope_at, fresh_group, is_member, key_order, replica_at}
use Rattle.run_model.specs.declared.client.ClientSession.{ClientSession}
use Rattle.script_text.specs.declared.kind.EnvelopeKind.{EnvelopeKind}
use Rattle.script_text.specs.declared.kind.EnvelopeKind.TheVariants as kinds
use Rattle.script_text.specs.declared.script.ScriptLine.{ScriptLine}
use Rattle.script_text.specs.declared.script.ScriptLine.TheVariants as script_lines
use Rattle.script_text.specs.declared.script.HostEvent.{HostEvent}
use Rattle.script_text.specs.declared.script.HostEvent.TheVariants as host_events
use Rattle.script_text.specs.declared.limit.Limit.{Limit}
use Rattle.script_text.specs.declared.limit.Limit.TheVariants as limits
use Rattle.script_text.specs.declared.line.Line.{Line}
use Rattle.script_text.specs.declared.line.Line.TheVariants as lines
use Rattle.script_text.specs.declared.limit.TheConstants.{MOST_APPLIED, MOST_ENTRIES, MOST_ENVELOPES, MOST_LINE, MOST_ROUNDS, MOST_SCRIPT}
use Rattle.host_ids.specs.declared.proposal.TheConstants.{MOST_SESSIONS}
use Rattle.script_text.specs.declared.refusal.Refusal.{Refusal}
use Rattle.script_text.specs.declared.refusal.Refusal.TheVariants as refusals
use Rattle.script_text.specs.declared.told.Told.{Told}
use Rattle.run_model.specs.declared.told.Want.{Want}
use Rattle.run_model.specs.declared.told.Want.TheVariants as wants
use Rattle.run_model.specs.declared.told.Waiting.{Waiting}
use Rattle.run_model.specs.declared.told.Stop.{Stop}
use Rattle.run_model.specs.declared.told.Stop.TheVariants.{Ended, Bad, Full, Spent}
use Rattle.run_model.specs.World.{Cell, Node, Open, World, start, new_node, node_at, contexts_at, is_declared, waiting_order}
use Rattle.script_text.specs.Script.{read_line, is_end, parts_of}
use Rattle.script_text.specs.Print.{print_line, refusal_number}

-- ---- lines with the contexts that they show

abbrev pub bare : Line → Told
bare line = record { context = codes "-"; line = line }

-- the context of a host's request by its serial, `-` at 0, where there is none
abbrev pub context_by : List (List ℕ) → ℕ → List ℕ
context_by contexts serial = if serial == 0 then codes "-" else unwrap_or (slice_get contexts (serial - 1)) (codes "?")

-- the context of a request
abbrev pub context_at : List (List (List ℕ)) → Key → List ℕ
context_at contexts key = context_by (contexts_at contexts key.host) key.serial

abbrev pub shows : List (List (List ℕ)) → Key → Line → Told
shows contexts key line = record { context = context_at contexts key; line = line }

-- the world after an event, and the lines of the event
pub record RunStep : Type 0 where
  pub world : World
  pub told : List Told

abbrev pub quiet : World → RunStep
quiet w = record { world = w; told = [] }

abbrev pub tells : World → Line → RunStep
tells w line = record { world = w; told = bare line ∷ [] }

-- ---- refusals: they are tried in the order of their numbers, and change nothing

abbrev pub refuses : World → Refusal → RunStep
refuses w r = tells w (lines.Refused (refusal_number r))

-- refused where this holds, else the step
abbrev pub unless : Bool → Refusal → World → RunStep → RunStep
unless b r w s = if b then refuses w r else s

-- the group is declared: it has voters
abbrev pub has_any : List ℕ → Bool
has_any [] = false
has_any (v ∷ vs) = true

abbrev pub has_group : World → Bool
has_group w = has_any w.group.voters

-- an event at a host that is declared and has a replica of the group
abbrev pub at_replica : ℕ → World → RunStep → RunStep
at_replica h w s = unless (not (is_declared w h)) refusals.NotDeclared w (unless (not (is_member w.group h)) refusals.NoReplica w s)

-- ---- events of the core

-- how many entries an event appended at a host's replica, if that leads after it: only leaders append
abbrev pub appended_at : ℕ → Group → Group → ℕ
appended_at h old new = if is_leader (replica_at new h) then last (replica_at new h).log - last (replica_at old h).log else 0

-- the world after an event of the core that moves the replica of a host; appended entries are counted up to the number at which a run stops
abbrev pub moved : ℕ → LaneEvent → World → World
moved h e w = let g = (act e w.group).group in record w { group = g; appended = min MOST_ENTRIES (w.appended + appended_at h w.group g) }

abbrev pub noted : LaneEvent → World → List Note
noted e w = (act e w.group).notes

-- the lines of what an event of the core noted
abbrev pub note_told : Note → List Told
note_told (notes.Leader host term) = bare (lines.Leader host 1 term) ∷ []
note_told (notes.Pending host id) = []
note_told notes.Idle = bare lines.Idle ∷ []
note_told (notes.Dropped key) = []
note_told (notes.Confirmed host key index) = []

-- ---- requests

-- the key of a host's next request
abbrev pub next_key : World → ℕ → Key
next_key w h = record { host = h; start = 1; serial = length (contexts_at w.contexts h) + 1 }

-- a host's next request has this context
abbrev pub named : ℕ → List ℕ → World → World
named h context w = record w { contexts = slice_set w.contexts h (contexts_at w.contexts h ++ context ∷ []) }

abbrev pub with_node : ℕ → Node → World → World
with_node h node w = record w { nodes = slice_set w.nodes h node }

-- a request joins the open ones of its host
abbrev pub joined : Key → Want → Node → Node
joined key want n = record n { requests = record n.requests { wants = insert_entry key_order n.requests.wants key want } }

abbrev pub opened : ℕ → Key → Want → World → World
opened h key want w = with_node h (joined key want (node_at w h)) w

abbrev pub without : Key → List (Key × Want) → List (Key × Want)
without key wants = remove_entry (is_at (key_order key)) wants

abbrev pub want_of : Key → List (Key × Want) → Option Want
want_of key wants = lookup (is_at (key_order key)) wants

-- the `ask` line, and lines after it
abbrev pub asked : List ℕ → Line → List Told → List Told
asked context line more = record { context = context; line = line } ∷ more

abbrev pub dropped : List ℕ → Key → Told
dropped context key = record { context = context; line = lines.Dropped key 1 }

-- the core can't take the request
abbrev pub drops : Note → Bool
drops (notes.Leader host term) = false
drops (notes.Pending host id) = false
drops notes.Idle = false
drops (notes.Dropped key) = true
drops (notes.Confirmed host key index) = false

abbrev pub is_dropped : List Note → Bool
is_dropped ns = list_any drops ns

-- a proposal that the core takes joins the open requests, and one that it drops ends at once
abbrev pub proposed : ℕ → Key → List ℕ → Proposal → World → RunStep
proposed h key context p w =
    let e = events.Propose h key p in
    let v = moved h e (named h context w) in
    if is_dropped (noted e w)
    then record { world = v; told = asked context (lines.Ask key 1 p) (dropped context key ∷ []) }
    else record { world = opened h key wants.Proposal v; told = asked context (lines.Ask key 1 p) [] }

unfoldable pub proposes : ℕ → List ℕ → Proposal → World → RunStep
proposes h context p w = proposed h (next_key w h) context p w

-- the context was used by a request that wasn't refused, at any host
abbrev pub is_used : World → List ℕ → Bool
is_used w context = list_any (λ contexts. list_any (bytes_eq context) contexts) w.contexts

-- why a request under a context is refused at a host, whatever it asks
abbrev pub request_refusal : ℕ → List ℕ → World → Option Refusal
request_refusal h context w =
    if not (is_declared w h) then Some refusals.NotDeclared
    else (if not (is_member w.group h) then Some refusals.NoReplica
    else (if is_used w context then Some refusals.ContextUsed
    else None))

-- refused where there is a reason, else the step
abbrev pub refused_by : Option Refusal → World → RunStep → RunStep
refused_by None w s = s
refused_by (Some r) w s = refuses w r

-- a request under a context, at a host that is declared and has a replica of the group
abbrev pub at_request : ℕ → List ℕ → World → RunStep → RunStep
at_request h context w s = refused_by (request_refusal h context w) w s

-- a command that is asked as this proposal
unfoldable pub asks : ℕ → List ℕ → List ℕ → Proposal → World → RunStep
asks h context command p w =
    at_request h context w
    (unless (nat_lt MOST_COMMAND (length command)) refusals.LongCommand w
    (proposes h context p w))

-- ---- sessions

-- the session of a name
abbrev pub client_at : World → List ℕ → Option ClientSession
client_at w name = lookup (is_at (text_order name)) w.clients

abbrev pub with_client : List ℕ → ClientSession → World → World
with_client name s w = record w { clients = insert_entry text_order w.clients name s }

-- a session that begins with series 1
abbrev pub new_client : ℕ → ClientSession
new_client client = record { group = 1; client = client; series = 1; responded = 0; outstanding = None }

unfoldable pub register : ℕ → List ℕ → List ℕ → ℕ → World → RunStep
register h context name client w =
    at_request h context w
    (unless (is_some (client_at w name)) refusals.SessionName w
    (proposes h context (proposals.Register client) (with_client name (new_client client) w)))

-- the command of a session's series
abbrev pub command_of_client : ClientSession → List ℕ → Proposal
command_of_client s command = proposals.Session s.client s.series s.responded command

-- a request of a session whose name is unknown, and with it the group that it is for
abbrev pub of_nobody : ℕ → List ℕ → World → RunStep
of_nobody h context w = unless (not (is_declared w h)) refusals.NotDeclared w (unless (is_used w context) refusals.ContextUsed w (refuses w refusals.SessionName))

-- a request of a session, whose name may be unknown
abbrev pub of_client : Option ClientSession → ℕ → List ℕ → World → (ClientSession → RunStep) → RunStep
of_client None h context w next = of_nobody h context w
of_client (Some s) h context w next = at_request h context w (next s)

-- the command is outstanding from now on
abbrev pub calls : ℕ → List ℕ → List ℕ → List ℕ → ClientSession → World → RunStep
calls h context name command s w =
    unless (is_some s.outstanding) refusals.Outstanding w
    (unless (nat_lt MOST_COMMAND (length command)) refusals.LongCommand w
    (proposes h context (command_of_client s command) (with_client name (record s { outstanding = Some command }) w)))

unfoldable pub call : ℕ → List ℕ → List ℕ → List ℕ → World → RunStep
call h context name command w = of_client (client_at w name) h context w (λ s. calls h context name command s w)

abbrev pub repeats : Option (List ℕ) → ℕ → List ℕ → ClientSession → World → RunStep
repeats None h context s w = refuses w refusals.Outstanding
repeats (Some command) h context s w = proposes h context (command_of_client s command) w

unfoldable pub again : ℕ → List ℕ → List ℕ → World → RunStep
again h context name w = of_client (client_at w name) h context w (λ s. repeats s.outstanding h context s w)

-- the series is responded and the next one begins; no script is so long that the greatest is passed
abbrev pub next_series : ClientSession → ClientSession
next_series s = record s { series = min (s.series + 1) MOST_SERIES; responded = s.series; outstanding = None }

abbrev pub completed_by : Option ClientSession → List ℕ → World → RunStep
completed_by None name w = refuses w refusals.SessionName
completed_by (Some s) name w = unless (not (is_some s.outstanding)) refusals.Outstanding w (quiet (with_client name (next_series s) w))

unfoldable pub completed : List ℕ → World → RunStep
completed name w = completed_by (client_at w name) name w

abbrev pub closes : ℕ → List ℕ → ClientSession → World → RunStep
closes h context s w = unless (is_some s.outstanding) refusals.Outstanding w (proposes h context (proposals.Close s.client) w)

unfoldable pub close : ℕ → List ℕ → List ℕ → World → RunStep
close h context name w = of_client (client_at w name) h context w (λ s. closes h context s w)

-- ---- reads

-- the line of a read that is answered now
abbrev pub answer_line : Cell → Key → List ℕ → Line
answer_line c key query = lines.Read key 1 c.applied (answer c.pairs query)

-- ---- applying

-- a request that is open ends with a line
abbrev pub ended : Option Want → List (List (List ℕ)) → Key → Line → List Told
ended None contexts key line = []
ended (Some want) contexts key line = shows contexts key line ∷ []

-- the cell and the open requests after some entries, and the lines of the requests that ended
pub record Applied : Type 0 where
  pub cell : Cell
  pub wants : List (Key × Want)
  pub told : List Told

-- the verdict of a proposal by the sessions
abbrev pub verdict_by : Proposal → Table → Verdict
verdict_by proposals.Blank t = verdicts.Nothing
verdict_by (proposals.Plain command) t = verdicts.Acts
verdict_by (proposals.Session client series responded command) t = admit_verdict (session_of client t) series responded
verdict_by (proposals.Register client) t = register_verdict (session_of client t)
verdict_by (proposals.Close client) t = close_verdict (session_of client t)

-- the sessions after a proposal, which has this reply where it acts
abbrev pub sessions_after : Proposal → List ℕ → Table → Table
sessions_after proposals.Blank reply t = t
sessions_after (proposals.Plain command) reply t = t
sessions_after (proposals.Session client series responded command) reply t = commanded client series responded reply t
sessions_after (proposals.Register client) reply t = registered client (session_of client t) t
sessions_after (proposals.Close client) reply t = closed client t

-- a proposal is given to the cell: the sessions judge it, and the object is changed where it acts
abbrev pub given : Proposal → Cell → Cell
given p c = record {
  applied = c.applied + 1;
  sessions = sessions_after p (effect_of p c.pairs).reply c.sessions;
  pairs = if does_act (verdict_by p c.sessions) then (effect_of p c.pairs).pairs else c.pairs;
}

-- how the request of a proposal ends that is given to the cell
abbrev pub ending_of : Proposal → Cell → Option Ending
ending_of p c = ending_by (verdict_by p c.sessions) p c.pairs

-- the request of an entry ends, where it is open
abbrev pub ended_with : Option Ending → List (List (List ℕ)) → Key → Cell → List (Key × Want) → Applied
ended_with None contexts key c wants = record { cell = c; wants = wants; told = [] }
ended_with (Some ending) contexts key c wants = record { cell = c; wants = without key wants; told = ended (want_of key wants) contexts key (lines.Ended key 1 c.applied ending) }

-- an entry of the log is given to the cell
abbrev pub applied_by : List (List (List ℕ)) → Proposal → Key → Cell → List (Key × Want) → Applied
applied_by contexts p key c wants = ended_with (ending_of p c) contexts key (given p c) wants

unfoldable pub applied : List (List (List ℕ)) → List Entry → Cell → List (Key × Want) → Applied
applied contexts [] c wants = record { cell = c; wants = wants; told = [] }
applied contexts (e ∷ es) c wants =
    let first = applied_by contexts e.proposal e.key c wants in
    let more = applied contexts es first.cell first.wants in
    record { cell = more.cell; wants = more.wants; told = first.told ++ more.told }

-- the waiting reads whose front is applied, and the others
abbrev pub due : ℕ → List Waiting → List Waiting
due applied [] = []
due applied (r ∷ rs) = if nat_le r.front applied then r ∷ due applied rs else []

abbrev pub not_due : ℕ → List Waiting → List Waiting
not_due applied [] = []
not_due applied (r ∷ rs) = if nat_le r.front applied then not_due applied rs else r ∷ rs

-- their keys in order of asking
abbrev pub keys_with : List Key → List Waiting → List Key
keys_with keys [] = keys
keys_with keys (r ∷ rs) = keys_with (insert_key key_order keys r.key) rs

-- the open requests after some reads were answered, and their lines
pub record Answered : Type 0 where
  pub wants : List (Key × Want)
  pub told : List Told

abbrev pub answer_told : List (List (List ℕ)) → Cell → Key → Option Want → List Told
answer_told contexts c key None = []
answer_told contexts c key (Some wants.Proposal) = []
answer_told contexts c key (Some (wants.Read query front)) = shows contexts key (answer_line c key query) ∷ []

unfoldable pub answered : List (List (List ℕ)) → Cell → List Key → List (Key × Want) → Answered
answered contexts c [] wants = record { wants = wants; told = [] }
answered contexts c (key ∷ keys) wants =
    let more = answered contexts c keys (without key wants) in
    record { wants = more.wants; told = answer_told contexts c key (want_of key wants) ++ more.told }

-- the entries of a replica's log after what the cell was given, at most this number and none that isn't ripe
abbrev pub next_entries : Replica → Cell → ℕ → List Entry
next_entries r c most = take (min most (ripe r - c.applied)) (drop (c.applied - r.log.front) r.log.entries)

abbrev pub answers_due : List (List (List ℕ)) → Node → Applied → Answered
answers_due contexts n a = answered contexts a.cell (keys_with [] (due a.cell.applied n.requests.waiting)) a.wants

-- a host's node after some entries were given to its cell: the waiting reads whose front is reached are answered
abbrev pub fed : List (List (List ℕ)) → Node → Applied → Node
fed contexts n a = record { cell = a.cell; requests = record { wants = (answers_due contexts n a).wants; waiting = not_due a.cell.applied n.requests.waiting } }

abbrev pub applies : ℕ → Node → Applied → World → RunStep
applies h n a w = record { world = with_node h (fed w.contexts n a) w; told = a.told ++ (answers_due w.contexts n a).told }

-- ---- confirmed reads

-- a read that is open and has no index yet waits for one
abbrev pub confirmed_by : Option Want → Key → ℕ → Open → Open
confirmed_by None key index o = o
confirmed_by (Some wants.Proposal) key index o = o
confirmed_by (Some (wants.Read query None)) key index o = record {
  wants = insert_entry key_order o.wants key (wants.Read query (Some index));
  waiting = insert_key waiting_order o.waiting (record { front = index; key = key });
}
confirmed_by (Some (wants.Read query (Some front))) key index o = o

-- the open requests of a host after the notes of an event: the reads that these confirm wait for their index
unfoldable pub confirmed : List Note → Open → Open
confirmed [] o = o
confirmed (notes.Leader host term ∷ more) o = confirmed more o
confirmed (notes.Pending host id ∷ more) o = confirmed more o
confirmed (notes.Idle ∷ more) o = confirmed more o
confirmed (notes.Dropped key ∷ more) o = confirmed more o
confirmed (notes.Confirmed host key index ∷ more) o = confirmed more (confirmed_by (want_of key o.wants) key index o)

-- a node that has heard the notes of an event
abbrev pub listening : List Note → Node → Node
listening ns n = record n { requests = confirmed ns n.requests }

-- a node that is given no entries
abbrev pub at_rest : Node → Applied
at_rest n = record { cell = n.cell; wants = n.requests.wants; told = [] }

-- after an event of a host the reads that it confirms wait for their indices, and those whose index is reached are answered
abbrev pub heard : ℕ → List Note → World → RunStep
heard h ns w = applies h (listening ns (node_at w h)) (at_rest (listening ns (node_at w h))) w

-- ---- events of the core

-- an event of the core at a host: the lines of what it noted, and then those of the reads that it confirmed
abbrev pub core : ℕ → LaneEvent → World → RunStep
core h e w =
    let s = heard h (noted e w) (moved h e w) in
    record { world = s.world; told = flat_map note_told (noted e w) ++ s.told }

-- the pending batch of a host's replica
abbrev pub pending_at : World → ℕ → Option Batch
pending_at w h = option_map (λ p. p.batch) (replica_at w.group h).pending

-- takes a batch where none is pending
abbrev pub taken : ℕ → World → World
taken h w = if is_some (pending_at w h) then w else moved h (events.Ready h) w

-- hands a batch back as saved; idle without one
abbrev pub handed_back : ℕ → Option Batch → World → RunStep
handed_back h None w = tells w lines.Idle
handed_back h (Some b) w = core h (events.Saved h b.id) w

abbrev pub save : ℕ → World → RunStep
save h w = handed_back h (pending_at (taken h w) h) (taken h w)

-- an envelope arrives where it is for
abbrev pub arrives : Option Envelope → ℕ → World → RunStep
arrives None number w = refuses w refusals.NoEnvelope
arrives (Some e) number w = core e.to (events.Deliver number) w

unfoldable pub deliver : ℕ → World → RunStep
deliver number w = unless (not (has_group w)) refusals.NoReplica w (arrives (envelope_at w.group.wire number) number w)

-- what an envelope says
abbrev pub kind_of : Body → EnvelopeKind
kind_of (bodies.Vote l lt) = kinds.Vote
kind_of (bodies.VoteReply granted) = kinds.VoteReply
kind_of (bodies.Append prev prev_term commit entries) = kinds.Append
kind_of (bodies.AppendReply ok index) = kinds.AppendReply
kind_of (bodies.Beat commit round) = kinds.Beat
kind_of (bodies.BeatReply round) = kinds.BeatReply
kind_of (bodies.SnapChunk index last_term number count size bytes) = kinds.SnapChunk
kind_of (bodies.SnapReply index want whole) = kinds.SnapReply
kind_of (bodies.Propose key proposal) = kinds.Propose
kind_of (bodies.ReadAsk key) = kinds.ReadAsk
kind_of (bodies.ReadAnswer key index) = kinds.ReadAnswer

abbrev pub shown_by : Option Envelope → ℕ → World → RunStep
shown_by None number w = refuses w refusals.NoEnvelope
shown_by (Some e) number w = tells w (lines.Wire 1 number e.from e.to (kind_of e.body) e.term)

unfoldable pub show : ℕ → World → RunStep
show number w = unless (not (has_group w)) refusals.NoReplica w (shown_by (envelope_at w.group.wire number) number w)

-- a settle won't deliver what was sent so far
unfoldable pub lose : World → RunStep
lose w = unless (not (has_group w)) refusals.NoReplica w (quiet (record w { settled = length w.group.wire }))

-- ---- reads

-- a read that the core takes joins the open requests, and is answered at once where it is confirmed at what is applied; one that it drops ends at once
unfoldable pub read_asked : ℕ → Key → List ℕ → List ℕ → World → RunStep
read_asked h key context query w =
    let e = events.Ask h key in
    let v = moved h e (named h context w) in
    if is_dropped (noted e w)
    then record { world = v; told = asked context (lines.AskRead key 1 query) (dropped context key ∷ []) }
    else (let s = heard h (noted e w) (opened h key (wants.Read query None) v) in record { world = s.world; told = asked context (lines.AskRead key 1 query) s.told })

unfoldable pub reads : ℕ → List ℕ → List ℕ → World → RunStep
reads h context query w = at_request h context w (read_asked h (next_key w h) context query w)

-- a query is answered from what a host has applied
abbrev pub stale_answer : ℕ → List ℕ → Cell → Line
stale_answer h query c = lines.Stale h 1 c.applied query (answer c.pairs query)

unfoldable pub stale : ℕ → List ℕ → World → RunStep
stale h query w = at_replica h w (tells w (stale_answer h query (node_at w h).cell))

-- ---- applying

-- an entry of a host may be applied
abbrev pub is_ripe : World → ℕ → Bool
is_ripe w h = nat_lt (node_at w h).cell.applied (ripe (replica_at w.group h))

abbrev pub apply : ℕ → ℕ → World → RunStep
apply h most w =
    let n = node_at w h in
    if is_ripe w h then applies h n (applied w.contexts (next_entries (replica_at w.group h) n.cell most) n.cell n.requests.wants) w else tells w lines.Idle

unfoldable pub event_step : ℕ → HostEvent → World → RunStep
event_step h (host_events.Timeout group) w = core h (events.Timeout h) w
event_step h (host_events.Beat group) w = core h (events.Beat h) w
event_step h (host_events.Ready group) w = core h (events.Ready h) w
event_step h (host_events.Save group) w = save h w
event_step h (host_events.Apply group most) w = apply h most w

-- ---- limits

-- the first limit that is reached, where the lines that were read have `size` bytes
unfoldable pub reached : World → ℕ → Option Limit
reached w size =
    if nat_le MOST_ENTRIES w.appended then Some limits.Entries
    else (if nat_le MOST_ENVELOPES (length w.group.wire) then Some limits.Envelopes
    else (if nat_le MOST_SCRIPT size then Some limits.Script
    else None))

-- ---- lines

-- what a line of the script comes to: the world after it, the lines of its events, and the limit that was reached before one of them
pub record Turn : Type 0 where
  pub world : World
  pub told : List Told
  pub full : Option Limit

abbrev pub whole : RunStep → Turn
whole s = record { world = s.world; told = s.told; full = None }

abbrev pub tried_by : Option Limit → World → RunStep → Turn
tried_by None w s = whole s
tried_by (Some limit) w s = record { world = w; told = []; full = Some limit }

-- one of several events of a line: the limits are tried before it
abbrev pub tried : ℕ → World → RunStep → Turn
tried size w s = tried_by (reached w size) w s

abbrev pub told_first : List Told → Turn → Turn
told_first told t = record t { told = told ++ t.told }

abbrev pub then_by : Option Limit → Turn → (World → Turn) → Turn
then_by None t next = told_first t.told (next t.world)
then_by (Some limit) t next = t

-- what comes next, where no limit was reached
abbrev pub then_turn : Turn → (World → Turn) → Turn
then_turn t next = then_by t.full t next

-- what is to be done where there is something to do
abbrev pub where_busy : Bool → World → (World → Turn) → Turn
where_busy false w next = whole (quiet w)
where_busy true w next = next w

-- a batch of a host's replica is pending, or something changed that a batch can hold
abbrev pub is_unsaved : World → ℕ → Bool
is_unsaved w h = is_some (pending_at w h) || (is_changed (replica_at w.group h) && not (is_stuck (replica_at w.group h)))

-- a save at a host that has something to save
abbrev pub save_tried : ℕ → ℕ → World → Turn
save_tried h size w = where_busy (is_unsaved w h) w (λ v. tried size v (save h v))

-- a save at each of these hosts, in their order
unfoldable pub save_each : List ℕ → ℕ → World → Turn
save_each [] size w = whole (quiet w)
save_each (h ∷ hs) size w = then_turn (save_tried h size w) (λ v. save_each hs size v)

-- the envelope after the settled number arrives, and its number is settled
abbrev pub deliver_next : World → RunStep
deliver_next w = arrives (envelope_at w.group.wire (w.settled + 1)) (w.settled + 1) (record w { settled = w.settled + 1 })

-- the next envelopes after the settled number arrive, in order
unfoldable pub deliver_each : ℕ → ℕ → World → Turn
deliver_each zero size w = whole (quiet w)
deliver_each (suc count) size w = then_turn (tried size w (deliver_next w)) (λ v. deliver_each count size v)

-- an apply at a host where an entry is ripe
abbrev pub apply_tried : ℕ → ℕ → World → Turn
apply_tried h size w = where_busy (is_ripe w h) w (λ v. tried size v (apply h MOST_APPLIED v))

-- an apply at each of these hosts, in their order
unfoldable pub apply_each : List ℕ → ℕ → World → Turn
apply_each [] size w = whole (quiet w)
apply_each (h ∷ hs) size w = then_turn (apply_tried h size w) (λ v. apply_each hs size v)

-- how many envelopes there are after the settled number
abbrev pub unsettled : World → ℕ
unsettled w = length w.group.wire - w.settled

-- the envelopes after the settled number arrive, up to the newest one of now, and then comes an apply at each host
abbrev pub second_half : ℕ → World → Turn
second_half size w = then_turn (deliver_each (unsettled w) size w) (λ v. apply_each v.group.voters size v)

-- a round: saves at each host, then deliveries, then applies at each host; hosts in ascending order
abbrev pub round : ℕ → World → Turn
round size w = then_turn (save_each w.group.voters size w) (λ v. second_half size v)

-- a round has something to do
abbrev pub is_busy : World → Bool
is_busy w = list_any (is_unsaved w) w.group.voters || nat_lt 0 (unsettled w) || list_any (is_ripe w) w.group.voters

-- at most this number of rounds, until one has nothing to do
unfoldable pub settle : ℕ → ℕ → World → Turn
settle zero size w = whole (quiet w)
settle (suc rounds) size w = where_busy (is_busy w) w (λ v. then_turn (round size v) (λ u. settle rounds size u))

unfoldable pub settles : ℕ → World → Turn
settles size w = if has_group w then settle MOST_ROUNDS size w else whole (refuses w refusals.NoReplica)

-- ---- hosts and groups

unfoldable pub declare : ℕ → World → RunStep
declare h w = unless (is_declared w h) refusals.Declared w (record { world = record w { declared = slice_set w.declared h true }; told = bare (lines.Started h 1) ∷ [] })

-- the group is made of these voters, with its limit of sessions: new replicas and new cells
unfoldable pub grouped : List ℕ → ℕ → World → World
grouped roster limit w = record w { group = fresh_group 1 roster; limit = limit; nodes = replicate 10 (new_node limit) }

unfoldable pub group : List ℕ → Option ℕ → World → RunStep
group roster limit w =
    unless (not (list_all (is_declared w) roster)) refusals.NotDeclared w
    (unless (has_group w) refusals.Declared w
    (quiet (grouped roster (unwrap_or limit MOST_SESSIONS) w)))

-- a line, where the lines that were read have `size` bytes with it
unfoldable pub turn : ScriptLine → ℕ → World → Turn
turn script_lines.Skipped size w = whole (quiet w)
turn script_lines.End size w = whole (quiet w)
turn (script_lines.Host host) size w = whole (declare host w)
turn (script_lines.Group number kind roster limit) size w = whole (group roster limit w)
turn (script_lines.Event host event) size w = whole (at_replica host w (event_step host event w))
turn (script_lines.Deliver number envelope) size w = whole (deliver envelope w)
turn (script_lines.Ask host number context command) size w = whole (asks host context command (proposals.Plain command) w)
turn (script_lines.Read host number context query) size w = whole (reads host context query w)
turn (script_lines.Stale host number query) size w = whole (stale host query w)
turn (script_lines.Register host number context session client) size w = whole (register host context session client w)
turn (script_lines.Call host context session command) size w = whole (call host context session command w)
turn (script_lines.Again host context session) size w = whole (again host context session w)
turn (script_lines.Completed session) size w = whole (completed session w)
turn (script_lines.Close host context session) size w = whole (close host context session w)
turn (script_lines.Raw host number context client series responded command) size w = whole (asks host context command (proposals.Session client series responded command) w)
turn (script_lines.Settle number) size w = settles size w
turn (script_lines.Lose number) size w = whole (lose w)
turn (script_lines.Wire number envelope) size w = whole (show envelope w)

-- ---- the run

-- the lines of the events so far, why the run stops, and the world that it has reached
pub record Outcome : Type 0 where
  pub told : List Told
  pub stop : Stop
  pub world : World

abbrev pub stops : World → Stop → Outcome
stops w s = record { told = []; stop = s; world = w }

abbrev pub told_before : List Told → Outcome → Outcome
told_before told o = record o { told = told ++ o.told }

abbrev pub after_by : Option Limit → Turn → (World → Outcome) → Outcome
after_by None t next = told_before t.told (next t.world)
after_by (Some limit) t next = told_before t.told (stops t.world (Full limit))

-- a run goes on after a line, where no limit was reached in it
abbrev pub after_turn : Turn → (World → Outcome) → Outcome
after_turn t next = after_by t.full t next

abbrev pub unless_full : Option Limit → World → (World → Outcome) → Outcome
unless_full None w next = next w
unless_full (Some limit) w next = stops w (Full limit)

abbrev pub goes_on : Option ScriptLine → (ScriptLine → Outcome) → World → ℕ → Outcome
goes_on None more w n = stops w (Bad (n + 1))
goes_on (Some line) more w n = if is_end line then stops w Ended else more line

-- what has no line feed and is too long for a line is a bad one, whatever comes
abbrev pub cut_short : ℕ → List ℕ → Stop
cut_short n line = if nat_lt MOST_LINE (length line) then Bad (n + 1) else Spent (n + 1)

-- a run over the parts between line feeds, of which the last is no whole line, where these groups were named, after n lines of `size` bytes: the limits are tried before each line
unfoldable pub run : World → ℕ → ℕ → List (List ℕ) → Outcome
run w n size [] = stops w (Spent (n + 1))
run w n size (line ∷ []) = unless_full (reached w size) w (λ v. stops v (cut_short n line))
run w n size (line ∷ next ∷ more) =
    unless_full (reached w size) w
    (λ v. goes_on (read_line line)
    (λ said. after_turn (turn said (size + (length line + 1)) v) (λ u. run u (n + 1) (size + (length line + 1)) (next ∷ more))) v n)

abbrev pub outcome_of : List ℕ → Outcome
outcome_of text = run start 0 0 (parts_of text)

abbrev pub text_of : List Told → List ℕ
text_of told = flat_map (λ t. print_line t.context t.line) told

abbrev pub entry_told : World → Entry → Told
entry_told w e = shows w.contexts e.key (lines.Entry 1 e)

-- the last lines: at the end of a script the group's decided list
abbrev pub ending : Stop → World → List Told
ending Ended w = map (entry_told w) w.group.decided ++ bare lines.End ∷ []
ending (Bad line) w = bare (lines.BadLine line) ∷ []
ending (Full limit) w = bare (lines.Reached limit) ∷ []
ending (Spent line) w = bare (lines.BadLine line) ∷ []

abbrev pub all_told : Outcome → List Told
all_told o = o.told ++ ending o.stop o.world

-- all that a run over this text writes
unfoldable pub output_of : List ℕ → List ℕ
output_of text = text_of (all_told (outcome_of text))
