-- Written by `python3 tools/raft_runs/write_runs.py`, and then laid out by `rt fmt`. Not to be edited by hand.
-- A proposal and a read that a follower hands on to the leader, at three voters.
use Rattle.std.specs.Prelude.{List, [], ◌∷◌, codes, true}
use Rattle.host_ids.specs.declared.entry.Entry.{Entry}
use Rattle.host_ids.specs.declared.proposal.Proposal.TheVariants as proposals
use Rattle.wire_types.specs.declared.envelope.Envelope.{Envelope}
use Rattle.wire_types.specs.declared.envelope.Body.TheVariants as bodies
use Rattle.raft_model.specs.declared.event.LaneEvent.{LaneEvent}
use Rattle.raft_model.specs.declared.event.LaneEvent.TheVariants as events
use Rattle.raft_model.specs.declared.note.Note.{Note}
use Rattle.raft_model.specs.declared.note.Note.TheVariants as notes
use Rattle.raft_model.specs.declared.role.Role.TheVariants as roles
use Rattle.raft_model.specs.Group.{Group, fresh_group}
use Rattle.raft_model.specs.Replica.{no_key}
use Rattle.raft_runs.specs.Runs.{Digest, key, entry, post}

-- the events
abbrev pub events_of : List LaneEvent
events_of =
    events.Timeout 1 ∷ events.Ready 1 ∷ events.Saved 1 1 ∷ events.Deliver 1 ∷
    events.Deliver 2 ∷ events.Ready 2 ∷ events.Saved 2 1 ∷ events.Ready 3 ∷
    events.Saved 3 1 ∷ events.Deliver 3 ∷ events.Deliver 4 ∷ events.Ready 1 ∷
    events.Saved 1 2 ∷ events.Deliver 5 ∷ events.Deliver 6 ∷ events.Ready 2 ∷
    events.Saved 2 2 ∷ events.Ready 3 ∷ events.Saved 3 2 ∷ events.Deliver 7 ∷
    events.Deliver 8 ∷ events.Ready 1 ∷ events.Saved 1 3 ∷ events.Propose 2 (key 2 1 1) (proposals.Plain (codes "add n 7")) ∷
    events.Deliver 9 ∷ events.Ready 1 ∷ events.Saved 1 4 ∷ events.Deliver 10 ∷
    events.Deliver 11 ∷ events.Ready 2 ∷ events.Saved 2 3 ∷ events.Ready 3 ∷
    events.Saved 3 3 ∷ events.Deliver 12 ∷ events.Deliver 13 ∷ events.Ready 1 ∷
    events.Saved 1 5 ∷ events.Beat 1 ∷ events.Deliver 14 ∷ events.Deliver 15 ∷
    events.Ready 2 ∷ events.Saved 2 4 ∷ events.Ready 3 ∷ events.Saved 3 4 ∷
    events.Deliver 16 ∷ events.Deliver 17 ∷ events.Ask 3 (key 3 1 1) ∷ events.Deliver 18 ∷
    events.Deliver 19 ∷ events.Deliver 20 ∷ events.Deliver 21 ∷ events.Deliver 22 ∷
    events.Deliver 23 ∷
    []

-- a group that has just begun
abbrev pub begun : Group
begun =
    fresh_group 1 (1 ∷ 2 ∷ 3 ∷ [])

-- what they tell
abbrev pub notes_of : List Note
notes_of =
    notes.Pending 1 1 ∷ notes.Pending 2 1 ∷ notes.Pending 3 1 ∷ notes.Leader 1 1 ∷ notes.Pending 1 2 ∷ notes.Pending 2 2 ∷
    notes.Pending 3 2 ∷ notes.Pending 1 3 ∷ notes.Pending 1 4 ∷ notes.Pending 2 3 ∷ notes.Pending 3 3 ∷ notes.Pending 1 5 ∷
    notes.Pending 2 4 ∷ notes.Pending 3 4 ∷ notes.Confirmed 3 (key 3 1 1) 2 ∷
    []

-- what is decided
abbrev pub decided_of : List Entry
decided_of =
    entry 1 1 no_key proposals.Blank ∷ entry 2 1 (key 2 1 1) (proposals.Plain (codes "add n 7")) ∷
    []

-- how the replicas stand
abbrev pub replicas_of : List Digest
replicas_of =
    record { term = 1; vote = 1; role = roles.Leader; leader = 1; commit = 2; front = 0; stable = 2; from = 3; round = 2; held = 0; terms = 1 ∷ 1 ∷ []; matched = 2 ∷ 2 ∷ 2 ∷ []; next = 1 ∷ 3 ∷ 3 ∷ []; answered = 0 ∷ 2 ∷ 2 ∷ [] } ∷
    record { term = 1; vote = 1; role = roles.Follower; leader = 1; commit = 2; front = 0; stable = 2; from = 3; round = 0; held = 0; terms = 1 ∷ 1 ∷ []; matched = 0 ∷ 0 ∷ 0 ∷ []; next = 0 ∷ 0 ∷ 0 ∷ []; answered = 0 ∷ 0 ∷ 0 ∷ [] } ∷
    record { term = 1; vote = 1; role = roles.Follower; leader = 1; commit = 2; front = 0; stable = 2; from = 3; round = 0; held = 0; terms = 1 ∷ 1 ∷ []; matched = 0 ∷ 0 ∷ 0 ∷ []; next = 0 ∷ 0 ∷ 0 ∷ []; answered = 0 ∷ 0 ∷ 0 ∷ [] } ∷
    []

-- what was sent
abbrev pub wire_of : List Envelope
wire_of =
    post 1 2 1 (bodies.Vote 0 0) ∷ post 1 3 1 (bodies.Vote 0 0) ∷
    post 2 1 1 (bodies.VoteReply true) ∷ post 3 1 1 (bodies.VoteReply true) ∷
    post 1 2 1 (bodies.Append 0 0 0 (entry 1 1 no_key proposals.Blank ∷ [])) ∷ post 1 3 1 (bodies.Append 0 0 0 (entry 1 1 no_key proposals.Blank ∷ [])) ∷
    post 2 1 1 (bodies.AppendReply true 1) ∷ post 3 1 1 (bodies.AppendReply true 1) ∷
    post 2 1 0 (bodies.Propose (key 2 1 1) (proposals.Plain (codes "add n 7"))) ∷ post 1 2 1 (bodies.Append 1 1 1 (entry 2 1 (key 2 1 1) (proposals.Plain (codes "add n 7")) ∷ [])) ∷
    post 1 3 1 (bodies.Append 1 1 1 (entry 2 1 (key 2 1 1) (proposals.Plain (codes "add n 7")) ∷ [])) ∷ post 2 1 1 (bodies.AppendReply true 2) ∷
    post 3 1 1 (bodies.AppendReply true 2) ∷ post 1 2 1 (bodies.Beat 2 1) ∷
    post 1 3 1 (bodies.Beat 2 1) ∷ post 2 1 1 (bodies.BeatReply 1) ∷
    post 3 1 1 (bodies.BeatReply 1) ∷ post 3 1 0 (bodies.ReadAsk (key 3 1 1)) ∷
    post 1 2 1 (bodies.Beat 2 2) ∷ post 1 3 1 (bodies.Beat 2 2) ∷
    post 2 1 1 (bodies.BeatReply 2) ∷ post 3 1 1 (bodies.BeatReply 2) ∷
    post 1 3 0 (bodies.ReadAnswer (key 3 1 1) 2) ∷
    []
