-- Written by `python3 tools/raft_runs/write_runs.py`, and then laid out by `rt fmt`. Not to be edited by hand.
-- A drawn schedule of five voters.
use Rattle.std.specs.Prelude.{List, [], ◌∷◌, codes, true, false}
use Rattle.host_ids.specs.declared.entry.Entry.{Entry}
use Rattle.host_ids.specs.declared.proposal.Proposal.TheVariants as proposals
use Rattle.wire_types.specs.declared.envelope.Envelope.{Envelope}
use Rattle.wire_types.specs.declared.envelope.Body.TheVariants as bodies
use Rattle.raft_model.specs.declared.event.LaneEvent.{LaneEvent}
use Rattle.raft_model.specs.declared.event.LaneEvent.TheVariants as events
use Rattle.raft_model.specs.declared.note.Note.{Note}
use Rattle.raft_model.specs.declared.note.Note.TheVariants as notes
use Rattle.raft_model.specs.declared.role.Role.TheVariants as roles
use Rattle.raft_model.specs.Group.{Group, fresh_group}
use Rattle.raft_model.specs.Replica.{no_key}
use Rattle.raft_runs.specs.Runs.{Digest, key, entry, piece, post, left, saved_part}

-- the events
abbrev pub events_of : List LaneEvent
events_of =
    events.Ask 5 (key 5 1 1) ∷ events.Propose 3 (key 3 1 1) (proposals.Plain (codes "put x 7")) ∷ events.Ready 1 ∷ events.Beat 2 ∷
    events.Ask 4 (key 4 1 1) ∷ events.Down 5 ∷ events.Ready 2 ∷ events.Ready 5 ∷
    events.Propose 4 (key 4 1 2) (proposals.Plain (codes "put x 9")) ∷ events.Timeout 1 ∷ events.Ready 1 ∷ events.Saved 1 1 ∷
    events.Ready 1 ∷ events.Ready 2 ∷ events.Ready 2 ∷ events.Ready 2 ∷
    events.Ready 4 ∷ events.Deliver 5 ∷ events.Ask 3 (key 3 1 2) ∷ events.Deliver 5 ∷
    events.Ask 1 (key 1 1 1) ∷ events.Ready 5 ∷ events.Ready 1 ∷ events.Deliver 2 ∷
    events.Ready 3 ∷ events.Saved 3 1 ∷ events.Deliver 1 ∷ events.Ready 2 ∷
    events.Saved 2 1 ∷ events.Deliver 2 ∷ events.Ready 3 ∷ events.Deliver 3 ∷
    events.Ready 4 ∷ events.Deliver 8 ∷ events.Saved 4 1 ∷ events.Ready 5 ∷
    events.Ask 1 (key 1 1 2) ∷ events.Deliver 2 ∷ events.Ready 3 ∷ events.Deliver 3 ∷
    events.Propose 3 (key 3 1 3) (proposals.Plain (codes "put x 8")) ∷ events.Deliver 9 ∷ events.Deliver 2 ∷ events.Deliver 6 ∷
    events.Deliver 7 ∷ events.Ready 1 ∷ events.Restart 5 (left (saved_part 0 0 0 0 0 ([])) 0 0 0) ∷ events.Deliver 8 ∷
    events.Deliver 4 ∷ events.Ready 5 ∷ events.Saved 5 1 ∷ events.Deliver 11 ∷
    events.Saved 1 2 ∷ events.Down 4 ∷ events.Propose 1 (key 1 1 3) (proposals.Plain (codes "put x 4")) ∷ events.Ready 1 ∷
    events.Saved 1 3 ∷ events.Ready 4 ∷ events.Deliver 16 ∷ events.Ready 5 ∷
    events.Deliver 14 ∷ events.Deliver 19 ∷ events.Saved 5 2 ∷ events.Ready 3 ∷
    events.Deliver 17 ∷ events.Deliver 15 ∷ events.Saved 3 2 ∷ events.Deliver 17 ∷
    events.Deliver 19 ∷ events.Propose 2 (key 2 1 1) (proposals.Plain (codes "put x 9")) ∷ events.Ready 2 ∷ events.Restart 4 (left (saved_part 1 1 0 0 0 ([])) 0 0 0) ∷
    events.Saved 2 2 ∷ events.Deliver 19 ∷ events.Deliver 22 ∷ events.Ready 4 ∷
    events.Beat 1 ∷ events.Saved 4 1 ∷ events.Ready 4 ∷ events.Ready 2 ∷
    events.Ask 3 (key 3 1 4) ∷ events.Deliver 25 ∷ events.Deliver 30 ∷ events.Ready 1 ∷
    events.Deliver 31 ∷ events.Deliver 32 ∷ events.Saved 1 4 ∷ events.Beat 1 ∷
    events.Ready 1 ∷ events.Saved 1 5 ∷ events.Propose 1 (key 1 1 4) (proposals.Plain (codes "put x 7")) ∷ events.Deliver 41 ∷
    events.Ready 1 ∷ events.Deliver 21 ∷ events.Deliver 42 ∷ events.Beat 1 ∷
    events.Deliver 41 ∷ events.Deliver 43 ∷ events.Propose 1 (key 1 1 5) (proposals.Plain (codes "put x 2")) ∷ events.Propose 1 (key 1 1 6) (proposals.Plain (codes "put x 3")) ∷
    events.Deliver 48 ∷ events.Saved 1 6 ∷ events.Ready 1 ∷ events.Deliver 47 ∷
    events.Deliver 48 ∷ events.Down 3 ∷ events.Deliver 16 ∷ events.Deliver 11 ∷
    events.Deliver 48 ∷ events.Deliver 45 ∷ events.Beat 1 ∷ events.Deliver 51 ∷
    events.Deliver 50 ∷ events.Deliver 50 ∷ events.Deliver 52 ∷ events.Deliver 15 ∷
    events.Propose 1 (key 1 1 7) (proposals.Plain (codes "put x 3")) ∷ events.Deliver 5 ∷ events.Saved 1 7 ∷ events.Deliver 65 ∷
    events.Deliver 62 ∷ events.Propose 1 (key 1 1 8) (proposals.Plain (codes "put x 8")) ∷ events.Deliver 59 ∷ events.Deliver 66 ∷
    events.Ready 5 ∷ events.Saved 5 3 ∷ events.Deliver 70 ∷ events.Ready 1 ∷
    events.Ready 4 ∷ events.Timeout 4 ∷ events.Timeout 5 ∷ events.Chunk 1 3 (piece 1 2 1 1 1 16 (1 ∷ 2 ∷ 3 ∷ [])) ∷
    events.Deliver 70 ∷ events.Deliver 55 ∷ events.Ask 3 (key 3 1 5) ∷ events.Deliver 70 ∷
    events.Timeout 1 ∷ events.Saved 4 2 ∷ events.Propose 1 (key 1 1 9) (proposals.Plain (codes "put x 3")) ∷ events.Ask 4 (key 4 2 1) ∷
    events.Propose 1 (key 1 1 10) (proposals.Plain (codes "put x 6")) ∷ events.Deliver 76 ∷ events.Saved 1 8 ∷ events.Ready 4 ∷
    events.Compact 4 2 ∷ events.Saved 4 3 ∷ events.Propose 1 (key 1 1 11) (proposals.Plain (codes "put x 9")) ∷ events.Ready 1 ∷
    events.Deliver 66 ∷ events.Timeout 1 ∷ events.Saved 1 9 ∷ events.Deliver 108 ∷
    events.Ready 2 ∷ events.Timeout 5 ∷ events.Ready 5 ∷ events.Deliver 107 ∷
    events.Saved 5 4 ∷ events.Propose 1 (key 1 1 12) (proposals.Plain (codes "put x 6")) ∷ events.Deliver 116 ∷ events.Deliver 116 ∷
    events.Beat 1 ∷ events.Deliver 124 ∷ events.Deliver 116 ∷ events.Deliver 120 ∷
    events.Deliver 119 ∷ events.Ready 1 ∷ events.Ready 4 ∷ events.Saved 1 10 ∷
    events.Deliver 132 ∷ events.Saved 4 4 ∷ events.Propose 4 (key 4 2 2) (proposals.Plain (codes "put x 2")) ∷ events.Deliver 130 ∷
    events.Timeout 2 ∷ events.Restart 3 (left (saved_part 1 1 0 0 0 (entry 1 1 no_key proposals.Blank ∷ [])) 0 0 0) ∷ events.Saved 2 3 ∷ events.Ready 2 ∷
    events.Saved 2 4 ∷ events.Propose 3 (key 3 2 1) (proposals.Plain (codes "put x 7")) ∷ events.Ready 4 ∷ events.Deliver 136 ∷
    events.Timeout 3 ∷ events.Deliver 143 ∷ events.Deliver 138 ∷ events.Ready 3 ∷
    events.Timeout 3 ∷ events.Deliver 139 ∷ events.Saved 3 1 ∷ events.Deliver 141 ∷
    events.Deliver 142 ∷ events.Deliver 149 ∷ events.Ask 1 (key 1 1 13) ∷ events.Timeout 2 ∷
    events.Propose 3 (key 3 2 2) (proposals.Plain (codes "put x 6")) ∷ events.Deliver 148 ∷ events.Deliver 144 ∷ events.Ready 2 ∷
    events.Timeout 4 ∷ events.Ready 3 ∷ events.Deliver 147 ∷ events.Down 5 ∷
    events.Saved 2 5 ∷ events.Propose 3 (key 3 2 3) (proposals.Plain (codes "put x 4")) ∷ events.Timeout 3 ∷ events.Deliver 146 ∷
    events.Ask 1 (key 1 1 14) ∷ events.Ready 4 ∷ events.Deliver 153 ∷ events.Saved 3 2 ∷
    events.Deliver 156 ∷ events.Ready 1 ∷ events.Deliver 156 ∷ events.Deliver 158 ∷
    events.Saved 1 11 ∷ events.Saved 4 5 ∷ events.Ready 3 ∷ events.Deliver 165 ∷
    events.Saved 3 3 ∷ events.Deliver 170 ∷ events.Timeout 3 ∷ events.Timeout 1 ∷
    events.Ready 3 ∷ events.Deliver 166 ∷ events.Saved 3 4 ∷ events.Ready 1 ∷
    events.Saved 1 12 ∷ events.Ready 5 ∷ events.Ask 3 (key 3 2 4) ∷ events.Deliver 182 ∷
    events.Ready 4 ∷ events.Saved 4 6 ∷ events.Timeout 2 ∷ events.Down 2 ∷
    events.Restart 5 (left (saved_part 3 5 1 0 0 (entry 1 1 no_key proposals.Blank ∷ entry 2 1 (key 1 1 3) (proposals.Plain (codes "put x 4")) ∷ entry 3 1 (key 2 1 1) (proposals.Plain (codes "put x 9")) ∷ entry 4 1 (key 1 1 4) (proposals.Plain (codes "put x 7")) ∷ entry 5 1 (key 1 1 5) (proposals.Plain (codes "put x 2")) ∷ entry 6 1 (key 1 1 6) (proposals.Plain (codes "put x 3")) ∷ [])) 0 0 0) ∷ events.Ask 3 (key 3 2 5) ∷ events.Down 5 ∷ events.Deliver 183 ∷
    events.Deliver 179 ∷ events.Deliver 178 ∷ events.Ready 1 ∷ events.Ready 4 ∷
    events.Ready 1 ∷ events.Deliver 113 ∷ events.Ready 1 ∷ events.Deliver 180 ∷
    events.Deliver 180 ∷ events.Deliver 183 ∷ events.Timeout 4 ∷ events.Deliver 176 ∷
    events.Beat 2 ∷ events.Ask 3 (key 3 2 6) ∷ events.Deliver 182 ∷ events.Timeout 2 ∷
    events.Deliver 184 ∷ events.Ask 3 (key 3 2 7) ∷ events.Ready 4 ∷ events.Saved 4 7 ∷
    events.Ready 2 ∷ events.Ready 3 ∷ events.Timeout 4 ∷ events.Restart 5 (left (saved_part 3 5 1 0 0 (entry 1 1 no_key proposals.Blank ∷ entry 2 1 (key 1 1 3) (proposals.Plain (codes "put x 4")) ∷ entry 3 1 (key 2 1 1) (proposals.Plain (codes "put x 9")) ∷ entry 4 1 (key 1 1 4) (proposals.Plain (codes "put x 7")) ∷ entry 5 1 (key 1 1 5) (proposals.Plain (codes "put x 2")) ∷ entry 6 1 (key 1 1 6) (proposals.Plain (codes "put x 3")) ∷ [])) 0 0 0) ∷
    events.Deliver 187 ∷ events.Deliver 189 ∷ events.Deliver 181 ∷ events.Timeout 2 ∷
    events.Deliver 183 ∷ events.Ready 1 ∷ events.Ready 5 ∷ events.Down 4 ∷
    events.Ready 3 ∷ events.Deliver 184 ∷ events.Saved 1 13 ∷ events.Deliver 182 ∷
    events.Saved 5 1 ∷ events.Deliver 182 ∷ events.Deliver 188 ∷ events.Ask 5 (key 5 4 1) ∷
    events.Deliver 182 ∷ events.Saved 3 5 ∷ events.Deliver 191 ∷ events.Ready 5 ∷
    events.Saved 5 2 ∷ events.Ready 3 ∷ events.Deliver 59 ∷ events.Deliver 188 ∷
    events.Ready 4 ∷ events.Propose 3 (key 3 2 8) (proposals.Plain (codes "put x 7")) ∷ events.Deliver 192 ∷ events.Ready 2 ∷
    events.Deliver 189 ∷ events.Deliver 47 ∷ events.Deliver 194 ∷ events.Ready 5 ∷
    events.Ready 5 ∷ events.Timeout 3 ∷ events.Ready 3 ∷ events.Deliver 194 ∷
    events.Beat 5 ∷ events.Ask 4 (key 4 2 3) ∷ events.Propose 4 (key 4 2 4) (proposals.Plain (codes "put x 1")) ∷ events.Deliver 192 ∷
    []

-- a group that has just begun
abbrev pub begun : Group
begun =
    fresh_group 1 (1 ∷ 2 ∷ 3 ∷ 4 ∷ 5 ∷ [])

-- what they tell
abbrev pub notes_of : List Note
notes_of =
    notes.Dropped (key 5 1 1) ∷ notes.Dropped (key 3 1 1) ∷ notes.Idle ∷ notes.Idle ∷ notes.Dropped (key 4 1 1) ∷ notes.Idle ∷
    notes.Dropped (key 4 1 2) ∷ notes.Pending 1 1 ∷ notes.Idle ∷ notes.Idle ∷ notes.Idle ∷ notes.Idle ∷
    notes.Idle ∷ notes.Dropped (key 3 1 2) ∷ notes.Dropped (key 1 1 1) ∷ notes.Idle ∷ notes.Pending 3 1 ∷ notes.Pending 2 1 ∷
    notes.Idle ∷ notes.Pending 4 1 ∷ notes.Dropped (key 1 1 2) ∷ notes.Idle ∷ notes.Dropped (key 3 1 3) ∷ notes.Leader 1 1 ∷
    notes.Pending 1 2 ∷ notes.Pending 5 1 ∷ notes.Pending 1 3 ∷ notes.Pending 5 2 ∷ notes.Pending 3 2 ∷ notes.Pending 2 2 ∷
    notes.Pending 4 1 ∷ notes.Idle ∷ notes.Idle ∷ notes.Pending 1 4 ∷ notes.Pending 1 5 ∷ notes.Pending 1 6 ∷
    notes.Pending 1 7 ∷ notes.Pending 5 3 ∷ notes.Pending 1 8 ∷ notes.Pending 4 2 ∷ notes.Idle ∷ notes.Dropped (key 4 2 1) ∷
    notes.Pending 4 3 ∷ notes.Pending 1 9 ∷ notes.Idle ∷ notes.Pending 2 3 ∷ notes.Pending 5 4 ∷ notes.Pending 1 10 ∷
    notes.Pending 4 4 ∷ notes.Dropped (key 4 2 2) ∷ notes.Pending 2 4 ∷ notes.Dropped (key 3 2 1) ∷ notes.Idle ∷ notes.Pending 3 1 ∷
    notes.Dropped (key 1 1 13) ∷ notes.Dropped (key 3 2 2) ∷ notes.Pending 2 5 ∷ notes.Pending 3 2 ∷ notes.Dropped (key 3 2 3) ∷ notes.Dropped (key 1 1 14) ∷
    notes.Pending 4 5 ∷ notes.Pending 1 11 ∷ notes.Pending 3 3 ∷ notes.Pending 3 4 ∷ notes.Pending 1 12 ∷ notes.Dropped (key 3 2 4) ∷
    notes.Pending 4 6 ∷ notes.Dropped (key 3 2 5) ∷ notes.Idle ∷ notes.Idle ∷ notes.Idle ∷ notes.Idle ∷
    notes.Dropped (key 3 2 6) ∷ notes.Dropped (key 3 2 7) ∷ notes.Pending 4 7 ∷ notes.Idle ∷ notes.Pending 1 13 ∷ notes.Pending 5 1 ∷
    notes.Pending 3 5 ∷ notes.Dropped (key 5 4 1) ∷ notes.Pending 5 2 ∷ notes.Idle ∷ notes.Dropped (key 3 2 8) ∷ notes.Idle ∷
    notes.Idle ∷ notes.Pending 3 6 ∷ notes.Idle ∷
    []

-- what is decided
abbrev pub decided_of : List Entry
decided_of =
    entry 1 1 no_key proposals.Blank ∷ entry 2 1 (key 1 1 3) (proposals.Plain (codes "put x 4")) ∷
    entry 3 1 (key 2 1 1) (proposals.Plain (codes "put x 9")) ∷ entry 4 1 (key 1 1 4) (proposals.Plain (codes "put x 7")) ∷
    entry 5 1 (key 1 1 5) (proposals.Plain (codes "put x 2")) ∷ entry 6 1 (key 1 1 6) (proposals.Plain (codes "put x 3")) ∷
    []

-- how the replicas stand
abbrev pub replicas_of : List Digest
replicas_of =
    record { term = 6; vote = 0; role = roles.Follower; leader = 0; commit = 6; front = 0; stable = 12; from = 13; round = 6; held = 0; terms = 1 ∷ 1 ∷ 1 ∷ 1 ∷ 1 ∷ 1 ∷ 1 ∷ 1 ∷ 1 ∷ 1 ∷ 1 ∷ 1 ∷ []; matched = 11 ∷ 0 ∷ 1 ∷ 6 ∷ 6 ∷ []; next = 1 ∷ 1 ∷ 2 ∷ 7 ∷ 7 ∷ []; answered = 0 ∷ 3 ∷ 0 ∷ 0 ∷ 2 ∷ [] } ∷
    record { term = 5; vote = 2; role = roles.Candidate; leader = 0; commit = 1; front = 0; stable = 5; from = 6; round = 0; held = 4; terms = 1 ∷ 1 ∷ 1 ∷ 1 ∷ 1 ∷ []; matched = 0 ∷ 0 ∷ 0 ∷ 0 ∷ 0 ∷ []; next = 0 ∷ 0 ∷ 0 ∷ 0 ∷ 0 ∷ []; answered = 0 ∷ 0 ∷ 0 ∷ 0 ∷ 0 ∷ [] } ∷
    record { term = 7; vote = 3; role = roles.Candidate; leader = 0; commit = 0; front = 0; stable = 1; from = 2; round = 0; held = 0; terms = 1 ∷ []; matched = 0 ∷ 0 ∷ 0 ∷ 0 ∷ 0 ∷ []; next = 0 ∷ 0 ∷ 0 ∷ 0 ∷ 0 ∷ []; answered = 0 ∷ 0 ∷ 0 ∷ 0 ∷ 0 ∷ [] } ∷
    record { term = 7; vote = 4; role = roles.Candidate; leader = 0; commit = 1; front = 0; stable = 6; from = 7; round = 0; held = 4; terms = 1 ∷ 1 ∷ 1 ∷ 1 ∷ 1 ∷ 1 ∷ []; matched = 0 ∷ 0 ∷ 0 ∷ 0 ∷ 0 ∷ []; next = 0 ∷ 0 ∷ 0 ∷ 0 ∷ 0 ∷ []; answered = 0 ∷ 0 ∷ 0 ∷ 0 ∷ 0 ∷ [] } ∷
    record { term = 6; vote = 4; role = roles.Follower; leader = 0; commit = 1; front = 0; stable = 6; from = 7; round = 0; held = 0; terms = 1 ∷ 1 ∷ 1 ∷ 1 ∷ 1 ∷ 1 ∷ []; matched = 0 ∷ 0 ∷ 0 ∷ 0 ∷ 0 ∷ []; next = 0 ∷ 0 ∷ 0 ∷ 0 ∷ 0 ∷ []; answered = 0 ∷ 0 ∷ 0 ∷ 0 ∷ 0 ∷ [] } ∷
    []

-- what was sent
abbrev pub wire_of : List Envelope
wire_of =
    post 1 2 1 (bodies.Vote 0 0) ∷ post 1 3 1 (bodies.Vote 0 0) ∷
    post 1 4 1 (bodies.Vote 0 0) ∷ post 1 5 1 (bodies.Vote 0 0) ∷
    post 3 1 1 (bodies.VoteReply true) ∷ post 2 1 1 (bodies.VoteReply true) ∷
    post 3 1 1 (bodies.VoteReply true) ∷ post 4 1 1 (bodies.VoteReply true) ∷
    post 3 1 1 (bodies.VoteReply true) ∷ post 4 1 1 (bodies.VoteReply true) ∷
    post 3 1 1 (bodies.VoteReply true) ∷ post 5 1 1 (bodies.VoteReply true) ∷
    post 1 2 1 (bodies.Append 0 0 0 (entry 1 1 no_key proposals.Blank ∷ [])) ∷ post 1 3 1 (bodies.Append 0 0 0 (entry 1 1 no_key proposals.Blank ∷ [])) ∷
    post 1 4 1 (bodies.Append 0 0 0 (entry 1 1 no_key proposals.Blank ∷ [])) ∷ post 1 5 1 (bodies.Append 0 0 0 (entry 1 1 no_key proposals.Blank ∷ [])) ∷
    post 1 2 1 (bodies.Append 0 0 0 (entry 1 1 no_key proposals.Blank ∷ entry 2 1 (key 1 1 3) (proposals.Plain (codes "put x 4")) ∷ [])) ∷ post 1 3 1 (bodies.Append 0 0 0 (entry 1 1 no_key proposals.Blank ∷ entry 2 1 (key 1 1 3) (proposals.Plain (codes "put x 4")) ∷ [])) ∷
    post 1 4 1 (bodies.Append 0 0 0 (entry 1 1 no_key proposals.Blank ∷ entry 2 1 (key 1 1 3) (proposals.Plain (codes "put x 4")) ∷ [])) ∷ post 1 5 1 (bodies.Append 0 0 0 (entry 1 1 no_key proposals.Blank ∷ entry 2 1 (key 1 1 3) (proposals.Plain (codes "put x 4")) ∷ [])) ∷
    post 5 1 1 (bodies.AppendReply true 1) ∷ post 3 1 1 (bodies.AppendReply true 1) ∷
    post 2 1 1 (bodies.AppendReply true 2) ∷ post 2 1 1 (bodies.AppendReply true 2) ∷
    post 2 1 0 (bodies.Propose (key 2 1 1) (proposals.Plain (codes "put x 9"))) ∷ post 1 3 1 (bodies.Append 1 1 0 (entry 2 1 (key 1 1 3) (proposals.Plain (codes "put x 4")) ∷ [])) ∷
    post 1 2 1 (bodies.Beat 0 1) ∷ post 1 3 1 (bodies.Beat 0 1) ∷
    post 1 4 1 (bodies.Beat 0 1) ∷ post 1 5 1 (bodies.Beat 0 1) ∷
    post 4 1 1 (bodies.AppendReply true 2) ∷ post 3 1 0 (bodies.ReadAsk (key 3 1 4)) ∷
    post 5 1 1 (bodies.BeatReply 1) ∷ post 1 2 1 (bodies.Append 0 0 0 (entry 1 1 no_key proposals.Blank ∷ entry 2 1 (key 1 1 3) (proposals.Plain (codes "put x 4")) ∷ entry 3 1 (key 2 1 1) (proposals.Plain (codes "put x 9")) ∷ [])) ∷
    post 1 3 1 (bodies.Append 1 1 0 (entry 2 1 (key 1 1 3) (proposals.Plain (codes "put x 4")) ∷ entry 3 1 (key 2 1 1) (proposals.Plain (codes "put x 9")) ∷ [])) ∷ post 1 4 1 (bodies.Append 0 0 0 (entry 1 1 no_key proposals.Blank ∷ entry 2 1 (key 1 1 3) (proposals.Plain (codes "put x 4")) ∷ entry 3 1 (key 2 1 1) (proposals.Plain (codes "put x 9")) ∷ [])) ∷
    post 1 5 1 (bodies.Append 0 0 0 (entry 1 1 no_key proposals.Blank ∷ entry 2 1 (key 1 1 3) (proposals.Plain (codes "put x 4")) ∷ entry 3 1 (key 2 1 1) (proposals.Plain (codes "put x 9")) ∷ [])) ∷ post 1 4 1 (bodies.Append 2 1 1 (entry 3 1 (key 2 1 1) (proposals.Plain (codes "put x 9")) ∷ [])) ∷
    post 1 2 1 (bodies.Beat 0 2) ∷ post 1 3 1 (bodies.Beat 1 2) ∷
    post 1 4 1 (bodies.Beat 1 2) ∷ post 1 5 1 (bodies.Beat 0 2) ∷
    post 1 2 1 (bodies.Beat 0 3) ∷ post 1 3 1 (bodies.Beat 1 3) ∷
    post 1 4 1 (bodies.Beat 1 3) ∷ post 1 5 1 (bodies.Beat 0 3) ∷
    post 5 1 1 (bodies.BeatReply 2) ∷ post 2 1 1 (bodies.BeatReply 3) ∷
    post 1 2 1 (bodies.Append 0 0 1 (entry 1 1 no_key proposals.Blank ∷ entry 2 1 (key 1 1 3) (proposals.Plain (codes "put x 4")) ∷ entry 3 1 (key 2 1 1) (proposals.Plain (codes "put x 9")) ∷ entry 4 1 (key 1 1 4) (proposals.Plain (codes "put x 7")) ∷ [])) ∷ post 1 3 1 (bodies.Append 1 1 1 (entry 2 1 (key 1 1 3) (proposals.Plain (codes "put x 4")) ∷ entry 3 1 (key 2 1 1) (proposals.Plain (codes "put x 9")) ∷ entry 4 1 (key 1 1 4) (proposals.Plain (codes "put x 7")) ∷ [])) ∷
    post 1 4 1 (bodies.Append 2 1 1 (entry 3 1 (key 2 1 1) (proposals.Plain (codes "put x 9")) ∷ entry 4 1 (key 1 1 4) (proposals.Plain (codes "put x 7")) ∷ [])) ∷ post 1 5 1 (bodies.Append 0 0 1 (entry 1 1 no_key proposals.Blank ∷ entry 2 1 (key 1 1 3) (proposals.Plain (codes "put x 4")) ∷ entry 3 1 (key 2 1 1) (proposals.Plain (codes "put x 9")) ∷ entry 4 1 (key 1 1 4) (proposals.Plain (codes "put x 7")) ∷ [])) ∷
    post 5 1 1 (bodies.AppendReply true 1) ∷ post 1 5 1 (bodies.Append 1 1 1 (entry 2 1 (key 1 1 3) (proposals.Plain (codes "put x 4")) ∷ entry 3 1 (key 2 1 1) (proposals.Plain (codes "put x 9")) ∷ entry 4 1 (key 1 1 4) (proposals.Plain (codes "put x 7")) ∷ [])) ∷
    post 1 2 1 (bodies.Beat 0 4) ∷ post 1 3 1 (bodies.Beat 1 4) ∷
    post 1 4 1 (bodies.Beat 1 4) ∷ post 1 5 1 (bodies.Beat 1 4) ∷
    post 1 2 1 (bodies.Append 0 0 1 (entry 1 1 no_key proposals.Blank ∷ entry 2 1 (key 1 1 3) (proposals.Plain (codes "put x 4")) ∷ entry 3 1 (key 2 1 1) (proposals.Plain (codes "put x 9")) ∷ entry 4 1 (key 1 1 4) (proposals.Plain (codes "put x 7")) ∷ entry 5 1 (key 1 1 5) (proposals.Plain (codes "put x 2")) ∷ [])) ∷ post 1 3 1 (bodies.Append 1 1 1 (entry 2 1 (key 1 1 3) (proposals.Plain (codes "put x 4")) ∷ entry 3 1 (key 2 1 1) (proposals.Plain (codes "put x 9")) ∷ entry 4 1 (key 1 1 4) (proposals.Plain (codes "put x 7")) ∷ entry 5 1 (key 1 1 5) (proposals.Plain (codes "put x 2")) ∷ [])) ∷
    post 1 4 1 (bodies.Append 2 1 1 (entry 3 1 (key 2 1 1) (proposals.Plain (codes "put x 9")) ∷ entry 4 1 (key 1 1 4) (proposals.Plain (codes "put x 7")) ∷ entry 5 1 (key 1 1 5) (proposals.Plain (codes "put x 2")) ∷ [])) ∷ post 1 5 1 (bodies.Append 1 1 1 (entry 2 1 (key 1 1 3) (proposals.Plain (codes "put x 4")) ∷ entry 3 1 (key 2 1 1) (proposals.Plain (codes "put x 9")) ∷ entry 4 1 (key 1 1 4) (proposals.Plain (codes "put x 7")) ∷ entry 5 1 (key 1 1 5) (proposals.Plain (codes "put x 2")) ∷ [])) ∷
    post 1 2 1 (bodies.Append 0 0 1 (entry 1 1 no_key proposals.Blank ∷ entry 2 1 (key 1 1 3) (proposals.Plain (codes "put x 4")) ∷ entry 3 1 (key 2 1 1) (proposals.Plain (codes "put x 9")) ∷ entry 4 1 (key 1 1 4) (proposals.Plain (codes "put x 7")) ∷ entry 5 1 (key 1 1 5) (proposals.Plain (codes "put x 2")) ∷ entry 6 1 (key 1 1 6) (proposals.Plain (codes "put x 3")) ∷ [])) ∷ post 1 3 1 (bodies.Append 1 1 1 (entry 2 1 (key 1 1 3) (proposals.Plain (codes "put x 4")) ∷ entry 3 1 (key 2 1 1) (proposals.Plain (codes "put x 9")) ∷ entry 4 1 (key 1 1 4) (proposals.Plain (codes "put x 7")) ∷ entry 5 1 (key 1 1 5) (proposals.Plain (codes "put x 2")) ∷ entry 6 1 (key 1 1 6) (proposals.Plain (codes "put x 3")) ∷ [])) ∷
    post 1 4 1 (bodies.Append 2 1 1 (entry 3 1 (key 2 1 1) (proposals.Plain (codes "put x 9")) ∷ entry 4 1 (key 1 1 4) (proposals.Plain (codes "put x 7")) ∷ entry 5 1 (key 1 1 5) (proposals.Plain (codes "put x 2")) ∷ entry 6 1 (key 1 1 6) (proposals.Plain (codes "put x 3")) ∷ [])) ∷ post 1 5 1 (bodies.Append 1 1 1 (entry 2 1 (key 1 1 3) (proposals.Plain (codes "put x 4")) ∷ entry 3 1 (key 2 1 1) (proposals.Plain (codes "put x 9")) ∷ entry 4 1 (key 1 1 4) (proposals.Plain (codes "put x 7")) ∷ entry 5 1 (key 1 1 5) (proposals.Plain (codes "put x 2")) ∷ entry 6 1 (key 1 1 6) (proposals.Plain (codes "put x 3")) ∷ [])) ∷
    post 1 2 1 (bodies.Append 0 0 1 (entry 1 1 no_key proposals.Blank ∷ entry 2 1 (key 1 1 3) (proposals.Plain (codes "put x 4")) ∷ entry 3 1 (key 2 1 1) (proposals.Plain (codes "put x 9")) ∷ entry 4 1 (key 1 1 4) (proposals.Plain (codes "put x 7")) ∷ entry 5 1 (key 1 1 5) (proposals.Plain (codes "put x 2")) ∷ entry 6 1 (key 1 1 6) (proposals.Plain (codes "put x 3")) ∷ [])) ∷ post 5 1 1 (bodies.AppendReply true 4) ∷
    post 5 1 1 (bodies.AppendReply true 5) ∷ post 5 1 1 (bodies.AppendReply true 6) ∷
    post 4 1 1 (bodies.BeatReply 2) ∷ post 4 1 1 (bodies.BeatReply 2) ∷
    post 4 1 1 (bodies.BeatReply 3) ∷ post 4 1 1 (bodies.AppendReply true 4) ∷
    post 4 1 1 (bodies.AppendReply true 1) ∷ post 4 1 1 (bodies.AppendReply true 6) ∷
    post 1 3 0 (bodies.ReadAnswer (key 3 1 4) 1) ∷ post 1 5 1 (bodies.Append 1 1 1 (entry 2 1 (key 1 1 3) (proposals.Plain (codes "put x 4")) ∷ entry 3 1 (key 2 1 1) (proposals.Plain (codes "put x 9")) ∷ entry 4 1 (key 1 1 4) (proposals.Plain (codes "put x 7")) ∷ entry 5 1 (key 1 1 5) (proposals.Plain (codes "put x 2")) ∷ entry 6 1 (key 1 1 6) (proposals.Plain (codes "put x 3")) ∷ [])) ∷
    post 1 2 1 (bodies.Append 0 0 1 (entry 1 1 no_key proposals.Blank ∷ entry 2 1 (key 1 1 3) (proposals.Plain (codes "put x 4")) ∷ entry 3 1 (key 2 1 1) (proposals.Plain (codes "put x 9")) ∷ entry 4 1 (key 1 1 4) (proposals.Plain (codes "put x 7")) ∷ entry 5 1 (key 1 1 5) (proposals.Plain (codes "put x 2")) ∷ entry 6 1 (key 1 1 6) (proposals.Plain (codes "put x 3")) ∷ [])) ∷ post 1 2 1 (bodies.Append 0 0 1 (entry 1 1 no_key proposals.Blank ∷ entry 2 1 (key 1 1 3) (proposals.Plain (codes "put x 4")) ∷ entry 3 1 (key 2 1 1) (proposals.Plain (codes "put x 9")) ∷ entry 4 1 (key 1 1 4) (proposals.Plain (codes "put x 7")) ∷ entry 5 1 (key 1 1 5) (proposals.Plain (codes "put x 2")) ∷ entry 6 1 (key 1 1 6) (proposals.Plain (codes "put x 3")) ∷ [])) ∷
    post 1 2 1 (bodies.Beat 0 5) ∷ post 1 3 1 (bodies.Beat 1 5) ∷
    post 1 4 1 (bodies.Beat 1 5) ∷ post 1 5 1 (bodies.Beat 1 5) ∷
    post 1 2 1 (bodies.Append 0 0 1 (entry 1 1 no_key proposals.Blank ∷ entry 2 1 (key 1 1 3) (proposals.Plain (codes "put x 4")) ∷ entry 3 1 (key 2 1 1) (proposals.Plain (codes "put x 9")) ∷ entry 4 1 (key 1 1 4) (proposals.Plain (codes "put x 7")) ∷ entry 5 1 (key 1 1 5) (proposals.Plain (codes "put x 2")) ∷ entry 6 1 (key 1 1 6) (proposals.Plain (codes "put x 3")) ∷ entry 7 1 (key 1 1 7) (proposals.Plain (codes "put x 3")) ∷ [])) ∷ post 1 3 1 (bodies.Append 1 1 1 (entry 2 1 (key 1 1 3) (proposals.Plain (codes "put x 4")) ∷ entry 3 1 (key 2 1 1) (proposals.Plain (codes "put x 9")) ∷ entry 4 1 (key 1 1 4) (proposals.Plain (codes "put x 7")) ∷ entry 5 1 (key 1 1 5) (proposals.Plain (codes "put x 2")) ∷ entry 6 1 (key 1 1 6) (proposals.Plain (codes "put x 3")) ∷ entry 7 1 (key 1 1 7) (proposals.Plain (codes "put x 3")) ∷ [])) ∷
    post 1 4 1 (bodies.Append 2 1 1 (entry 3 1 (key 2 1 1) (proposals.Plain (codes "put x 9")) ∷ entry 4 1 (key 1 1 4) (proposals.Plain (codes "put x 7")) ∷ entry 5 1 (key 1 1 5) (proposals.Plain (codes "put x 2")) ∷ entry 6 1 (key 1 1 6) (proposals.Plain (codes "put x 3")) ∷ entry 7 1 (key 1 1 7) (proposals.Plain (codes "put x 3")) ∷ [])) ∷ post 1 5 1 (bodies.Append 1 1 1 (entry 2 1 (key 1 1 3) (proposals.Plain (codes "put x 4")) ∷ entry 3 1 (key 2 1 1) (proposals.Plain (codes "put x 9")) ∷ entry 4 1 (key 1 1 4) (proposals.Plain (codes "put x 7")) ∷ entry 5 1 (key 1 1 5) (proposals.Plain (codes "put x 2")) ∷ entry 6 1 (key 1 1 6) (proposals.Plain (codes "put x 3")) ∷ entry 7 1 (key 1 1 7) (proposals.Plain (codes "put x 3")) ∷ [])) ∷
    post 1 2 1 (bodies.Append 0 0 1 (entry 1 1 no_key proposals.Blank ∷ entry 2 1 (key 1 1 3) (proposals.Plain (codes "put x 4")) ∷ entry 3 1 (key 2 1 1) (proposals.Plain (codes "put x 9")) ∷ entry 4 1 (key 1 1 4) (proposals.Plain (codes "put x 7")) ∷ entry 5 1 (key 1 1 5) (proposals.Plain (codes "put x 2")) ∷ entry 6 1 (key 1 1 6) (proposals.Plain (codes "put x 3")) ∷ entry 7 1 (key 1 1 7) (proposals.Plain (codes "put x 3")) ∷ entry 8 1 (key 1 1 8) (proposals.Plain (codes "put x 8")) ∷ [])) ∷ post 1 3 1 (bodies.Append 1 1 1 (entry 2 1 (key 1 1 3) (proposals.Plain (codes "put x 4")) ∷ entry 3 1 (key 2 1 1) (proposals.Plain (codes "put x 9")) ∷ entry 4 1 (key 1 1 4) (proposals.Plain (codes "put x 7")) ∷ entry 5 1 (key 1 1 5) (proposals.Plain (codes "put x 2")) ∷ entry 6 1 (key 1 1 6) (proposals.Plain (codes "put x 3")) ∷ entry 7 1 (key 1 1 7) (proposals.Plain (codes "put x 3")) ∷ entry 8 1 (key 1 1 8) (proposals.Plain (codes "put x 8")) ∷ [])) ∷
    post 1 4 1 (bodies.Append 2 1 1 (entry 3 1 (key 2 1 1) (proposals.Plain (codes "put x 9")) ∷ entry 4 1 (key 1 1 4) (proposals.Plain (codes "put x 7")) ∷ entry 5 1 (key 1 1 5) (proposals.Plain (codes "put x 2")) ∷ entry 6 1 (key 1 1 6) (proposals.Plain (codes "put x 3")) ∷ entry 7 1 (key 1 1 7) (proposals.Plain (codes "put x 3")) ∷ entry 8 1 (key 1 1 8) (proposals.Plain (codes "put x 8")) ∷ [])) ∷ post 1 5 1 (bodies.Append 1 1 1 (entry 2 1 (key 1 1 3) (proposals.Plain (codes "put x 4")) ∷ entry 3 1 (key 2 1 1) (proposals.Plain (codes "put x 9")) ∷ entry 4 1 (key 1 1 4) (proposals.Plain (codes "put x 7")) ∷ entry 5 1 (key 1 1 5) (proposals.Plain (codes "put x 2")) ∷ entry 6 1 (key 1 1 6) (proposals.Plain (codes "put x 3")) ∷ entry 7 1 (key 1 1 7) (proposals.Plain (codes "put x 3")) ∷ entry 8 1 (key 1 1 8) (proposals.Plain (codes "put x 8")) ∷ [])) ∷
    post 1 5 1 (bodies.Append 6 1 2 (entry 7 1 (key 1 1 7) (proposals.Plain (codes "put x 3")) ∷ entry 8 1 (key 1 1 8) (proposals.Plain (codes "put x 8")) ∷ [])) ∷ post 4 1 2 (bodies.Vote 6 1) ∷
    post 4 2 2 (bodies.Vote 6 1) ∷ post 4 3 2 (bodies.Vote 6 1) ∷
    post 4 5 2 (bodies.Vote 6 1) ∷ post 1 3 1 (bodies.SnapChunk 2 1 1 1 16 (1 ∷ 2 ∷ 3 ∷ [])) ∷
    post 1 5 1 (bodies.Append 6 1 2 (entry 7 1 (key 1 1 7) (proposals.Plain (codes "put x 3")) ∷ entry 8 1 (key 1 1 8) (proposals.Plain (codes "put x 8")) ∷ [])) ∷ post 1 5 1 (bodies.Append 6 1 2 (entry 7 1 (key 1 1 7) (proposals.Plain (codes "put x 3")) ∷ entry 8 1 (key 1 1 8) (proposals.Plain (codes "put x 8")) ∷ [])) ∷
    post 1 2 1 (bodies.Append 0 0 2 (entry 1 1 no_key proposals.Blank ∷ entry 2 1 (key 1 1 3) (proposals.Plain (codes "put x 4")) ∷ entry 3 1 (key 2 1 1) (proposals.Plain (codes "put x 9")) ∷ entry 4 1 (key 1 1 4) (proposals.Plain (codes "put x 7")) ∷ entry 5 1 (key 1 1 5) (proposals.Plain (codes "put x 2")) ∷ entry 6 1 (key 1 1 6) (proposals.Plain (codes "put x 3")) ∷ entry 7 1 (key 1 1 7) (proposals.Plain (codes "put x 3")) ∷ entry 8 1 (key 1 1 8) (proposals.Plain (codes "put x 8")) ∷ entry 9 1 (key 1 1 9) (proposals.Plain (codes "put x 3")) ∷ [])) ∷ post 1 3 1 (bodies.Append 1 1 2 (entry 2 1 (key 1 1 3) (proposals.Plain (codes "put x 4")) ∷ entry 3 1 (key 2 1 1) (proposals.Plain (codes "put x 9")) ∷ entry 4 1 (key 1 1 4) (proposals.Plain (codes "put x 7")) ∷ entry 5 1 (key 1 1 5) (proposals.Plain (codes "put x 2")) ∷ entry 6 1 (key 1 1 6) (proposals.Plain (codes "put x 3")) ∷ entry 7 1 (key 1 1 7) (proposals.Plain (codes "put x 3")) ∷ entry 8 1 (key 1 1 8) (proposals.Plain (codes "put x 8")) ∷ entry 9 1 (key 1 1 9) (proposals.Plain (codes "put x 3")) ∷ [])) ∷
    post 1 4 1 (bodies.Append 2 1 2 (entry 3 1 (key 2 1 1) (proposals.Plain (codes "put x 9")) ∷ entry 4 1 (key 1 1 4) (proposals.Plain (codes "put x 7")) ∷ entry 5 1 (key 1 1 5) (proposals.Plain (codes "put x 2")) ∷ entry 6 1 (key 1 1 6) (proposals.Plain (codes "put x 3")) ∷ entry 7 1 (key 1 1 7) (proposals.Plain (codes "put x 3")) ∷ entry 8 1 (key 1 1 8) (proposals.Plain (codes "put x 8")) ∷ entry 9 1 (key 1 1 9) (proposals.Plain (codes "put x 3")) ∷ [])) ∷ post 1 5 1 (bodies.Append 6 1 2 (entry 7 1 (key 1 1 7) (proposals.Plain (codes "put x 3")) ∷ entry 8 1 (key 1 1 8) (proposals.Plain (codes "put x 8")) ∷ entry 9 1 (key 1 1 9) (proposals.Plain (codes "put x 3")) ∷ [])) ∷
    post 1 2 1 (bodies.Append 0 0 2 (entry 1 1 no_key proposals.Blank ∷ entry 2 1 (key 1 1 3) (proposals.Plain (codes "put x 4")) ∷ entry 3 1 (key 2 1 1) (proposals.Plain (codes "put x 9")) ∷ entry 4 1 (key 1 1 4) (proposals.Plain (codes "put x 7")) ∷ entry 5 1 (key 1 1 5) (proposals.Plain (codes "put x 2")) ∷ entry 6 1 (key 1 1 6) (proposals.Plain (codes "put x 3")) ∷ entry 7 1 (key 1 1 7) (proposals.Plain (codes "put x 3")) ∷ entry 8 1 (key 1 1 8) (proposals.Plain (codes "put x 8")) ∷ entry 9 1 (key 1 1 9) (proposals.Plain (codes "put x 3")) ∷ entry 10 1 (key 1 1 10) (proposals.Plain (codes "put x 6")) ∷ [])) ∷ post 1 3 1 (bodies.Append 1 1 2 (entry 2 1 (key 1 1 3) (proposals.Plain (codes "put x 4")) ∷ entry 3 1 (key 2 1 1) (proposals.Plain (codes "put x 9")) ∷ entry 4 1 (key 1 1 4) (proposals.Plain (codes "put x 7")) ∷ entry 5 1 (key 1 1 5) (proposals.Plain (codes "put x 2")) ∷ entry 6 1 (key 1 1 6) (proposals.Plain (codes "put x 3")) ∷ entry 7 1 (key 1 1 7) (proposals.Plain (codes "put x 3")) ∷ entry 8 1 (key 1 1 8) (proposals.Plain (codes "put x 8")) ∷ entry 9 1 (key 1 1 9) (proposals.Plain (codes "put x 3")) ∷ entry 10 1 (key 1 1 10) (proposals.Plain (codes "put x 6")) ∷ [])) ∷
    post 1 4 1 (bodies.Append 2 1 2 (entry 3 1 (key 2 1 1) (proposals.Plain (codes "put x 9")) ∷ entry 4 1 (key 1 1 4) (proposals.Plain (codes "put x 7")) ∷ entry 5 1 (key 1 1 5) (proposals.Plain (codes "put x 2")) ∷ entry 6 1 (key 1 1 6) (proposals.Plain (codes "put x 3")) ∷ entry 7 1 (key 1 1 7) (proposals.Plain (codes "put x 3")) ∷ entry 8 1 (key 1 1 8) (proposals.Plain (codes "put x 8")) ∷ entry 9 1 (key 1 1 9) (proposals.Plain (codes "put x 3")) ∷ entry 10 1 (key 1 1 10) (proposals.Plain (codes "put x 6")) ∷ [])) ∷ post 1 5 1 (bodies.Append 6 1 2 (entry 7 1 (key 1 1 7) (proposals.Plain (codes "put x 3")) ∷ entry 8 1 (key 1 1 8) (proposals.Plain (codes "put x 8")) ∷ entry 9 1 (key 1 1 9) (proposals.Plain (codes "put x 3")) ∷ entry 10 1 (key 1 1 10) (proposals.Plain (codes "put x 6")) ∷ [])) ∷
    post 1 4 1 (bodies.Append 6 1 6 (entry 7 1 (key 1 1 7) (proposals.Plain (codes "put x 3")) ∷ entry 8 1 (key 1 1 8) (proposals.Plain (codes "put x 8")) ∷ entry 9 1 (key 1 1 9) (proposals.Plain (codes "put x 3")) ∷ entry 10 1 (key 1 1 10) (proposals.Plain (codes "put x 6")) ∷ [])) ∷ post 1 2 1 (bodies.Append 0 0 6 (entry 1 1 no_key proposals.Blank ∷ entry 2 1 (key 1 1 3) (proposals.Plain (codes "put x 4")) ∷ entry 3 1 (key 2 1 1) (proposals.Plain (codes "put x 9")) ∷ entry 4 1 (key 1 1 4) (proposals.Plain (codes "put x 7")) ∷ entry 5 1 (key 1 1 5) (proposals.Plain (codes "put x 2")) ∷ entry 6 1 (key 1 1 6) (proposals.Plain (codes "put x 3")) ∷ entry 7 1 (key 1 1 7) (proposals.Plain (codes "put x 3")) ∷ entry 8 1 (key 1 1 8) (proposals.Plain (codes "put x 8")) ∷ entry 9 1 (key 1 1 9) (proposals.Plain (codes "put x 3")) ∷ entry 10 1 (key 1 1 10) (proposals.Plain (codes "put x 6")) ∷ entry 11 1 (key 1 1 11) (proposals.Plain (codes "put x 9")) ∷ [])) ∷
    post 1 3 1 (bodies.Append 1 1 6 (entry 2 1 (key 1 1 3) (proposals.Plain (codes "put x 4")) ∷ entry 3 1 (key 2 1 1) (proposals.Plain (codes "put x 9")) ∷ entry 4 1 (key 1 1 4) (proposals.Plain (codes "put x 7")) ∷ entry 5 1 (key 1 1 5) (proposals.Plain (codes "put x 2")) ∷ entry 6 1 (key 1 1 6) (proposals.Plain (codes "put x 3")) ∷ entry 7 1 (key 1 1 7) (proposals.Plain (codes "put x 3")) ∷ entry 8 1 (key 1 1 8) (proposals.Plain (codes "put x 8")) ∷ entry 9 1 (key 1 1 9) (proposals.Plain (codes "put x 3")) ∷ entry 10 1 (key 1 1 10) (proposals.Plain (codes "put x 6")) ∷ entry 11 1 (key 1 1 11) (proposals.Plain (codes "put x 9")) ∷ [])) ∷ post 1 4 1 (bodies.Append 6 1 6 (entry 7 1 (key 1 1 7) (proposals.Plain (codes "put x 3")) ∷ entry 8 1 (key 1 1 8) (proposals.Plain (codes "put x 8")) ∷ entry 9 1 (key 1 1 9) (proposals.Plain (codes "put x 3")) ∷ entry 10 1 (key 1 1 10) (proposals.Plain (codes "put x 6")) ∷ entry 11 1 (key 1 1 11) (proposals.Plain (codes "put x 9")) ∷ [])) ∷
    post 1 5 1 (bodies.Append 6 1 6 (entry 7 1 (key 1 1 7) (proposals.Plain (codes "put x 3")) ∷ entry 8 1 (key 1 1 8) (proposals.Plain (codes "put x 8")) ∷ entry 9 1 (key 1 1 9) (proposals.Plain (codes "put x 3")) ∷ entry 10 1 (key 1 1 10) (proposals.Plain (codes "put x 6")) ∷ entry 11 1 (key 1 1 11) (proposals.Plain (codes "put x 9")) ∷ [])) ∷ post 4 1 2 (bodies.AppendReply false 0) ∷
    post 5 1 2 (bodies.Vote 6 1) ∷ post 5 2 2 (bodies.Vote 6 1) ∷
    post 5 3 2 (bodies.Vote 6 1) ∷ post 5 4 2 (bodies.Vote 6 1) ∷
    post 5 1 2 (bodies.AppendReply false 0) ∷ post 5 1 2 (bodies.AppendReply false 0) ∷
    post 5 1 3 (bodies.Vote 6 1) ∷ post 5 2 3 (bodies.Vote 6 1) ∷
    post 5 3 3 (bodies.Vote 6 1) ∷ post 5 4 3 (bodies.Vote 6 1) ∷
    post 1 2 1 (bodies.Append 0 0 6 (entry 1 1 no_key proposals.Blank ∷ entry 2 1 (key 1 1 3) (proposals.Plain (codes "put x 4")) ∷ entry 3 1 (key 2 1 1) (proposals.Plain (codes "put x 9")) ∷ entry 4 1 (key 1 1 4) (proposals.Plain (codes "put x 7")) ∷ entry 5 1 (key 1 1 5) (proposals.Plain (codes "put x 2")) ∷ entry 6 1 (key 1 1 6) (proposals.Plain (codes "put x 3")) ∷ entry 7 1 (key 1 1 7) (proposals.Plain (codes "put x 3")) ∷ entry 8 1 (key 1 1 8) (proposals.Plain (codes "put x 8")) ∷ entry 9 1 (key 1 1 9) (proposals.Plain (codes "put x 3")) ∷ entry 10 1 (key 1 1 10) (proposals.Plain (codes "put x 6")) ∷ entry 11 1 (key 1 1 11) (proposals.Plain (codes "put x 9")) ∷ entry 12 1 (key 1 1 12) (proposals.Plain (codes "put x 6")) ∷ [])) ∷ post 1 3 1 (bodies.Append 1 1 6 (entry 2 1 (key 1 1 3) (proposals.Plain (codes "put x 4")) ∷ entry 3 1 (key 2 1 1) (proposals.Plain (codes "put x 9")) ∷ entry 4 1 (key 1 1 4) (proposals.Plain (codes "put x 7")) ∷ entry 5 1 (key 1 1 5) (proposals.Plain (codes "put x 2")) ∷ entry 6 1 (key 1 1 6) (proposals.Plain (codes "put x 3")) ∷ entry 7 1 (key 1 1 7) (proposals.Plain (codes "put x 3")) ∷ entry 8 1 (key 1 1 8) (proposals.Plain (codes "put x 8")) ∷ entry 9 1 (key 1 1 9) (proposals.Plain (codes "put x 3")) ∷ entry 10 1 (key 1 1 10) (proposals.Plain (codes "put x 6")) ∷ entry 11 1 (key 1 1 11) (proposals.Plain (codes "put x 9")) ∷ entry 12 1 (key 1 1 12) (proposals.Plain (codes "put x 6")) ∷ [])) ∷
    post 1 4 1 (bodies.Append 6 1 6 (entry 7 1 (key 1 1 7) (proposals.Plain (codes "put x 3")) ∷ entry 8 1 (key 1 1 8) (proposals.Plain (codes "put x 8")) ∷ entry 9 1 (key 1 1 9) (proposals.Plain (codes "put x 3")) ∷ entry 10 1 (key 1 1 10) (proposals.Plain (codes "put x 6")) ∷ entry 11 1 (key 1 1 11) (proposals.Plain (codes "put x 9")) ∷ entry 12 1 (key 1 1 12) (proposals.Plain (codes "put x 6")) ∷ [])) ∷ post 1 5 1 (bodies.Append 6 1 6 (entry 7 1 (key 1 1 7) (proposals.Plain (codes "put x 3")) ∷ entry 8 1 (key 1 1 8) (proposals.Plain (codes "put x 8")) ∷ entry 9 1 (key 1 1 9) (proposals.Plain (codes "put x 3")) ∷ entry 10 1 (key 1 1 10) (proposals.Plain (codes "put x 6")) ∷ entry 11 1 (key 1 1 11) (proposals.Plain (codes "put x 9")) ∷ entry 12 1 (key 1 1 12) (proposals.Plain (codes "put x 6")) ∷ [])) ∷
    post 1 2 1 (bodies.Beat 0 6) ∷ post 1 3 1 (bodies.Beat 1 6) ∷
    post 1 4 1 (bodies.Beat 6 6) ∷ post 1 5 1 (bodies.Beat 6 6) ∷
    post 5 1 3 (bodies.BeatReply 0) ∷ post 4 5 3 (bodies.VoteReply true) ∷
    post 2 1 1 (bodies.AppendReply true 5) ∷ post 2 1 1 (bodies.BeatReply 4) ∷
    post 2 5 2 (bodies.VoteReply true) ∷ post 2 5 2 (bodies.VoteReply true) ∷
    post 2 5 2 (bodies.VoteReply true) ∷ post 2 1 3 (bodies.Vote 5 1) ∷
    post 2 3 3 (bodies.Vote 5 1) ∷ post 2 4 3 (bodies.Vote 5 1) ∷
    post 2 5 3 (bodies.Vote 5 1) ∷ post 5 2 3 (bodies.VoteReply false) ∷
    post 3 1 2 (bodies.Vote 1 1) ∷ post 3 2 2 (bodies.Vote 1 1) ∷
    post 3 4 2 (bodies.Vote 1 1) ∷ post 3 5 2 (bodies.Vote 1 1) ∷
    post 4 2 3 (bodies.VoteReply false) ∷ post 5 3 3 (bodies.VoteReply false) ∷
    post 2 1 4 (bodies.Vote 5 1) ∷ post 2 3 4 (bodies.Vote 5 1) ∷
    post 2 4 4 (bodies.Vote 5 1) ∷ post 2 5 4 (bodies.Vote 5 1) ∷
    post 2 3 4 (bodies.VoteReply false) ∷ post 3 1 3 (bodies.Vote 1 1) ∷
    post 3 2 3 (bodies.Vote 1 1) ∷ post 3 4 3 (bodies.Vote 1 1) ∷
    post 3 5 3 (bodies.Vote 1 1) ∷ post 3 2 3 (bodies.VoteReply false) ∷
    post 1 3 3 (bodies.VoteReply false) ∷ post 1 3 3 (bodies.VoteReply false) ∷
    post 4 1 4 (bodies.Vote 6 1) ∷ post 4 2 4 (bodies.Vote 6 1) ∷
    post 4 3 4 (bodies.Vote 6 1) ∷ post 4 5 4 (bodies.Vote 6 1) ∷
    post 4 3 4 (bodies.VoteReply false) ∷ post 4 2 4 (bodies.VoteReply false) ∷
    post 4 3 4 (bodies.VoteReply false) ∷ post 3 1 4 (bodies.Vote 1 1) ∷
    post 3 2 4 (bodies.Vote 1 1) ∷ post 3 4 4 (bodies.Vote 1 1) ∷
    post 3 5 4 (bodies.Vote 1 1) ∷ post 3 4 4 (bodies.VoteReply false) ∷
    post 3 1 5 (bodies.Vote 1 1) ∷ post 3 2 5 (bodies.Vote 1 1) ∷
    post 3 4 5 (bodies.Vote 1 1) ∷ post 3 5 5 (bodies.Vote 1 1) ∷
    post 1 3 4 (bodies.VoteReply false) ∷ post 1 2 5 (bodies.Vote 12 1) ∷
    post 1 3 5 (bodies.Vote 12 1) ∷ post 1 4 5 (bodies.Vote 12 1) ∷
    post 1 5 5 (bodies.Vote 12 1) ∷ post 4 1 5 (bodies.VoteReply true) ∷
    post 4 1 6 (bodies.Vote 6 1) ∷ post 4 2 6 (bodies.Vote 6 1) ∷
    post 4 3 6 (bodies.Vote 6 1) ∷ post 4 5 6 (bodies.Vote 6 1) ∷
    post 4 1 6 (bodies.VoteReply false) ∷ post 5 1 5 (bodies.VoteReply true) ∷
    post 3 4 6 (bodies.VoteReply true) ∷ post 3 1 6 (bodies.VoteReply false) ∷
    post 5 4 6 (bodies.VoteReply true) ∷ post 5 4 6 (bodies.VoteReply true) ∷
    []
