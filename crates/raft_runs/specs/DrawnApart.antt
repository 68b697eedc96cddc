-- Written by `python3 tools/raft_runs/write_runs.py`, and then laid out by `rt fmt`. Not to be edited by hand.
-- A drawn schedule of three voters whose hosts aren't the first ones.
use Rattle.std.specs.Prelude.{List, [], ◌∷◌, codes, true, false}
use Rattle.host_ids.specs.declared.entry.Entry.{Entry}
use Rattle.host_ids.specs.declared.proposal.Proposal.TheVariants as proposals
use Rattle.wire_types.specs.declared.envelope.Envelope.{Envelope}
use Rattle.wire_types.specs.declared.envelope.Body.TheVariants as bodies
use Rattle.raft_model.specs.declared.event.LaneEvent.{LaneEvent}
use Rattle.raft_model.specs.declared.event.LaneEvent.TheVariants as events
use Rattle.raft_model.specs.declared.note.Note.{Note}
use Rattle.raft_model.specs.declared.note.Note.TheVariants as notes
use Rattle.raft_model.specs.declared.role.Role.TheVariants as roles
use Rattle.raft_model.specs.Group.{Group, fresh_group}
use Rattle.raft_model.specs.Replica.{no_key}
use Rattle.raft_runs.specs.Runs.{Digest, key, entry, piece, post, left, saved_part}

-- the events
abbrev pub events_of : List LaneEvent
events_of =
    events.Ready 9 ∷ events.Ready 5 ∷ events.Ready 9 ∷ events.Ready 9 ∷
    events.Timeout 5 ∷ events.Propose 2 (key 2 1 1) (proposals.Plain (codes "put x 1")) ∷ events.Ready 5 ∷ events.Timeout 2 ∷
    events.Ask 9 (key 9 1 1) ∷ events.Ask 2 (key 2 1 2) ∷ events.Beat 5 ∷ events.Ready 2 ∷
    events.Saved 2 1 ∷ events.Deliver 2 ∷ events.Deliver 1 ∷ events.Ask 9 (key 9 1 2) ∷
    events.Deliver 1 ∷ events.Saved 5 1 ∷ events.Ready 9 ∷ events.Saved 9 1 ∷
    events.Deliver 8 ∷ events.Ready 5 ∷ events.Deliver 4 ∷ events.Ask 2 (key 2 1 3) ∷
    events.Deliver 7 ∷ events.Ready 2 ∷ events.Saved 2 2 ∷ events.Deliver 3 ∷
    events.Ready 2 ∷ events.Deliver 4 ∷ events.Propose 2 (key 2 1 4) (proposals.Plain (codes "put x 8")) ∷ events.Ready 2 ∷
    events.Ask 5 (key 5 1 1) ∷ events.Timeout 9 ∷ events.Saved 2 3 ∷ events.Ready 9 ∷
    events.Saved 9 2 ∷ events.Ready 5 ∷ events.Ready 5 ∷ events.Deliver 9 ∷
    events.Propose 2 (key 2 1 5) (proposals.Plain (codes "put x 4")) ∷ events.Deliver 11 ∷ events.Deliver 11 ∷ events.Deliver 11 ∷
    events.Deliver 8 ∷ events.Ready 2 ∷ events.Saved 2 4 ∷ events.Deliver 16 ∷
    events.Propose 2 (key 2 1 6) (proposals.Plain (codes "put x 2")) ∷ events.Timeout 9 ∷ events.Ready 2 ∷ events.Propose 2 (key 2 1 7) (proposals.Plain (codes "put x 6")) ∷
    events.Ready 9 ∷ events.Deliver 17 ∷ events.Beat 2 ∷ events.Deliver 11 ∷
    events.Saved 2 5 ∷ events.Deliver 20 ∷ events.Propose 2 (key 2 1 8) (proposals.Plain (codes "put x 8")) ∷ events.Ready 2 ∷
    events.Deliver 19 ∷ events.Deliver 13 ∷ events.Propose 2 (key 2 1 9) (proposals.Plain (codes "put x 5")) ∷ events.Propose 2 (key 2 1 10) (proposals.Plain (codes "put x 1")) ∷
    events.Ask 2 (key 2 1 11) ∷ events.Ready 5 ∷ events.Saved 5 2 ∷ events.Saved 9 3 ∷
    events.Deliver 20 ∷ events.Saved 2 6 ∷ events.Ready 2 ∷ events.Deliver 28 ∷
    events.Beat 5 ∷ events.Deliver 27 ∷ events.Deliver 33 ∷ events.Ready 5 ∷
    events.Deliver 31 ∷ events.Beat 9 ∷ events.Timeout 5 ∷ events.Deliver 37 ∷
    events.Timeout 9 ∷ events.Deliver 30 ∷ events.Ready 9 ∷ events.Deliver 2 ∷
    events.Deliver 36 ∷ events.Deliver 30 ∷ events.Ask 9 (key 9 1 3) ∷ events.Deliver 34 ∷
    events.Saved 2 7 ∷ events.Ready 2 ∷ events.Saved 2 8 ∷ events.Saved 9 4 ∷
    events.Deliver 37 ∷ events.Deliver 21 ∷ events.Propose 2 (key 2 1 12) (proposals.Plain (codes "put x 2")) ∷ events.Deliver 43 ∷
    events.Deliver 37 ∷ events.Saved 5 3 ∷ events.Deliver 41 ∷ events.Deliver 40 ∷
    events.Ready 5 ∷ events.Deliver 43 ∷ events.Saved 5 4 ∷ events.Deliver 50 ∷
    events.Deliver 48 ∷ events.Deliver 49 ∷ events.Down 5 ∷ events.Deliver 55 ∷
    events.Deliver 52 ∷ events.Deliver 55 ∷ events.Deliver 53 ∷ events.Ask 9 (key 9 1 4) ∷
    events.Ready 2 ∷ events.Saved 2 9 ∷ events.Ready 9 ∷ events.Timeout 5 ∷
    events.Ready 2 ∷ events.Restart 5 (left (saved_part 4 5 0 0 0 (entry 1 1 no_key proposals.Blank ∷ [])) 0 0 0) ∷ events.Deliver 51 ∷ events.Deliver 51 ∷
    events.Deliver 49 ∷ events.Timeout 5 ∷ events.Ready 5 ∷ events.Propose 2 (key 2 1 13) (proposals.Plain (codes "put x 8")) ∷
    events.Saved 5 1 ∷ events.Ready 5 ∷ events.Deliver 56 ∷ events.Ready 2 ∷
    events.Deliver 54 ∷ events.Propose 9 (key 9 1 5) (proposals.Plain (codes "put x 9")) ∷ events.Saved 2 10 ∷ events.Deliver 37 ∷
    events.Deliver 56 ∷ events.Timeout 2 ∷ events.Ready 2 ∷ events.Timeout 9 ∷
    events.Saved 2 11 ∷ events.Deliver 54 ∷ events.Ready 9 ∷ events.Saved 9 5 ∷
    events.Deliver 61 ∷ events.Ready 9 ∷ events.Saved 9 6 ∷ events.Deliver 60 ∷
    events.Down 5 ∷ events.Beat 2 ∷ events.Deliver 63 ∷ events.Deliver 56 ∷
    events.Beat 5 ∷ events.Ready 9 ∷ events.Deliver 65 ∷ events.Deliver 64 ∷
    events.Ready 2 ∷ events.Saved 2 12 ∷ events.Ready 2 ∷ events.Deliver 61 ∷
    events.Deliver 67 ∷ events.Ready 9 ∷ events.Deliver 61 ∷ events.Deliver 67 ∷
    events.Ready 5 ∷ events.Ready 5 ∷ events.Deliver 71 ∷ events.Ready 9 ∷
    events.Ready 9 ∷ events.Ready 2 ∷ events.Deliver 69 ∷ events.Deliver 70 ∷
    events.Deliver 68 ∷ events.Deliver 67 ∷ events.Propose 2 (key 2 1 14) (proposals.Plain (codes "put x 5")) ∷ events.Deliver 72 ∷
    events.Ready 2 ∷ events.Deliver 70 ∷ events.Timeout 5 ∷ events.Saved 2 13 ∷
    events.Ready 9 ∷ events.Saved 9 7 ∷ events.Deliver 73 ∷ events.Beat 2 ∷
    events.Deliver 75 ∷ events.Deliver 73 ∷ events.Deliver 76 ∷ events.Deliver 78 ∷
    events.Deliver 81 ∷ events.Deliver 76 ∷ events.Ready 2 ∷ events.Deliver 73 ∷
    events.Ready 9 ∷ events.Saved 2 14 ∷ events.Saved 9 8 ∷ events.Deliver 82 ∷
    events.Ready 9 ∷ events.Propose 2 (key 2 1 15) (proposals.Plain (codes "put x 3")) ∷ events.Deliver 82 ∷ events.Ready 2 ∷
    events.Deliver 79 ∷ events.Saved 9 9 ∷ events.Saved 2 15 ∷ events.Ready 9 ∷
    events.Deliver 84 ∷ events.Ready 2 ∷ events.Saved 2 16 ∷ events.Ready 5 ∷
    events.Deliver 85 ∷ events.Deliver 88 ∷ events.Deliver 85 ∷ events.Ready 5 ∷
    events.Deliver 86 ∷ events.Ready 2 ∷ events.Deliver 81 ∷ events.Ready 2 ∷
    events.Deliver 94 ∷ events.Ready 9 ∷ events.Saved 9 10 ∷ events.Deliver 91 ∷
    events.Ask 9 (key 9 1 6) ∷ events.Deliver 94 ∷ events.Propose 2 (key 2 1 16) (proposals.Plain (codes "put x 6")) ∷ events.Beat 2 ∷
    events.Deliver 100 ∷ events.Ready 2 ∷ events.Propose 2 (key 2 1 17) (proposals.Plain (codes "put x 7")) ∷ events.Deliver 98 ∷
    events.Deliver 99 ∷ events.Deliver 95 ∷ events.Saved 2 17 ∷ events.Deliver 100 ∷
    events.Deliver 100 ∷ events.Deliver 105 ∷ events.Deliver 103 ∷ events.Ready 9 ∷
    events.Saved 9 11 ∷ events.Timeout 5 ∷ events.Ready 2 ∷ events.Timeout 2 ∷
    events.Beat 2 ∷ events.Deliver 100 ∷ events.Restart 5 (left (saved_part 5 5 0 0 0 (entry 1 1 no_key proposals.Blank ∷ [])) 0 0 0) ∷ events.Deliver 106 ∷
    events.Deliver 108 ∷ events.Deliver 104 ∷ events.Deliver 100 ∷ events.Deliver 100 ∷
    events.Ready 5 ∷ events.Deliver 105 ∷ events.Saved 5 1 ∷ events.Ask 2 (key 2 1 18) ∷
    events.Ready 9 ∷ events.Deliver 106 ∷ events.Deliver 107 ∷ events.Saved 2 18 ∷
    events.Ready 2 ∷ events.Timeout 5 ∷ events.Compact 9 8 ∷ events.Deliver 116 ∷
    events.Deliver 113 ∷ events.Beat 2 ∷ events.Deliver 110 ∷ events.Saved 9 12 ∷
    events.Deliver 110 ∷ events.Timeout 2 ∷ events.Saved 2 19 ∷ events.Chunk 2 9 (piece 6 12 6 1 1 16 (1 ∷ 2 ∷ 3 ∷ [])) ∷
    events.Deliver 130 ∷ events.Installed 9 12 6 ∷ events.Propose 2 (key 2 1 19) (proposals.Plain (codes "put x 8")) ∷ events.Deliver 125 ∷
    events.Ask 9 (key 9 1 7) ∷ events.Beat 2 ∷ events.Deliver 126 ∷ events.Ready 2 ∷
    events.Deliver 125 ∷ events.Ask 5 (key 5 3 1) ∷ events.Deliver 123 ∷ events.Ready 9 ∷
    events.Deliver 127 ∷ events.Deliver 129 ∷ events.Deliver 10 ∷ events.Deliver 101 ∷
    events.Deliver 126 ∷ events.Deliver 122 ∷ events.Ready 5 ∷ events.Deliver 125 ∷
    events.Saved 9 13 ∷ events.Propose 2 (key 2 1 20) (proposals.Plain (codes "put x 2")) ∷ events.Deliver 135 ∷ events.Deliver 135 ∷
    events.Propose 2 (key 2 1 21) (proposals.Plain (codes "put x 0")) ∷ events.Deliver 136 ∷ events.Compact 2 4 ∷ events.Deliver 135 ∷
    events.Propose 9 (key 9 1 8) (proposals.Plain (codes "put x 0")) ∷ events.Deliver 138 ∷ events.Deliver 135 ∷ events.Beat 2 ∷
    events.Beat 2 ∷ events.Saved 2 20 ∷ events.Deliver 140 ∷ events.Saved 5 3 ∷
    events.Ready 2 ∷ events.Deliver 139 ∷ events.Deliver 139 ∷ events.Saved 2 21 ∷
    events.Saved 5 2 ∷ events.Deliver 170 ∷ events.Ask 9 (key 9 1 9) ∷ events.Ready 2 ∷
    events.Deliver 167 ∷ events.Ready 9 ∷ events.Saved 2 22 ∷ events.Saved 9 14 ∷
    events.Timeout 5 ∷ events.Ask 5 (key 5 3 2) ∷ events.Propose 9 (key 9 1 10) (proposals.Plain (codes "put x 0")) ∷ events.Deliver 171 ∷
    events.Ask 5 (key 5 3 3) ∷ events.Propose 9 (key 9 1 11) (proposals.Plain (codes "put x 4")) ∷ events.Ready 5 ∷ events.Deliver 175 ∷
    events.Deliver 172 ∷ events.Deliver 175 ∷ events.Deliver 170 ∷ events.Deliver 170 ∷
    events.Propose 2 (key 2 1 22) (proposals.Plain (codes "put x 8")) ∷ events.Saved 5 3 ∷ events.Ready 2 ∷ events.Ready 9 ∷
    events.Ready 2 ∷ events.Ask 9 (key 9 1 12) ∷ events.Deliver 172 ∷ events.Deliver 175 ∷
    events.Propose 2 (key 2 1 23) (proposals.Plain (codes "put x 7")) ∷ events.Deliver 173 ∷ events.Beat 9 ∷ events.Ready 5 ∷
    events.Deliver 172 ∷ events.Ask 2 (key 2 1 24) ∷ events.Deliver 176 ∷ events.Deliver 177 ∷
    events.Deliver 177 ∷ events.Ask 5 (key 5 3 4) ∷ events.Deliver 169 ∷ events.Ready 9 ∷
    events.Deliver 169 ∷ events.Ready 2 ∷ events.Deliver 172 ∷ events.Deliver 169 ∷
    events.Deliver 177 ∷ events.Saved 9 15 ∷ events.Saved 2 23 ∷ events.Propose 9 (key 9 1 13) (proposals.Plain (codes "put x 5")) ∷
    events.Ready 9 ∷ events.Deliver 173 ∷ events.Deliver 176 ∷ events.Deliver 176 ∷
    events.Ask 9 (key 9 1 14) ∷ events.Deliver 178 ∷ events.Propose 9 (key 9 1 15) (proposals.Plain (codes "put x 0")) ∷ events.Timeout 9 ∷
    events.Ready 9 ∷ events.Saved 9 16 ∷ events.Ready 9 ∷ events.Ready 2 ∷
    events.Ready 5 ∷ events.Deliver 182 ∷ events.Deliver 177 ∷ events.Ready 5 ∷
    events.Ready 2 ∷ events.Deliver 181 ∷ events.Ready 5 ∷ events.Down 9 ∷
    events.Restart 9 (left (saved_part 9 9 12 12 6 (entry 13 6 (key 2 1 17) (proposals.Plain (codes "put x 7")) ∷ [])) 0 0 12) ∷ events.Ready 5 ∷ events.Ask 5 (key 5 3 5) ∷ events.Deliver 183 ∷
    events.Deliver 181 ∷ events.Deliver 184 ∷ events.Ready 2 ∷ events.Deliver 186 ∷
    events.Saved 2 24 ∷ events.Ready 5 ∷ events.Saved 5 4 ∷ events.Ready 2 ∷
    events.Compact 9 0 ∷ events.Propose 9 (key 9 2 1) (proposals.Plain (codes "put x 7")) ∷ events.Ready 2 ∷ events.Deliver 181 ∷
    events.Ready 9 ∷ events.Deliver 78 ∷ events.Deliver 179 ∷ events.Ready 2 ∷
    events.Propose 2 (key 2 1 25) (proposals.Plain (codes "put x 2")) ∷ events.Deliver 180 ∷ events.Deliver 185 ∷ events.Ask 5 (key 5 3 6) ∷
    events.Ready 5 ∷ events.Deliver 187 ∷ events.Down 5 ∷ events.Saved 5 5 ∷
    []

-- a group that has just begun
abbrev pub begun : Group
begun =
    fresh_group 1 (2 ∷ 5 ∷ 9 ∷ [])

-- what they tell
abbrev pub notes_of : List Note
notes_of =
    notes.Idle ∷ notes.Idle ∷ notes.Idle ∷ notes.Idle ∷ notes.Dropped (key 2 1 1) ∷ notes.Pending 5 1 ∷
    notes.Dropped (key 9 1 1) ∷ notes.Dropped (key 2 1 2) ∷ notes.Idle ∷ notes.Pending 2 1 ∷ notes.Dropped (key 9 1 2) ∷ notes.Pending 9 1 ∷
    notes.Idle ∷ notes.Dropped (key 2 1 3) ∷ notes.Leader 2 1 ∷ notes.Pending 2 2 ∷ notes.Idle ∷ notes.Pending 2 3 ∷
    notes.Dropped (key 5 1 1) ∷ notes.Pending 9 2 ∷ notes.Idle ∷ notes.Idle ∷ notes.Pending 2 4 ∷ notes.Pending 2 5 ∷
    notes.Pending 9 3 ∷ notes.Pending 2 6 ∷ notes.Dropped (key 2 1 11) ∷ notes.Pending 5 2 ∷ notes.Pending 2 7 ∷ notes.Idle ∷
    notes.Pending 5 3 ∷ notes.Idle ∷ notes.Pending 9 4 ∷ notes.Dropped (key 9 1 3) ∷ notes.Pending 2 8 ∷ notes.Dropped (key 2 1 12) ∷
    notes.Pending 5 4 ∷ notes.Dropped (key 9 1 4) ∷ notes.Pending 2 9 ∷ notes.Idle ∷ notes.Idle ∷ notes.Pending 5 1 ∷
    notes.Dropped (key 2 1 13) ∷ notes.Idle ∷ notes.Pending 2 10 ∷ notes.Dropped (key 9 1 5) ∷ notes.Pending 2 11 ∷ notes.Pending 9 5 ∷
    notes.Pending 9 6 ∷ notes.Idle ∷ notes.Idle ∷ notes.Leader 2 6 ∷ notes.Pending 2 12 ∷ notes.Idle ∷
    notes.Idle ∷ notes.Idle ∷ notes.Idle ∷ notes.Idle ∷ notes.Pending 2 13 ∷ notes.Pending 9 7 ∷
    notes.Pending 2 14 ∷ notes.Pending 9 8 ∷ notes.Pending 9 9 ∷ notes.Pending 2 15 ∷ notes.Idle ∷ notes.Pending 2 16 ∷
    notes.Idle ∷ notes.Idle ∷ notes.Pending 9 10 ∷ notes.Pending 2 17 ∷ notes.Pending 9 11 ∷ notes.Pending 2 18 ∷
    notes.Idle ∷ notes.Pending 5 1 ∷ notes.Pending 9 12 ∷ notes.Pending 2 19 ∷ notes.Idle ∷ notes.Pending 2 20 ∷
    notes.Dropped (key 5 3 1) ∷ notes.Pending 9 13 ∷ notes.Pending 5 2 ∷ notes.Confirmed 2 (key 2 1 18) 12 ∷ notes.Pending 2 21 ∷ notes.Pending 2 22 ∷
    notes.Pending 9 14 ∷ notes.Dropped (key 5 3 2) ∷ notes.Dropped (key 9 1 10) ∷ notes.Dropped (key 5 3 3) ∷ notes.Dropped (key 9 1 11) ∷ notes.Pending 5 3 ∷
    notes.Dropped (key 2 1 22) ∷ notes.Idle ∷ notes.Idle ∷ notes.Idle ∷ notes.Dropped (key 9 1 12) ∷ notes.Dropped (key 2 1 23) ∷
    notes.Idle ∷ notes.Idle ∷ notes.Dropped (key 2 1 24) ∷ notes.Dropped (key 5 3 4) ∷ notes.Pending 9 15 ∷ notes.Pending 2 23 ∷
    notes.Dropped (key 9 1 13) ∷ notes.Idle ∷ notes.Dropped (key 9 1 14) ∷ notes.Dropped (key 9 1 15) ∷ notes.Pending 9 16 ∷ notes.Idle ∷
    notes.Idle ∷ notes.Idle ∷ notes.Idle ∷ notes.Idle ∷ notes.Idle ∷ notes.Idle ∷
    notes.Dropped (key 5 3 5) ∷ notes.Pending 2 24 ∷ notes.Pending 5 4 ∷ notes.Idle ∷ notes.Dropped (key 9 2 1) ∷ notes.Idle ∷
    notes.Idle ∷ notes.Idle ∷ notes.Dropped (key 2 1 25) ∷ notes.Dropped (key 5 3 6) ∷ notes.Pending 5 5 ∷
    []

-- what is decided
abbrev pub decided_of : List Entry
decided_of =
    entry 1 1 no_key proposals.Blank ∷ entry 2 1 (key 2 1 4) (proposals.Plain (codes "put x 8")) ∷
    entry 3 1 (key 2 1 5) (proposals.Plain (codes "put x 4")) ∷ entry 4 1 (key 2 1 6) (proposals.Plain (codes "put x 2")) ∷
    entry 5 1 (key 2 1 7) (proposals.Plain (codes "put x 6")) ∷ entry 6 1 (key 2 1 8) (proposals.Plain (codes "put x 8")) ∷
    entry 7 1 (key 2 1 9) (proposals.Plain (codes "put x 5")) ∷ entry 8 1 (key 2 1 10) (proposals.Plain (codes "put x 1")) ∷
    entry 9 6 no_key proposals.Blank ∷ entry 10 6 (key 2 1 14) (proposals.Plain (codes "put x 5")) ∷
    entry 11 6 (key 2 1 15) (proposals.Plain (codes "put x 3")) ∷ entry 12 6 (key 2 1 16) (proposals.Plain (codes "put x 6")) ∷
    entry 13 6 (key 2 1 17) (proposals.Plain (codes "put x 7")) ∷
    []

-- how the replicas stand
abbrev pub replicas_of : List Digest
replicas_of =
    record { term = 9; vote = 0; role = roles.Follower; leader = 0; commit = 13; front = 4; stable = 16; from = 17; round = 9; held = 0; terms = 1 ∷ 1 ∷ 1 ∷ 1 ∷ 6 ∷ 6 ∷ 6 ∷ 6 ∷ 6 ∷ 6 ∷ 6 ∷ 6 ∷ []; matched = 16 ∷ 0 ∷ 13 ∷ []; next = 9 ∷ 9 ∷ 14 ∷ []; answered = 0 ∷ 0 ∷ 6 ∷ [] } ∷
    record { term = 9; vote = 9; role = roles.Follower; leader = 0; commit = 0; front = 0; stable = 1; from = 2; round = 0; held = 0; terms = 1 ∷ []; matched = 0 ∷ 0 ∷ 0 ∷ []; next = 0 ∷ 0 ∷ 0 ∷ []; answered = 0 ∷ 0 ∷ 0 ∷ [] } ∷
    record { term = 9; vote = 9; role = roles.Follower; leader = 0; commit = 12; front = 12; stable = 13; from = 14; round = 0; held = 0; terms = 6 ∷ []; matched = 0 ∷ 0 ∷ 0 ∷ []; next = 0 ∷ 0 ∷ 0 ∷ []; answered = 0 ∷ 0 ∷ 0 ∷ [] } ∷
    []

-- what was sent
abbrev pub wire_of : List Envelope
wire_of =
    post 2 5 1 (bodies.Vote 0 0) ∷ post 2 9 1 (bodies.Vote 0 0) ∷
    post 5 2 1 (bodies.Vote 0 0) ∷ post 5 9 1 (bodies.Vote 0 0) ∷
    post 5 2 1 (bodies.VoteReply false) ∷ post 5 2 1 (bodies.VoteReply false) ∷
    post 9 2 1 (bodies.VoteReply true) ∷ post 9 5 1 (bodies.VoteReply false) ∷
    post 2 5 1 (bodies.Append 0 0 0 (entry 1 1 no_key proposals.Blank ∷ [])) ∷ post 2 9 1 (bodies.Append 0 0 0 (entry 1 1 no_key proposals.Blank ∷ [])) ∷
    post 2 5 1 (bodies.VoteReply false) ∷ post 9 5 1 (bodies.VoteReply false) ∷
    post 2 5 1 (bodies.Append 0 0 0 (entry 1 1 no_key proposals.Blank ∷ entry 2 1 (key 2 1 4) (proposals.Plain (codes "put x 8")) ∷ [])) ∷ post 2 9 1 (bodies.Append 0 0 0 (entry 1 1 no_key proposals.Blank ∷ entry 2 1 (key 2 1 4) (proposals.Plain (codes "put x 8")) ∷ [])) ∷
    post 9 2 2 (bodies.Vote 0 0) ∷ post 9 5 2 (bodies.Vote 0 0) ∷
    post 2 5 1 (bodies.Append 0 0 0 (entry 1 1 no_key proposals.Blank ∷ entry 2 1 (key 2 1 4) (proposals.Plain (codes "put x 8")) ∷ entry 3 1 (key 2 1 5) (proposals.Plain (codes "put x 4")) ∷ [])) ∷ post 2 9 1 (bodies.Append 0 0 0 (entry 1 1 no_key proposals.Blank ∷ entry 2 1 (key 2 1 4) (proposals.Plain (codes "put x 8")) ∷ entry 3 1 (key 2 1 5) (proposals.Plain (codes "put x 4")) ∷ [])) ∷
    post 2 5 1 (bodies.Append 0 0 0 (entry 1 1 no_key proposals.Blank ∷ entry 2 1 (key 2 1 4) (proposals.Plain (codes "put x 8")) ∷ entry 3 1 (key 2 1 5) (proposals.Plain (codes "put x 4")) ∷ entry 4 1 (key 2 1 6) (proposals.Plain (codes "put x 2")) ∷ [])) ∷ post 2 9 1 (bodies.Append 0 0 0 (entry 1 1 no_key proposals.Blank ∷ entry 2 1 (key 2 1 4) (proposals.Plain (codes "put x 8")) ∷ entry 3 1 (key 2 1 5) (proposals.Plain (codes "put x 4")) ∷ entry 4 1 (key 2 1 6) (proposals.Plain (codes "put x 2")) ∷ [])) ∷
    post 5 2 1 (bodies.AppendReply true 1) ∷ post 5 9 2 (bodies.VoteReply false) ∷
    post 5 2 2 (bodies.AppendReply false 0) ∷ post 5 2 2 (bodies.AppendReply false 0) ∷
    post 5 2 2 (bodies.AppendReply false 0) ∷ post 9 2 3 (bodies.Vote 0 0) ∷
    post 9 5 3 (bodies.Vote 0 0) ∷ post 9 2 3 (bodies.AppendReply false 0) ∷
    post 9 2 3 (bodies.AppendReply false 0) ∷ post 2 5 1 (bodies.Append 0 0 0 (entry 1 1 no_key proposals.Blank ∷ entry 2 1 (key 2 1 4) (proposals.Plain (codes "put x 8")) ∷ entry 3 1 (key 2 1 5) (proposals.Plain (codes "put x 4")) ∷ entry 4 1 (key 2 1 6) (proposals.Plain (codes "put x 2")) ∷ entry 5 1 (key 2 1 7) (proposals.Plain (codes "put x 6")) ∷ [])) ∷
    post 2 9 1 (bodies.Append 0 0 0 (entry 1 1 no_key proposals.Blank ∷ entry 2 1 (key 2 1 4) (proposals.Plain (codes "put x 8")) ∷ entry 3 1 (key 2 1 5) (proposals.Plain (codes "put x 4")) ∷ entry 4 1 (key 2 1 6) (proposals.Plain (codes "put x 2")) ∷ entry 5 1 (key 2 1 7) (proposals.Plain (codes "put x 6")) ∷ [])) ∷ post 2 5 1 (bodies.Beat 0 1) ∷
    post 2 9 1 (bodies.Beat 0 1) ∷ post 2 5 1 (bodies.Append 0 0 0 (entry 1 1 no_key proposals.Blank ∷ entry 2 1 (key 2 1 4) (proposals.Plain (codes "put x 8")) ∷ entry 3 1 (key 2 1 5) (proposals.Plain (codes "put x 4")) ∷ entry 4 1 (key 2 1 6) (proposals.Plain (codes "put x 2")) ∷ entry 5 1 (key 2 1 7) (proposals.Plain (codes "put x 6")) ∷ entry 6 1 (key 2 1 8) (proposals.Plain (codes "put x 8")) ∷ [])) ∷
    post 2 9 1 (bodies.Append 0 0 0 (entry 1 1 no_key proposals.Blank ∷ entry 2 1 (key 2 1 4) (proposals.Plain (codes "put x 8")) ∷ entry 3 1 (key 2 1 5) (proposals.Plain (codes "put x 4")) ∷ entry 4 1 (key 2 1 6) (proposals.Plain (codes "put x 2")) ∷ entry 5 1 (key 2 1 7) (proposals.Plain (codes "put x 6")) ∷ entry 6 1 (key 2 1 8) (proposals.Plain (codes "put x 8")) ∷ [])) ∷ post 9 2 3 (bodies.BeatReply 0) ∷
    post 9 2 3 (bodies.AppendReply false 0) ∷ post 2 5 1 (bodies.Append 0 0 0 (entry 1 1 no_key proposals.Blank ∷ entry 2 1 (key 2 1 4) (proposals.Plain (codes "put x 8")) ∷ entry 3 1 (key 2 1 5) (proposals.Plain (codes "put x 4")) ∷ entry 4 1 (key 2 1 6) (proposals.Plain (codes "put x 2")) ∷ entry 5 1 (key 2 1 7) (proposals.Plain (codes "put x 6")) ∷ entry 6 1 (key 2 1 8) (proposals.Plain (codes "put x 8")) ∷ entry 7 1 (key 2 1 9) (proposals.Plain (codes "put x 5")) ∷ [])) ∷
    post 2 9 1 (bodies.Append 0 0 0 (entry 1 1 no_key proposals.Blank ∷ entry 2 1 (key 2 1 4) (proposals.Plain (codes "put x 8")) ∷ entry 3 1 (key 2 1 5) (proposals.Plain (codes "put x 4")) ∷ entry 4 1 (key 2 1 6) (proposals.Plain (codes "put x 2")) ∷ entry 5 1 (key 2 1 7) (proposals.Plain (codes "put x 6")) ∷ entry 6 1 (key 2 1 8) (proposals.Plain (codes "put x 8")) ∷ entry 7 1 (key 2 1 9) (proposals.Plain (codes "put x 5")) ∷ [])) ∷ post 2 5 1 (bodies.Append 0 0 0 (entry 1 1 no_key proposals.Blank ∷ entry 2 1 (key 2 1 4) (proposals.Plain (codes "put x 8")) ∷ entry 3 1 (key 2 1 5) (proposals.Plain (codes "put x 4")) ∷ entry 4 1 (key 2 1 6) (proposals.Plain (codes "put x 2")) ∷ entry 5 1 (key 2 1 7) (proposals.Plain (codes "put x 6")) ∷ entry 6 1 (key 2 1 8) (proposals.Plain (codes "put x 8")) ∷ entry 7 1 (key 2 1 9) (proposals.Plain (codes "put x 5")) ∷ entry 8 1 (key 2 1 10) (proposals.Plain (codes "put x 1")) ∷ [])) ∷
    post 2 9 1 (bodies.Append 0 0 0 (entry 1 1 no_key proposals.Blank ∷ entry 2 1 (key 2 1 4) (proposals.Plain (codes "put x 8")) ∷ entry 3 1 (key 2 1 5) (proposals.Plain (codes "put x 4")) ∷ entry 4 1 (key 2 1 6) (proposals.Plain (codes "put x 2")) ∷ entry 5 1 (key 2 1 7) (proposals.Plain (codes "put x 6")) ∷ entry 6 1 (key 2 1 8) (proposals.Plain (codes "put x 8")) ∷ entry 7 1 (key 2 1 9) (proposals.Plain (codes "put x 5")) ∷ entry 8 1 (key 2 1 10) (proposals.Plain (codes "put x 1")) ∷ [])) ∷ post 9 2 4 (bodies.Vote 0 0) ∷
    post 9 5 4 (bodies.Vote 0 0) ∷ post 9 2 4 (bodies.VoteReply false) ∷
    post 5 9 3 (bodies.VoteReply false) ∷ post 9 2 4 (bodies.AppendReply false 0) ∷
    post 5 2 4 (bodies.Vote 1 1) ∷ post 5 9 4 (bodies.Vote 1 1) ∷
    post 5 2 4 (bodies.AppendReply false 0) ∷ post 5 2 4 (bodies.AppendReply false 0) ∷
    post 5 2 4 (bodies.AppendReply false 0) ∷ post 5 9 4 (bodies.VoteReply false) ∷
    post 5 2 4 (bodies.AppendReply false 0) ∷ post 5 9 4 (bodies.VoteReply false) ∷
    post 9 5 4 (bodies.VoteReply false) ∷ post 5 2 5 (bodies.Vote 1 1) ∷
    post 5 9 5 (bodies.Vote 1 1) ∷ post 2 5 5 (bodies.VoteReply false) ∷
    post 2 5 5 (bodies.VoteReply false) ∷ post 2 5 6 (bodies.Vote 8 1) ∷
    post 2 9 6 (bodies.Vote 8 1) ∷ post 9 2 5 (bodies.Vote 0 0) ∷
    post 9 5 5 (bodies.Vote 0 0) ∷ post 9 2 6 (bodies.VoteReply true) ∷
    post 2 5 6 (bodies.VoteReply false) ∷ post 2 5 6 (bodies.Append 8 1 0 (entry 9 6 no_key proposals.Blank ∷ [])) ∷
    post 2 9 6 (bodies.Append 8 1 0 (entry 9 6 no_key proposals.Blank ∷ [])) ∷ post 9 2 6 (bodies.VoteReply true) ∷
    post 9 2 6 (bodies.AppendReply false 0) ∷ post 9 2 6 (bodies.VoteReply true) ∷
    post 9 2 6 (bodies.AppendReply false 0) ∷ post 2 9 6 (bodies.Append 0 0 0 (entry 1 1 no_key proposals.Blank ∷ entry 2 1 (key 2 1 4) (proposals.Plain (codes "put x 8")) ∷ entry 3 1 (key 2 1 5) (proposals.Plain (codes "put x 4")) ∷ entry 4 1 (key 2 1 6) (proposals.Plain (codes "put x 2")) ∷ entry 5 1 (key 2 1 7) (proposals.Plain (codes "put x 6")) ∷ entry 6 1 (key 2 1 8) (proposals.Plain (codes "put x 8")) ∷ entry 7 1 (key 2 1 9) (proposals.Plain (codes "put x 5")) ∷ entry 8 1 (key 2 1 10) (proposals.Plain (codes "put x 1")) ∷ entry 9 6 no_key proposals.Blank ∷ [])) ∷
    post 2 9 6 (bodies.Append 0 0 0 (entry 1 1 no_key proposals.Blank ∷ entry 2 1 (key 2 1 4) (proposals.Plain (codes "put x 8")) ∷ entry 3 1 (key 2 1 5) (proposals.Plain (codes "put x 4")) ∷ entry 4 1 (key 2 1 6) (proposals.Plain (codes "put x 2")) ∷ entry 5 1 (key 2 1 7) (proposals.Plain (codes "put x 6")) ∷ entry 6 1 (key 2 1 8) (proposals.Plain (codes "put x 8")) ∷ entry 7 1 (key 2 1 9) (proposals.Plain (codes "put x 5")) ∷ entry 8 1 (key 2 1 10) (proposals.Plain (codes "put x 1")) ∷ entry 9 6 no_key proposals.Blank ∷ [])) ∷ post 9 2 6 (bodies.AppendReply false 0) ∷
    post 2 5 6 (bodies.Append 8 1 0 (entry 9 6 no_key proposals.Blank ∷ entry 10 6 (key 2 1 14) (proposals.Plain (codes "put x 5")) ∷ [])) ∷ post 2 9 6 (bodies.Append 0 0 0 (entry 1 1 no_key proposals.Blank ∷ entry 2 1 (key 2 1 4) (proposals.Plain (codes "put x 8")) ∷ entry 3 1 (key 2 1 5) (proposals.Plain (codes "put x 4")) ∷ entry 4 1 (key 2 1 6) (proposals.Plain (codes "put x 2")) ∷ entry 5 1 (key 2 1 7) (proposals.Plain (codes "put x 6")) ∷ entry 6 1 (key 2 1 8) (proposals.Plain (codes "put x 8")) ∷ entry 7 1 (key 2 1 9) (proposals.Plain (codes "put x 5")) ∷ entry 8 1 (key 2 1 10) (proposals.Plain (codes "put x 1")) ∷ entry 9 6 no_key proposals.Blank ∷ entry 10 6 (key 2 1 14) (proposals.Plain (codes "put x 5")) ∷ [])) ∷
    post 9 2 6 (bodies.AppendReply true 9) ∷ post 9 2 6 (bodies.AppendReply true 9) ∷
    post 2 5 6 (bodies.Beat 0 1) ∷ post 2 9 6 (bodies.Beat 0 1) ∷
    post 9 2 6 (bodies.AppendReply true 9) ∷ post 2 9 6 (bodies.Append 9 6 9 (entry 10 6 (key 2 1 14) (proposals.Plain (codes "put x 5")) ∷ [])) ∷
    post 2 9 6 (bodies.Append 9 6 9 (entry 10 6 (key 2 1 14) (proposals.Plain (codes "put x 5")) ∷ [])) ∷ post 9 2 6 (bodies.AppendReply true 10) ∷
    post 9 2 6 (bodies.AppendReply true 10) ∷ post 9 2 6 (bodies.AppendReply true 9) ∷
    post 9 2 6 (bodies.AppendReply true 10) ∷ post 9 2 6 (bodies.AppendReply true 10) ∷
    post 2 5 6 (bodies.Append 8 1 9 (entry 9 6 no_key proposals.Blank ∷ entry 10 6 (key 2 1 14) (proposals.Plain (codes "put x 5")) ∷ entry 11 6 (key 2 1 15) (proposals.Plain (codes "put x 3")) ∷ [])) ∷ post 2 9 6 (bodies.Append 9 6 9 (entry 10 6 (key 2 1 14) (proposals.Plain (codes "put x 5")) ∷ entry 11 6 (key 2 1 15) (proposals.Plain (codes "put x 3")) ∷ [])) ∷
    post 2 9 6 (bodies.Append 10 6 10 (entry 11 6 (key 2 1 15) (proposals.Plain (codes "put x 3")) ∷ [])) ∷ post 2 9 6 (bodies.Append 10 6 10 (entry 11 6 (key 2 1 15) (proposals.Plain (codes "put x 3")) ∷ [])) ∷
    post 2 9 6 (bodies.Append 10 6 10 (entry 11 6 (key 2 1 15) (proposals.Plain (codes "put x 3")) ∷ [])) ∷ post 2 9 6 (bodies.Append 10 6 10 (entry 11 6 (key 2 1 15) (proposals.Plain (codes "put x 3")) ∷ [])) ∷
    post 2 9 6 (bodies.Append 10 6 10 (entry 11 6 (key 2 1 15) (proposals.Plain (codes "put x 3")) ∷ [])) ∷ post 2 9 6 (bodies.Append 10 6 10 (entry 11 6 (key 2 1 15) (proposals.Plain (codes "put x 3")) ∷ [])) ∷
    post 9 2 6 (bodies.AppendReply true 11) ∷ post 9 2 6 (bodies.AppendReply true 11) ∷
    post 9 2 0 (bodies.ReadAsk (key 9 1 6)) ∷ post 9 2 6 (bodies.AppendReply true 11) ∷
    post 9 2 6 (bodies.AppendReply true 11) ∷ post 2 5 6 (bodies.Append 8 1 10 (entry 9 6 no_key proposals.Blank ∷ entry 10 6 (key 2 1 14) (proposals.Plain (codes "put x 5")) ∷ entry 11 6 (key 2 1 15) (proposals.Plain (codes "put x 3")) ∷ entry 12 6 (key 2 1 16) (proposals.Plain (codes "put x 6")) ∷ [])) ∷
    post 2 9 6 (bodies.Append 10 6 10 (entry 11 6 (key 2 1 15) (proposals.Plain (codes "put x 3")) ∷ entry 12 6 (key 2 1 16) (proposals.Plain (codes "put x 6")) ∷ [])) ∷ post 2 5 6 (bodies.Beat 0 2) ∷
    post 2 9 6 (bodies.Beat 10 2) ∷ post 2 9 6 (bodies.Append 11 6 11 (entry 12 6 (key 2 1 16) (proposals.Plain (codes "put x 6")) ∷ [])) ∷
    post 9 2 6 (bodies.BeatReply 2) ∷ post 9 2 6 (bodies.AppendReply true 12) ∷
    post 5 2 6 (bodies.BeatReply 2) ∷ post 2 5 6 (bodies.Append 8 1 11 (entry 9 6 no_key proposals.Blank ∷ entry 10 6 (key 2 1 14) (proposals.Plain (codes "put x 5")) ∷ entry 11 6 (key 2 1 15) (proposals.Plain (codes "put x 3")) ∷ entry 12 6 (key 2 1 16) (proposals.Plain (codes "put x 6")) ∷ entry 13 6 (key 2 1 17) (proposals.Plain (codes "put x 7")) ∷ [])) ∷
    post 2 9 6 (bodies.Append 11 6 11 (entry 12 6 (key 2 1 16) (proposals.Plain (codes "put x 6")) ∷ entry 13 6 (key 2 1 17) (proposals.Plain (codes "put x 7")) ∷ [])) ∷ post 2 9 6 (bodies.Append 11 6 11 (entry 12 6 (key 2 1 16) (proposals.Plain (codes "put x 6")) ∷ entry 13 6 (key 2 1 17) (proposals.Plain (codes "put x 7")) ∷ [])) ∷
    post 2 5 6 (bodies.Beat 0 3) ∷ post 2 9 6 (bodies.Beat 11 3) ∷
    post 2 9 6 (bodies.Append 11 6 11 (entry 12 6 (key 2 1 16) (proposals.Plain (codes "put x 6")) ∷ entry 13 6 (key 2 1 17) (proposals.Plain (codes "put x 7")) ∷ [])) ∷ post 2 9 6 (bodies.Append 11 6 11 (entry 12 6 (key 2 1 16) (proposals.Plain (codes "put x 6")) ∷ entry 13 6 (key 2 1 17) (proposals.Plain (codes "put x 7")) ∷ [])) ∷
    post 9 2 6 (bodies.AppendReply true 12) ∷ post 9 2 6 (bodies.BeatReply 2) ∷
    post 2 5 6 (bodies.Beat 0 4) ∷ post 2 9 6 (bodies.Beat 11 4) ∷
    post 2 9 6 (bodies.Append 11 6 11 (entry 12 6 (key 2 1 16) (proposals.Plain (codes "put x 6")) ∷ entry 13 6 (key 2 1 17) (proposals.Plain (codes "put x 7")) ∷ [])) ∷ post 2 9 6 (bodies.Append 12 6 12 (entry 13 6 (key 2 1 17) (proposals.Plain (codes "put x 7")) ∷ [])) ∷
    post 2 9 6 (bodies.Append 12 6 12 (entry 13 6 (key 2 1 17) (proposals.Plain (codes "put x 7")) ∷ [])) ∷ post 2 9 6 (bodies.Append 12 6 12 (entry 13 6 (key 2 1 17) (proposals.Plain (codes "put x 7")) ∷ [])) ∷
    post 2 5 6 (bodies.Beat 0 5) ∷ post 2 9 6 (bodies.Beat 12 5) ∷
    post 2 9 6 (bodies.Append 12 6 12 (entry 13 6 (key 2 1 17) (proposals.Plain (codes "put x 7")) ∷ [])) ∷ post 2 5 6 (bodies.Beat 0 6) ∷
    post 2 9 6 (bodies.Beat 12 6) ∷ post 2 9 6 (bodies.SnapChunk 12 6 1 1 16 (1 ∷ 2 ∷ 3 ∷ [])) ∷
    post 9 2 6 (bodies.AppendReply true 12) ∷ post 9 2 6 (bodies.AppendReply true 13) ∷
    post 9 2 6 (bodies.SnapReply 12 2 true) ∷ post 9 2 0 (bodies.ReadAsk (key 9 1 7)) ∷
    post 9 2 6 (bodies.BeatReply 5) ∷ post 9 2 6 (bodies.AppendReply true 13) ∷
    post 9 2 6 (bodies.AppendReply true 13) ∷ post 9 2 6 (bodies.BeatReply 6) ∷
    post 9 2 6 (bodies.AppendReply false 0) ∷ post 9 2 6 (bodies.BeatReply 5) ∷
    post 9 2 6 (bodies.AppendReply true 13) ∷ post 9 2 0 (bodies.Propose (key 9 1 8) (proposals.Plain (codes "put x 0"))) ∷
    post 2 5 6 (bodies.Append 8 1 12 (entry 9 6 no_key proposals.Blank ∷ entry 10 6 (key 2 1 14) (proposals.Plain (codes "put x 5")) ∷ entry 11 6 (key 2 1 15) (proposals.Plain (codes "put x 3")) ∷ entry 12 6 (key 2 1 16) (proposals.Plain (codes "put x 6")) ∷ entry 13 6 (key 2 1 17) (proposals.Plain (codes "put x 7")) ∷ entry 14 6 (key 2 1 19) (proposals.Plain (codes "put x 8")) ∷ [])) ∷ post 2 9 6 (bodies.Append 12 6 12 (entry 13 6 (key 2 1 17) (proposals.Plain (codes "put x 7")) ∷ entry 14 6 (key 2 1 19) (proposals.Plain (codes "put x 8")) ∷ [])) ∷
    post 2 5 6 (bodies.Beat 0 7) ∷ post 2 9 6 (bodies.Beat 12 7) ∷
    post 2 9 6 (bodies.Append 12 6 12 (entry 13 6 (key 2 1 17) (proposals.Plain (codes "put x 7")) ∷ entry 14 6 (key 2 1 19) (proposals.Plain (codes "put x 8")) ∷ [])) ∷ post 2 5 6 (bodies.Append 8 1 12 (entry 9 6 no_key proposals.Blank ∷ entry 10 6 (key 2 1 14) (proposals.Plain (codes "put x 5")) ∷ entry 11 6 (key 2 1 15) (proposals.Plain (codes "put x 3")) ∷ entry 12 6 (key 2 1 16) (proposals.Plain (codes "put x 6")) ∷ entry 13 6 (key 2 1 17) (proposals.Plain (codes "put x 7")) ∷ entry 14 6 (key 2 1 19) (proposals.Plain (codes "put x 8")) ∷ entry 15 6 (key 2 1 20) (proposals.Plain (codes "put x 2")) ∷ [])) ∷
    post 2 9 6 (bodies.Append 12 6 12 (entry 13 6 (key 2 1 17) (proposals.Plain (codes "put x 7")) ∷ entry 14 6 (key 2 1 19) (proposals.Plain (codes "put x 8")) ∷ entry 15 6 (key 2 1 20) (proposals.Plain (codes "put x 2")) ∷ [])) ∷ post 2 9 0 (bodies.ReadAnswer (key 9 1 6) 11) ∷
    post 2 9 6 (bodies.Append 12 6 12 (entry 13 6 (key 2 1 17) (proposals.Plain (codes "put x 7")) ∷ entry 14 6 (key 2 1 19) (proposals.Plain (codes "put x 8")) ∷ entry 15 6 (key 2 1 20) (proposals.Plain (codes "put x 2")) ∷ [])) ∷ post 2 9 6 (bodies.Append 12 6 12 (entry 13 6 (key 2 1 17) (proposals.Plain (codes "put x 7")) ∷ entry 14 6 (key 2 1 19) (proposals.Plain (codes "put x 8")) ∷ entry 15 6 (key 2 1 20) (proposals.Plain (codes "put x 2")) ∷ [])) ∷
    post 2 5 6 (bodies.Append 8 1 12 (entry 9 6 no_key proposals.Blank ∷ entry 10 6 (key 2 1 14) (proposals.Plain (codes "put x 5")) ∷ entry 11 6 (key 2 1 15) (proposals.Plain (codes "put x 3")) ∷ entry 12 6 (key 2 1 16) (proposals.Plain (codes "put x 6")) ∷ entry 13 6 (key 2 1 17) (proposals.Plain (codes "put x 7")) ∷ entry 14 6 (key 2 1 19) (proposals.Plain (codes "put x 8")) ∷ entry 15 6 (key 2 1 20) (proposals.Plain (codes "put x 2")) ∷ entry 16 6 (key 2 1 21) (proposals.Plain (codes "put x 0")) ∷ [])) ∷ post 2 9 6 (bodies.Append 12 6 12 (entry 13 6 (key 2 1 17) (proposals.Plain (codes "put x 7")) ∷ entry 14 6 (key 2 1 19) (proposals.Plain (codes "put x 8")) ∷ entry 15 6 (key 2 1 20) (proposals.Plain (codes "put x 2")) ∷ entry 16 6 (key 2 1 21) (proposals.Plain (codes "put x 0")) ∷ [])) ∷
    post 2 9 6 (bodies.Append 13 6 13 (entry 14 6 (key 2 1 19) (proposals.Plain (codes "put x 8")) ∷ entry 15 6 (key 2 1 20) (proposals.Plain (codes "put x 2")) ∷ entry 16 6 (key 2 1 21) (proposals.Plain (codes "put x 0")) ∷ [])) ∷ post 2 9 6 (bodies.Append 13 6 13 (entry 14 6 (key 2 1 19) (proposals.Plain (codes "put x 8")) ∷ entry 15 6 (key 2 1 20) (proposals.Plain (codes "put x 2")) ∷ entry 16 6 (key 2 1 21) (proposals.Plain (codes "put x 0")) ∷ [])) ∷
    post 2 9 6 (bodies.Append 13 6 13 (entry 14 6 (key 2 1 19) (proposals.Plain (codes "put x 8")) ∷ entry 15 6 (key 2 1 20) (proposals.Plain (codes "put x 2")) ∷ entry 16 6 (key 2 1 21) (proposals.Plain (codes "put x 0")) ∷ [])) ∷ post 2 9 6 (bodies.Append 13 6 13 (entry 14 6 (key 2 1 19) (proposals.Plain (codes "put x 8")) ∷ entry 15 6 (key 2 1 20) (proposals.Plain (codes "put x 2")) ∷ entry 16 6 (key 2 1 21) (proposals.Plain (codes "put x 0")) ∷ [])) ∷
    post 2 5 6 (bodies.Beat 0 8) ∷ post 2 9 6 (bodies.Beat 13 8) ∷
    post 2 5 6 (bodies.Beat 0 9) ∷ post 2 9 6 (bodies.Beat 13 9) ∷
    post 2 9 6 (bodies.Append 13 6 13 (entry 14 6 (key 2 1 19) (proposals.Plain (codes "put x 8")) ∷ entry 15 6 (key 2 1 20) (proposals.Plain (codes "put x 2")) ∷ entry 16 6 (key 2 1 21) (proposals.Plain (codes "put x 0")) ∷ [])) ∷ post 2 9 6 (bodies.Append 13 6 13 (entry 14 6 (key 2 1 19) (proposals.Plain (codes "put x 8")) ∷ entry 15 6 (key 2 1 20) (proposals.Plain (codes "put x 2")) ∷ entry 16 6 (key 2 1 21) (proposals.Plain (codes "put x 0")) ∷ [])) ∷
    post 2 9 6 (bodies.Append 13 6 13 (entry 14 6 (key 2 1 19) (proposals.Plain (codes "put x 8")) ∷ entry 15 6 (key 2 1 20) (proposals.Plain (codes "put x 2")) ∷ entry 16 6 (key 2 1 21) (proposals.Plain (codes "put x 0")) ∷ [])) ∷ post 5 2 7 (bodies.Vote 1 1) ∷
    post 5 9 7 (bodies.Vote 1 1) ∷ post 5 2 7 (bodies.BeatReply 0) ∷
    post 5 2 7 (bodies.AppendReply false 0) ∷ post 5 2 7 (bodies.AppendReply false 0) ∷
    post 5 2 7 (bodies.BeatReply 0) ∷ post 5 2 7 (bodies.BeatReply 0) ∷
    post 5 2 7 (bodies.BeatReply 0) ∷ post 9 2 0 (bodies.ReadAsk (key 9 1 9)) ∷
    post 9 5 7 (bodies.VoteReply false) ∷ post 5 2 8 (bodies.Vote 1 1) ∷
    post 5 9 8 (bodies.Vote 1 1) ∷ post 9 5 8 (bodies.VoteReply false) ∷
    post 9 5 8 (bodies.VoteReply false) ∷ post 9 5 8 (bodies.VoteReply false) ∷
    post 2 5 8 (bodies.VoteReply false) ∷ post 2 5 8 (bodies.VoteReply false) ∷
    post 2 5 8 (bodies.VoteReply false) ∷ post 9 2 9 (bodies.Vote 13 6) ∷
    post 9 5 9 (bodies.Vote 13 6) ∷ post 9 5 9 (bodies.VoteReply false) ∷
    post 2 9 9 (bodies.VoteReply false) ∷
    []
