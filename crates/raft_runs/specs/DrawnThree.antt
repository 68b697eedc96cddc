-- Written by `python3 tools/raft_runs/write_runs.py`, and then laid out by `rt fmt`. Not to be edited by hand.
-- A drawn schedule of three voters.
use Rattle.std.specs.Prelude.{List, [], ◌∷◌, codes, true, false}
use Rattle.host_ids.specs.declared.entry.Entry.{Entry}
use Rattle.host_ids.specs.declared.proposal.Proposal.TheVariants as proposals
use Rattle.wire_types.specs.declared.envelope.Envelope.{Envelope}
use Rattle.wire_types.specs.declared.envelope.Body.TheVariants as bodies
use Rattle.raft_model.specs.declared.event.LaneEvent.{LaneEvent}
use Rattle.raft_model.specs.declared.event.LaneEvent.TheVariants as events
use Rattle.raft_model.specs.declared.note.Note.{Note}
use Rattle.raft_model.specs.declared.note.Note.TheVariants as notes
use Rattle.raft_model.specs.declared.role.Role.TheVariants as roles
use Rattle.raft_model.specs.Group.{Group, fresh_group}
use Rattle.raft_model.specs.Replica.{no_key}
use Rattle.raft_runs.specs.Runs.{Digest, key, entry, piece, post, left, saved_part}

-- the events
abbrev pub events_of : List LaneEvent
events_of =
    events.Timeout 3 ∷ events.Propose 3 (key 3 1 1) (proposals.Plain (codes "put x 9")) ∷ events.Ready 3 ∷ events.Propose 3 (key 3 1 2) (proposals.Plain (codes "put x 8")) ∷
    events.Saved 3 1 ∷ events.Propose 2 (key 2 1 1) (proposals.Plain (codes "put x 9")) ∷ events.Ready 3 ∷ events.Ready 2 ∷
    events.Beat 3 ∷ events.Ask 2 (key 2 1 2) ∷ events.Ready 1 ∷ events.Ready 3 ∷
    events.Ready 2 ∷ events.Deliver 3 ∷ events.Deliver 3 ∷ events.Deliver 2 ∷
    events.Deliver 3 ∷ events.Deliver 2 ∷ events.Deliver 2 ∷ events.Deliver 2 ∷
    events.Timeout 1 ∷ events.Ready 2 ∷ events.Beat 2 ∷ events.Propose 2 (key 2 1 3) (proposals.Plain (codes "put x 8")) ∷
    events.Deliver 2 ∷ events.Deliver 3 ∷ events.Ready 1 ∷ events.Timeout 3 ∷
    events.Deliver 3 ∷ events.Deliver 2 ∷ events.Propose 3 (key 3 1 3) (proposals.Plain (codes "put x 3")) ∷ events.Timeout 3 ∷
    events.Saved 2 1 ∷ events.Deliver 5 ∷ events.Deliver 2 ∷ events.Ready 3 ∷
    events.Deliver 1 ∷ events.Deliver 6 ∷ events.Timeout 3 ∷ events.Saved 1 1 ∷
    events.Saved 3 3 ∷ events.Deliver 6 ∷ events.Deliver 12 ∷ events.Saved 3 2 ∷
    events.Deliver 8 ∷ events.Ready 3 ∷ events.Deliver 9 ∷ events.Deliver 16 ∷
    events.Ready 2 ∷ events.Deliver 12 ∷ events.Deliver 3 ∷ events.Deliver 9 ∷
    events.Deliver 8 ∷ events.Saved 2 2 ∷ events.Propose 3 (key 3 1 4) (proposals.Plain (codes "put x 0")) ∷ events.Saved 3 3 ∷
    events.Propose 3 (key 3 1 5) (proposals.Plain (codes "put x 0")) ∷ events.Deliver 14 ∷ events.Ready 3 ∷ events.Timeout 1 ∷
    events.Deliver 20 ∷ events.Deliver 17 ∷ events.Ready 1 ∷ events.Ask 3 (key 3 1 6) ∷
    events.Propose 1 (key 1 1 1) (proposals.Plain (codes "put x 6")) ∷ events.Deliver 17 ∷ events.Deliver 17 ∷ events.Saved 1 2 ∷
    events.Beat 1 ∷ events.Deliver 21 ∷ events.Deliver 22 ∷ events.Deliver 24 ∷
    events.Ready 1 ∷ events.Deliver 24 ∷ events.Deliver 24 ∷ events.Saved 1 3 ∷
    events.Deliver 22 ∷ events.Deliver 25 ∷ events.Ready 2 ∷ events.Ready 2 ∷
    events.Timeout 1 ∷ events.Ready 1 ∷ events.Deliver 22 ∷ events.Deliver 24 ∷
    events.Down 3 ∷ events.Saved 1 4 ∷ events.Deliver 27 ∷ events.Deliver 27 ∷
    events.Deliver 27 ∷ events.Ready 2 ∷ events.Saved 2 3 ∷ events.Ready 3 ∷
    events.Deliver 30 ∷ events.Ready 1 ∷ events.Deliver 23 ∷ events.Saved 1 5 ∷
    events.Propose 1 (key 1 1 2) (proposals.Plain (codes "put x 8")) ∷ events.Deliver 2 ∷ events.Propose 1 (key 1 1 3) (proposals.Plain (codes "put x 0")) ∷ events.Deliver 32 ∷
    events.Deliver 28 ∷ events.Ready 1 ∷ events.Saved 1 6 ∷ events.Deliver 38 ∷
    events.Ask 3 (key 3 1 7) ∷ events.Ready 2 ∷ events.Saved 2 4 ∷ events.Deliver 33 ∷
    events.Ask 2 (key 2 1 4) ∷ events.Deliver 39 ∷ events.Deliver 39 ∷ events.Restart 3 (left (saved_part 4 3 0 0 0 ([])) 0 0 0) ∷
    events.Ready 1 ∷ events.Deliver 38 ∷ events.Deliver 34 ∷ events.Deliver 36 ∷
    events.Compact 1 1 ∷ events.Saved 1 7 ∷ events.Ask 3 (key 3 2 1) ∷ events.Beat 1 ∷
    events.Ready 1 ∷ events.Deliver 42 ∷ events.Deliver 36 ∷ events.Saved 1 8 ∷
    events.Ready 3 ∷ events.Propose 1 (key 1 1 4) (proposals.Plain (codes "put x 9")) ∷ events.Deliver 38 ∷ events.Deliver 36 ∷
    events.Ready 2 ∷ events.Timeout 3 ∷ events.Ready 1 ∷ events.Deliver 43 ∷
    events.Saved 2 5 ∷ events.Saved 1 9 ∷ events.Saved 3 1 ∷ events.Ready 3 ∷
    events.Ask 1 (key 1 1 5) ∷ events.Saved 3 2 ∷ events.Propose 1 (key 1 1 6) (proposals.Plain (codes "put x 2")) ∷ events.Propose 1 (key 1 1 7) (proposals.Plain (codes "put x 2")) ∷
    events.Ready 1 ∷ events.Deliver 49 ∷ events.Timeout 2 ∷ events.Deliver 54 ∷
    events.Timeout 3 ∷ events.Propose 1 (key 1 1 8) (proposals.Plain (codes "put x 8")) ∷ events.Ask 1 (key 1 1 9) ∷ events.Deliver 52 ∷
    events.Deliver 57 ∷ events.Beat 1 ∷ events.Ready 2 ∷ events.Saved 1 10 ∷
    events.Deliver 55 ∷ events.Deliver 52 ∷ events.Deliver 58 ∷ events.Ready 3 ∷
    events.Deliver 57 ∷ events.Ask 1 (key 1 1 10) ∷ events.Saved 2 6 ∷ events.Ready 1 ∷
    events.Timeout 1 ∷ events.Propose 1 (key 1 1 11) (proposals.Plain (codes "put x 5")) ∷ events.Deliver 59 ∷ events.Deliver 46 ∷
    events.Propose 1 (key 1 1 12) (proposals.Plain (codes "put x 3")) ∷ events.Deliver 65 ∷ events.Deliver 60 ∷ events.Deliver 63 ∷
    events.Saved 1 11 ∷ events.Deliver 70 ∷ events.Propose 3 (key 3 2 2) (proposals.Plain (codes "put x 5")) ∷ events.Deliver 58 ∷
    events.Deliver 79 ∷ events.Saved 3 3 ∷ events.Deliver 75 ∷ events.Ready 1 ∷
    events.Timeout 2 ∷ events.Deliver 14 ∷ events.Deliver 81 ∷ events.Deliver 80 ∷
    events.Deliver 79 ∷ events.Deliver 76 ∷ events.Ready 2 ∷ events.Saved 2 7 ∷
    events.Deliver 79 ∷ events.Saved 1 12 ∷ events.Deliver 92 ∷ events.Deliver 90 ∷
    events.Deliver 87 ∷ events.Ready 1 ∷ events.Deliver 95 ∷ events.Deliver 87 ∷
    events.Saved 1 13 ∷ events.Deliver 90 ∷ events.Deliver 95 ∷ events.Deliver 90 ∷
    events.Deliver 92 ∷ events.Ready 3 ∷ events.Deliver 93 ∷ events.Propose 1 (key 1 1 13) (proposals.Plain (codes "put x 7")) ∷
    events.Ready 3 ∷ events.Deliver 95 ∷ events.Deliver 97 ∷ events.Deliver 94 ∷
    events.Timeout 3 ∷ events.Ask 1 (key 1 1 14) ∷ events.Ready 3 ∷ events.Saved 3 4 ∷
    events.Deliver 94 ∷ events.Propose 2 (key 2 1 5) (proposals.Plain (codes "put x 2")) ∷ events.Ready 1 ∷ events.Deliver 101 ∷
    events.Ready 2 ∷ events.Deliver 98 ∷ events.Saved 2 8 ∷ events.Ready 1 ∷
    events.Propose 3 (key 3 2 3) (proposals.Plain (codes "put x 4")) ∷ events.Deliver 94 ∷ events.Deliver 101 ∷ events.Ready 2 ∷
    events.Deliver 96 ∷ events.Timeout 1 ∷ events.Propose 2 (key 2 1 6) (proposals.Plain (codes "put x 1")) ∷ events.Deliver 97 ∷
    events.Ready 1 ∷ events.Deliver 100 ∷ events.Propose 2 (key 2 1 7) (proposals.Plain (codes "put x 0")) ∷ events.Propose 2 (key 2 1 8) (proposals.Plain (codes "put x 9")) ∷
    events.Saved 1 14 ∷ events.Deliver 103 ∷ events.Ready 3 ∷ events.Propose 3 (key 3 2 4) (proposals.Plain (codes "put x 2")) ∷
    events.Ask 1 (key 1 1 15) ∷ events.Ask 3 (key 3 2 5) ∷ events.Timeout 1 ∷ events.Deliver 101 ∷
    events.Timeout 1 ∷ events.Deliver 102 ∷ events.Deliver 104 ∷ events.Deliver 98 ∷
    events.Saved 3 5 ∷ events.Deliver 110 ∷ events.Ready 1 ∷ events.Deliver 106 ∷
    events.Deliver 102 ∷ events.Saved 1 15 ∷ events.Beat 3 ∷ events.Ready 2 ∷
    events.Compact 1 1 ∷ events.Saved 2 9 ∷ events.Deliver 103 ∷ events.Deliver 115 ∷
    events.Deliver 108 ∷ events.Deliver 113 ∷ events.Deliver 110 ∷ events.Timeout 2 ∷
    events.Propose 3 (key 3 2 6) (proposals.Plain (codes "put x 3")) ∷ events.Deliver 114 ∷ events.Ready 2 ∷ events.Ready 3 ∷
    events.Down 3 ∷ events.Saved 2 10 ∷ events.Ready 2 ∷ events.Ready 2 ∷
    events.Ready 2 ∷ events.Beat 2 ∷ events.Deliver 113 ∷ events.Saved 3 6 ∷
    events.Deliver 115 ∷ events.Ready 1 ∷ events.Deliver 116 ∷ events.Deliver 118 ∷
    events.Compact 1 3 ∷ events.Ask 1 (key 1 1 16) ∷ events.Deliver 118 ∷ events.Deliver 117 ∷
    events.Deliver 118 ∷ events.Beat 1 ∷ events.Deliver 118 ∷ events.Propose 2 (key 2 1 9) (proposals.Plain (codes "put x 8")) ∷
    events.Ask 2 (key 2 1 10) ∷ events.Ready 1 ∷ events.Deliver 114 ∷ events.Beat 3 ∷
    events.Deliver 120 ∷ events.Deliver 119 ∷ events.Propose 2 (key 2 1 11) (proposals.Plain (codes "put x 1")) ∷ events.Ask 2 (key 2 1 12) ∷
    events.Deliver 119 ∷ events.Deliver 119 ∷ events.Propose 1 (key 1 1 17) (proposals.Plain (codes "put x 8")) ∷ events.Deliver 114 ∷
    events.Deliver 119 ∷ events.Saved 1 16 ∷ events.Deliver 118 ∷ events.Deliver 125 ∷
    events.Ready 2 ∷ events.Propose 2 (key 2 1 13) (proposals.Plain (codes "put x 9")) ∷ events.Saved 2 11 ∷ events.Propose 2 (key 2 1 14) (proposals.Plain (codes "put x 5")) ∷
    events.Deliver 127 ∷ events.Deliver 124 ∷ events.Ask 1 (key 1 1 18) ∷ events.Ready 2 ∷
    events.Saved 2 12 ∷ events.Propose 2 (key 2 1 15) (proposals.Plain (codes "put x 9")) ∷ events.Ready 2 ∷ events.Saved 2 13 ∷
    events.Ready 2 ∷ events.Deliver 123 ∷ events.Ready 2 ∷ events.Deliver 128 ∷
    events.Deliver 133 ∷ events.Propose 2 (key 2 1 16) (proposals.Plain (codes "put x 7")) ∷ events.Deliver 128 ∷ events.Beat 2 ∷
    events.Ready 2 ∷ events.Saved 2 14 ∷ events.Restart 3 (left (saved_part 10 0 4 0 0 (entry 1 5 no_key proposals.Blank ∷ entry 2 5 (key 1 1 2) (proposals.Plain (codes "put x 8")) ∷ entry 3 5 (key 1 1 3) (proposals.Plain (codes "put x 0")) ∷ entry 4 8 no_key proposals.Blank ∷ entry 5 8 (key 3 2 4) (proposals.Plain (codes "put x 2")) ∷ entry 6 8 (key 3 2 6) (proposals.Plain (codes "put x 3")) ∷ [])) 0 0 0) ∷ events.Beat 2 ∷
    events.Ready 2 ∷ events.Ready 2 ∷ events.Chunk 2 3 (piece 11 1 5 1 1 16 (1 ∷ 2 ∷ 3 ∷ [])) ∷ events.Deliver 142 ∷
    events.Ready 3 ∷ events.Timeout 3 ∷ events.Deliver 137 ∷ events.Saved 3 1 ∷
    events.Deliver 138 ∷ events.Propose 2 (key 2 1 17) (proposals.Plain (codes "put x 5")) ∷ events.Deliver 141 ∷ events.Deliver 136 ∷
    events.Propose 2 (key 2 1 18) (proposals.Plain (codes "put x 4")) ∷ events.Deliver 145 ∷ events.Ready 3 ∷ events.Deliver 137 ∷
    events.Deliver 145 ∷ events.Deliver 144 ∷ events.Ready 2 ∷ events.Deliver 139 ∷
    events.Deliver 145 ∷ events.Saved 2 15 ∷ events.Deliver 151 ∷ events.Ready 1 ∷
    events.Timeout 3 ∷ events.Deliver 152 ∷ events.Deliver 146 ∷ events.Timeout 1 ∷
    events.Propose 2 (key 2 1 19) (proposals.Plain (codes "put x 4")) ∷ events.Deliver 150 ∷ events.Saved 1 17 ∷ events.Deliver 146 ∷
    events.Deliver 151 ∷ events.Ask 1 (key 1 1 19) ∷ events.Deliver 151 ∷ events.Deliver 151 ∷
    events.Deliver 154 ∷ events.Ready 1 ∷ events.Deliver 153 ∷ events.Saved 1 18 ∷
    events.Deliver 161 ∷ events.Ready 2 ∷ events.Deliver 163 ∷ events.Deliver 159 ∷
    events.Deliver 164 ∷ events.Timeout 3 ∷ events.Down 3 ∷ events.Deliver 162 ∷
    events.Deliver 157 ∷ events.Deliver 156 ∷ events.Saved 2 16 ∷ events.Deliver 162 ∷
    events.Deliver 160 ∷ events.Restart 3 (left (saved_part 12 3 4 0 0 (entry 1 5 no_key proposals.Blank ∷ entry 2 5 (key 1 1 2) (proposals.Plain (codes "put x 8")) ∷ entry 3 5 (key 1 1 3) (proposals.Plain (codes "put x 0")) ∷ entry 4 8 no_key proposals.Blank ∷ entry 5 8 (key 3 2 4) (proposals.Plain (codes "put x 2")) ∷ entry 6 8 (key 3 2 6) (proposals.Plain (codes "put x 3")) ∷ [])) 0 0 0) ∷ events.Down 3 ∷ events.Deliver 162 ∷
    events.Ready 2 ∷ events.Ready 2 ∷ events.Deliver 168 ∷ events.Ready 1 ∷
    events.Ready 1 ∷ events.Ready 3 ∷ events.Ready 2 ∷ events.Ready 3 ∷
    events.Ready 1 ∷ events.Propose 3 (key 3 4 1) (proposals.Plain (codes "put x 0")) ∷ events.Deliver 161 ∷ events.Deliver 168 ∷
    events.Propose 1 (key 1 1 20) (proposals.Plain (codes "put x 0")) ∷ events.Ready 1 ∷ events.Deliver 166 ∷ events.Restart 3 (left (saved_part 12 3 4 0 0 (entry 1 5 no_key proposals.Blank ∷ entry 2 5 (key 1 1 2) (proposals.Plain (codes "put x 8")) ∷ entry 3 5 (key 1 1 3) (proposals.Plain (codes "put x 0")) ∷ entry 4 8 no_key proposals.Blank ∷ entry 5 8 (key 3 2 4) (proposals.Plain (codes "put x 2")) ∷ entry 6 8 (key 3 2 6) (proposals.Plain (codes "put x 3")) ∷ [])) 0 0 0) ∷
    events.Ready 3 ∷ events.Propose 3 (key 3 5 1) (proposals.Plain (codes "put x 7")) ∷ events.Propose 3 (key 3 5 2) (proposals.Plain (codes "put x 3")) ∷ events.Ready 2 ∷
    events.Propose 1 (key 1 1 21) (proposals.Plain (codes "put x 9")) ∷ events.Deliver 167 ∷ events.Deliver 169 ∷ events.Deliver 168 ∷
    []

-- a group that has just begun
abbrev pub begun : Group
begun =
    fresh_group 1 (1 ∷ 2 ∷ 3 ∷ [])

-- what they tell
abbrev pub notes_of : List Note
notes_of =
    notes.Dropped (key 3 1 1) ∷ notes.Pending 3 1 ∷ notes.Dropped (key 3 1 2) ∷ notes.Dropped (key 2 1 1) ∷ notes.Idle ∷ notes.Idle ∷
    notes.Idle ∷ notes.Dropped (key 2 1 2) ∷ notes.Idle ∷ notes.Idle ∷ notes.Idle ∷ notes.Pending 2 1 ∷
    notes.Idle ∷ notes.Dropped (key 2 1 3) ∷ notes.Pending 1 1 ∷ notes.Dropped (key 3 1 3) ∷ notes.Pending 3 2 ∷ notes.Pending 3 3 ∷
    notes.Pending 2 2 ∷ notes.Dropped (key 3 1 4) ∷ notes.Dropped (key 3 1 5) ∷ notes.Idle ∷ notes.Pending 1 2 ∷ notes.Dropped (key 3 1 6) ∷
    notes.Dropped (key 1 1 1) ∷ notes.Idle ∷ notes.Pending 1 3 ∷ notes.Idle ∷ notes.Idle ∷ notes.Pending 1 4 ∷
    notes.Pending 2 3 ∷ notes.Leader 1 5 ∷ notes.Pending 1 5 ∷ notes.Pending 1 6 ∷ notes.Pending 2 4 ∷ notes.Pending 1 7 ∷
    notes.Pending 1 8 ∷ notes.Pending 3 1 ∷ notes.Pending 2 5 ∷ notes.Pending 1 9 ∷ notes.Pending 3 2 ∷ notes.Pending 1 10 ∷
    notes.Pending 2 6 ∷ notes.Pending 3 3 ∷ notes.Pending 1 11 ∷ notes.Idle ∷ notes.Dropped (key 3 2 2) ∷ notes.Pending 1 12 ∷
    notes.Pending 2 7 ∷ notes.Pending 1 13 ∷ notes.Idle ∷ notes.Dropped (key 1 1 13) ∷ notes.Idle ∷ notes.Dropped (key 1 1 14) ∷
    notes.Pending 3 4 ∷ notes.Dropped (key 2 1 5) ∷ notes.Idle ∷ notes.Pending 2 8 ∷ notes.Idle ∷ notes.Dropped (key 3 2 3) ∷
    notes.Idle ∷ notes.Dropped (key 2 1 6) ∷ notes.Pending 1 14 ∷ notes.Dropped (key 2 1 7) ∷ notes.Dropped (key 2 1 8) ∷ notes.Leader 3 8 ∷
    notes.Pending 3 5 ∷ notes.Dropped (key 1 1 15) ∷ notes.Dropped (key 3 2 5) ∷ notes.Pending 1 15 ∷ notes.Pending 2 9 ∷ notes.Pending 2 10 ∷
    notes.Pending 3 6 ∷ notes.Idle ∷ notes.Idle ∷ notes.Idle ∷ notes.Idle ∷ notes.Idle ∷
    notes.Dropped (key 1 1 16) ∷ notes.Idle ∷ notes.Dropped (key 2 1 9) ∷ notes.Dropped (key 2 1 10) ∷ notes.Pending 1 16 ∷ notes.Dropped (key 2 1 11) ∷
    notes.Dropped (key 2 1 12) ∷ notes.Dropped (key 1 1 17) ∷ notes.Leader 2 11 ∷ notes.Pending 2 11 ∷ notes.Dropped (key 1 1 18) ∷ notes.Pending 2 12 ∷
    notes.Pending 2 13 ∷ notes.Idle ∷ notes.Idle ∷ notes.Pending 2 14 ∷ notes.Idle ∷ notes.Idle ∷
    notes.Pending 3 1 ∷ notes.Pending 3 2 ∷ notes.Pending 2 15 ∷ notes.Pending 1 17 ∷ notes.Dropped (key 1 1 19) ∷ notes.Pending 1 18 ∷
    notes.Pending 2 16 ∷ notes.Idle ∷ notes.Idle ∷ notes.Idle ∷ notes.Idle ∷ notes.Idle ∷
    notes.Idle ∷ notes.Dropped (key 1 1 20) ∷ notes.Idle ∷ notes.Idle ∷ notes.Dropped (key 3 5 1) ∷ notes.Dropped (key 3 5 2) ∷
    notes.Idle ∷ notes.Dropped (key 1 1 21) ∷
    []

-- what is decided
abbrev pub decided_of : List Entry
decided_of =
    entry 1 5 no_key proposals.Blank ∷ entry 2 5 (key 1 1 2) (proposals.Plain (codes "put x 8")) ∷
    entry 3 5 (key 1 1 3) (proposals.Plain (codes "put x 0")) ∷ entry 4 8 no_key proposals.Blank ∷
    entry 5 11 no_key proposals.Blank ∷ entry 6 11 (key 2 1 13) (proposals.Plain (codes "put x 9")) ∷
    entry 7 11 (key 2 1 14) (proposals.Plain (codes "put x 5")) ∷ entry 8 11 (key 2 1 15) (proposals.Plain (codes "put x 9")) ∷
    entry 9 11 (key 2 1 16) (proposals.Plain (codes "put x 7")) ∷ entry 10 11 (key 2 1 17) (proposals.Plain (codes "put x 5")) ∷
    entry 11 11 (key 2 1 18) (proposals.Plain (codes "put x 4")) ∷
    []

-- how the replicas stand
abbrev pub replicas_of : List Digest
replicas_of =
    record { term = 12; vote = 1; role = roles.Candidate; leader = 0; commit = 3; front = 3; stable = 11; from = 12; round = 5; held = 0; terms = 8 ∷ 11 ∷ 11 ∷ 11 ∷ 11 ∷ 11 ∷ 11 ∷ 11 ∷ []; matched = 6 ∷ 1 ∷ 3 ∷ []; next = 1 ∷ 2 ∷ 4 ∷ []; answered = 0 ∷ 1 ∷ 0 ∷ [] } ∷
    record { term = 12; vote = 0; role = roles.Follower; leader = 0; commit = 11; front = 0; stable = 12; from = 13; round = 2; held = 0; terms = 5 ∷ 5 ∷ 5 ∷ 8 ∷ 11 ∷ 11 ∷ 11 ∷ 11 ∷ 11 ∷ 11 ∷ 11 ∷ 11 ∷ []; matched = 11 ∷ 11 ∷ 0 ∷ []; next = 12 ∷ 5 ∷ 5 ∷ []; answered = 1 ∷ 0 ∷ 0 ∷ [] } ∷
    record { term = 12; vote = 3; role = roles.Follower; leader = 0; commit = 4; front = 0; stable = 6; from = 7; round = 0; held = 0; terms = 5 ∷ 5 ∷ 5 ∷ 8 ∷ 8 ∷ 8 ∷ []; matched = 0 ∷ 0 ∷ 0 ∷ []; next = 0 ∷ 0 ∷ 0 ∷ []; answered = 0 ∷ 0 ∷ 0 ∷ [] } ∷
    []

-- what was sent
abbrev pub wire_of : List Envelope
wire_of =
    post 3 1 1 (bodies.Vote 0 0) ∷ post 3 2 1 (bodies.Vote 0 0) ∷
    post 2 3 1 (bodies.VoteReply true) ∷ post 2 3 1 (bodies.VoteReply true) ∷
    post 2 3 1 (bodies.VoteReply true) ∷ post 2 3 1 (bodies.VoteReply true) ∷
    post 2 3 1 (bodies.VoteReply true) ∷ post 2 3 1 (bodies.VoteReply true) ∷
    post 2 3 1 (bodies.VoteReply true) ∷ post 1 2 1 (bodies.Vote 0 0) ∷
    post 1 3 1 (bodies.Vote 0 0) ∷ post 1 3 1 (bodies.VoteReply false) ∷
    post 3 1 2 (bodies.Vote 0 0) ∷ post 3 2 2 (bodies.Vote 0 0) ∷
    post 3 1 3 (bodies.Vote 0 0) ∷ post 3 2 3 (bodies.Vote 0 0) ∷
    post 2 3 3 (bodies.VoteReply true) ∷ post 3 1 4 (bodies.Vote 0 0) ∷
    post 3 2 4 (bodies.Vote 0 0) ∷ post 2 3 3 (bodies.VoteReply false) ∷
    post 1 2 2 (bodies.Vote 0 0) ∷ post 1 3 2 (bodies.Vote 0 0) ∷
    post 2 1 3 (bodies.VoteReply false) ∷ post 3 1 4 (bodies.VoteReply false) ∷
    post 3 1 4 (bodies.VoteReply false) ∷ post 3 1 4 (bodies.VoteReply false) ∷
    post 1 2 5 (bodies.Vote 0 0) ∷ post 1 3 5 (bodies.Vote 0 0) ∷
    post 2 1 5 (bodies.VoteReply true) ∷ post 2 1 5 (bodies.VoteReply true) ∷
    post 2 1 5 (bodies.VoteReply true) ∷ post 1 2 5 (bodies.Append 0 0 0 (entry 1 5 no_key proposals.Blank ∷ [])) ∷
    post 1 3 5 (bodies.Append 0 0 0 (entry 1 5 no_key proposals.Blank ∷ [])) ∷ post 2 3 5 (bodies.VoteReply false) ∷
    post 1 2 5 (bodies.Append 0 0 0 (entry 1 5 no_key proposals.Blank ∷ entry 2 5 (key 1 1 2) (proposals.Plain (codes "put x 8")) ∷ [])) ∷ post 1 3 5 (bodies.Append 0 0 0 (entry 1 5 no_key proposals.Blank ∷ entry 2 5 (key 1 1 2) (proposals.Plain (codes "put x 8")) ∷ [])) ∷
    post 1 2 5 (bodies.Append 0 0 0 (entry 1 5 no_key proposals.Blank ∷ entry 2 5 (key 1 1 2) (proposals.Plain (codes "put x 8")) ∷ entry 3 5 (key 1 1 3) (proposals.Plain (codes "put x 0")) ∷ [])) ∷ post 1 3 5 (bodies.Append 0 0 0 (entry 1 5 no_key proposals.Blank ∷ entry 2 5 (key 1 1 2) (proposals.Plain (codes "put x 8")) ∷ entry 3 5 (key 1 1 3) (proposals.Plain (codes "put x 0")) ∷ [])) ∷
    post 2 1 5 (bodies.AppendReply true 1) ∷ post 2 1 0 (bodies.ReadAsk (key 2 1 4)) ∷
    post 1 2 5 (bodies.Append 1 5 1 (entry 2 5 (key 1 1 2) (proposals.Plain (codes "put x 8")) ∷ entry 3 5 (key 1 1 3) (proposals.Plain (codes "put x 0")) ∷ [])) ∷ post 1 2 5 (bodies.Append 1 5 1 (entry 2 5 (key 1 1 2) (proposals.Plain (codes "put x 8")) ∷ entry 3 5 (key 1 1 3) (proposals.Plain (codes "put x 0")) ∷ [])) ∷
    post 1 2 5 (bodies.Beat 1 1) ∷ post 1 3 5 (bodies.Beat 0 1) ∷
    post 2 1 5 (bodies.AppendReply true 3) ∷ post 2 1 5 (bodies.BeatReply 1) ∷
    post 1 2 5 (bodies.Append 1 5 1 (entry 2 5 (key 1 1 2) (proposals.Plain (codes "put x 8")) ∷ entry 3 5 (key 1 1 3) (proposals.Plain (codes "put x 0")) ∷ entry 4 5 (key 1 1 4) (proposals.Plain (codes "put x 9")) ∷ [])) ∷ post 3 1 5 (bodies.AppendReply true 3) ∷
    post 3 1 5 (bodies.AppendReply true 2) ∷ post 3 1 0 (bodies.ReadAsk (key 3 2 1)) ∷
    post 3 1 5 (bodies.AppendReply true 2) ∷ post 1 2 5 (bodies.Beat 1 2) ∷
    post 1 3 5 (bodies.Beat 0 2) ∷ post 3 1 5 (bodies.AppendReply true 3) ∷
    post 3 1 5 (bodies.AppendReply true 2) ∷ post 3 1 6 (bodies.Vote 3 5) ∷
    post 3 2 6 (bodies.Vote 3 5) ∷ post 1 2 5 (bodies.Append 1 5 1 (entry 2 5 (key 1 1 2) (proposals.Plain (codes "put x 8")) ∷ entry 3 5 (key 1 1 3) (proposals.Plain (codes "put x 0")) ∷ entry 4 5 (key 1 1 4) (proposals.Plain (codes "put x 9")) ∷ entry 5 5 (key 1 1 6) (proposals.Plain (codes "put x 2")) ∷ [])) ∷
    post 1 2 5 (bodies.Append 1 5 1 (entry 2 5 (key 1 1 2) (proposals.Plain (codes "put x 8")) ∷ entry 3 5 (key 1 1 3) (proposals.Plain (codes "put x 0")) ∷ entry 4 5 (key 1 1 4) (proposals.Plain (codes "put x 9")) ∷ entry 5 5 (key 1 1 6) (proposals.Plain (codes "put x 2")) ∷ entry 6 5 (key 1 1 7) (proposals.Plain (codes "put x 2")) ∷ [])) ∷ post 2 1 6 (bodies.Vote 3 5) ∷
    post 2 3 6 (bodies.Vote 3 5) ∷ post 2 1 6 (bodies.BeatReply 0) ∷
    post 2 3 6 (bodies.VoteReply false) ∷ post 2 1 6 (bodies.BeatReply 0) ∷
    post 2 1 6 (bodies.AppendReply false 0) ∷ post 2 3 6 (bodies.VoteReply false) ∷
    post 2 1 6 (bodies.AppendReply false 0) ∷ post 1 3 5 (bodies.Append 2 5 2 (entry 3 5 (key 1 1 3) (proposals.Plain (codes "put x 0")) ∷ entry 4 5 (key 1 1 4) (proposals.Plain (codes "put x 9")) ∷ entry 5 5 (key 1 1 6) (proposals.Plain (codes "put x 2")) ∷ entry 6 5 (key 1 1 7) (proposals.Plain (codes "put x 2")) ∷ [])) ∷
    post 1 3 5 (bodies.Append 3 5 3 (entry 4 5 (key 1 1 4) (proposals.Plain (codes "put x 9")) ∷ entry 5 5 (key 1 1 6) (proposals.Plain (codes "put x 2")) ∷ entry 6 5 (key 1 1 7) (proposals.Plain (codes "put x 2")) ∷ [])) ∷ post 1 2 5 (bodies.Append 1 5 3 (entry 2 5 (key 1 1 2) (proposals.Plain (codes "put x 8")) ∷ entry 3 5 (key 1 1 3) (proposals.Plain (codes "put x 0")) ∷ entry 4 5 (key 1 1 4) (proposals.Plain (codes "put x 9")) ∷ entry 5 5 (key 1 1 6) (proposals.Plain (codes "put x 2")) ∷ entry 6 5 (key 1 1 7) (proposals.Plain (codes "put x 2")) ∷ entry 7 5 (key 1 1 8) (proposals.Plain (codes "put x 8")) ∷ [])) ∷
    post 1 3 5 (bodies.Append 3 5 3 (entry 4 5 (key 1 1 4) (proposals.Plain (codes "put x 9")) ∷ entry 5 5 (key 1 1 6) (proposals.Plain (codes "put x 2")) ∷ entry 6 5 (key 1 1 7) (proposals.Plain (codes "put x 2")) ∷ entry 7 5 (key 1 1 8) (proposals.Plain (codes "put x 8")) ∷ [])) ∷ post 1 2 5 (bodies.Beat 1 3) ∷
    post 1 3 5 (bodies.Beat 3 3) ∷ post 1 2 5 (bodies.Beat 1 4) ∷
    post 1 3 5 (bodies.Beat 3 4) ∷ post 1 3 5 (bodies.Append 3 5 3 (entry 4 5 (key 1 1 4) (proposals.Plain (codes "put x 9")) ∷ entry 5 5 (key 1 1 6) (proposals.Plain (codes "put x 2")) ∷ entry 6 5 (key 1 1 7) (proposals.Plain (codes "put x 2")) ∷ entry 7 5 (key 1 1 8) (proposals.Plain (codes "put x 8")) ∷ [])) ∷
    post 1 2 5 (bodies.Beat 1 5) ∷ post 1 3 5 (bodies.Beat 3 5) ∷
    post 2 1 6 (bodies.AppendReply false 0) ∷ post 2 1 6 (bodies.AppendReply false 0) ∷
    post 3 1 7 (bodies.Vote 3 5) ∷ post 3 2 7 (bodies.Vote 3 5) ∷
    post 3 1 7 (bodies.BeatReply 0) ∷ post 3 1 7 (bodies.AppendReply false 0) ∷
    post 2 1 7 (bodies.Vote 3 5) ∷ post 2 3 7 (bodies.Vote 3 5) ∷
    post 2 3 7 (bodies.VoteReply false) ∷ post 1 2 5 (bodies.Append 1 5 3 (entry 2 5 (key 1 1 2) (proposals.Plain (codes "put x 8")) ∷ entry 3 5 (key 1 1 3) (proposals.Plain (codes "put x 0")) ∷ entry 4 5 (key 1 1 4) (proposals.Plain (codes "put x 9")) ∷ entry 5 5 (key 1 1 6) (proposals.Plain (codes "put x 2")) ∷ entry 6 5 (key 1 1 7) (proposals.Plain (codes "put x 2")) ∷ entry 7 5 (key 1 1 8) (proposals.Plain (codes "put x 8")) ∷ entry 8 5 (key 1 1 11) (proposals.Plain (codes "put x 5")) ∷ [])) ∷
    post 1 3 5 (bodies.Append 3 5 3 (entry 4 5 (key 1 1 4) (proposals.Plain (codes "put x 9")) ∷ entry 5 5 (key 1 1 6) (proposals.Plain (codes "put x 2")) ∷ entry 6 5 (key 1 1 7) (proposals.Plain (codes "put x 2")) ∷ entry 7 5 (key 1 1 8) (proposals.Plain (codes "put x 8")) ∷ entry 8 5 (key 1 1 11) (proposals.Plain (codes "put x 5")) ∷ [])) ∷ post 1 2 5 (bodies.Append 1 5 3 (entry 2 5 (key 1 1 2) (proposals.Plain (codes "put x 8")) ∷ entry 3 5 (key 1 1 3) (proposals.Plain (codes "put x 0")) ∷ entry 4 5 (key 1 1 4) (proposals.Plain (codes "put x 9")) ∷ entry 5 5 (key 1 1 6) (proposals.Plain (codes "put x 2")) ∷ entry 6 5 (key 1 1 7) (proposals.Plain (codes "put x 2")) ∷ entry 7 5 (key 1 1 8) (proposals.Plain (codes "put x 8")) ∷ entry 8 5 (key 1 1 11) (proposals.Plain (codes "put x 5")) ∷ [])) ∷
    post 1 2 5 (bodies.Append 1 5 3 (entry 2 5 (key 1 1 2) (proposals.Plain (codes "put x 8")) ∷ entry 3 5 (key 1 1 3) (proposals.Plain (codes "put x 0")) ∷ entry 4 5 (key 1 1 4) (proposals.Plain (codes "put x 9")) ∷ entry 5 5 (key 1 1 6) (proposals.Plain (codes "put x 2")) ∷ entry 6 5 (key 1 1 7) (proposals.Plain (codes "put x 2")) ∷ entry 7 5 (key 1 1 8) (proposals.Plain (codes "put x 8")) ∷ entry 8 5 (key 1 1 11) (proposals.Plain (codes "put x 5")) ∷ entry 9 5 (key 1 1 12) (proposals.Plain (codes "put x 3")) ∷ [])) ∷ post 1 3 5 (bodies.Append 3 5 3 (entry 4 5 (key 1 1 4) (proposals.Plain (codes "put x 9")) ∷ entry 5 5 (key 1 1 6) (proposals.Plain (codes "put x 2")) ∷ entry 6 5 (key 1 1 7) (proposals.Plain (codes "put x 2")) ∷ entry 7 5 (key 1 1 8) (proposals.Plain (codes "put x 8")) ∷ entry 8 5 (key 1 1 11) (proposals.Plain (codes "put x 5")) ∷ entry 9 5 (key 1 1 12) (proposals.Plain (codes "put x 3")) ∷ [])) ∷
    post 1 2 6 (bodies.VoteReply false) ∷ post 3 1 7 (bodies.AppendReply false 0) ∷
    post 2 1 7 (bodies.AppendReply false 0) ∷ post 1 3 7 (bodies.VoteReply false) ∷
    post 2 1 7 (bodies.AppendReply false 0) ∷ post 2 1 7 (bodies.AppendReply false 0) ∷
    post 3 1 7 (bodies.AppendReply false 0) ∷ post 3 1 8 (bodies.Vote 3 5) ∷
    post 3 2 8 (bodies.Vote 3 5) ∷ post 2 3 8 (bodies.VoteReply true) ∷
    post 2 3 8 (bodies.VoteReply true) ∷ post 1 2 8 (bodies.Vote 9 5) ∷
    post 1 3 8 (bodies.Vote 9 5) ∷ post 1 3 8 (bodies.VoteReply false) ∷
    post 2 3 8 (bodies.VoteReply true) ∷ post 2 1 8 (bodies.VoteReply false) ∷
    post 3 1 8 (bodies.Append 3 5 0 (entry 4 8 no_key proposals.Blank ∷ [])) ∷ post 3 2 8 (bodies.Append 3 5 0 (entry 4 8 no_key proposals.Blank ∷ [])) ∷
    post 1 2 9 (bodies.Vote 9 5) ∷ post 1 3 9 (bodies.Vote 9 5) ∷
    post 1 2 10 (bodies.Vote 9 5) ∷ post 1 3 10 (bodies.Vote 9 5) ∷
    post 2 3 8 (bodies.AppendReply true 4) ∷ post 2 1 10 (bodies.VoteReply false) ∷
    post 2 3 10 (bodies.AppendReply false 0) ∷ post 2 1 11 (bodies.Vote 4 8) ∷
    post 2 3 11 (bodies.Vote 4 8) ∷ post 2 1 11 (bodies.VoteReply false) ∷
    post 1 2 11 (bodies.VoteReply true) ∷ post 1 2 11 (bodies.VoteReply true) ∷
    post 1 2 11 (bodies.VoteReply true) ∷ post 1 2 11 (bodies.VoteReply true) ∷
    post 1 2 11 (bodies.VoteReply true) ∷ post 2 1 11 (bodies.Append 4 8 1 (entry 5 11 no_key proposals.Blank ∷ [])) ∷
    post 2 3 11 (bodies.Append 4 8 1 (entry 5 11 no_key proposals.Blank ∷ [])) ∷ post 2 1 11 (bodies.Append 4 8 1 (entry 5 11 no_key proposals.Blank ∷ entry 6 11 (key 2 1 13) (proposals.Plain (codes "put x 9")) ∷ [])) ∷
    post 2 3 11 (bodies.Append 4 8 1 (entry 5 11 no_key proposals.Blank ∷ entry 6 11 (key 2 1 13) (proposals.Plain (codes "put x 9")) ∷ [])) ∷ post 2 1 11 (bodies.Append 4 8 1 (entry 5 11 no_key proposals.Blank ∷ entry 6 11 (key 2 1 13) (proposals.Plain (codes "put x 9")) ∷ entry 7 11 (key 2 1 14) (proposals.Plain (codes "put x 5")) ∷ [])) ∷
    post 2 3 11 (bodies.Append 4 8 1 (entry 5 11 no_key proposals.Blank ∷ entry 6 11 (key 2 1 13) (proposals.Plain (codes "put x 9")) ∷ entry 7 11 (key 2 1 14) (proposals.Plain (codes "put x 5")) ∷ [])) ∷ post 2 1 11 (bodies.Append 4 8 1 (entry 5 11 no_key proposals.Blank ∷ entry 6 11 (key 2 1 13) (proposals.Plain (codes "put x 9")) ∷ entry 7 11 (key 2 1 14) (proposals.Plain (codes "put x 5")) ∷ entry 8 11 (key 2 1 15) (proposals.Plain (codes "put x 9")) ∷ [])) ∷
    post 2 3 11 (bodies.Append 4 8 1 (entry 5 11 no_key proposals.Blank ∷ entry 6 11 (key 2 1 13) (proposals.Plain (codes "put x 9")) ∷ entry 7 11 (key 2 1 14) (proposals.Plain (codes "put x 5")) ∷ entry 8 11 (key 2 1 15) (proposals.Plain (codes "put x 9")) ∷ [])) ∷ post 1 2 11 (bodies.AppendReply false 3) ∷
    post 1 2 11 (bodies.AppendReply false 3) ∷ post 2 1 11 (bodies.Append 4 8 1 (entry 5 11 no_key proposals.Blank ∷ entry 6 11 (key 2 1 13) (proposals.Plain (codes "put x 9")) ∷ entry 7 11 (key 2 1 14) (proposals.Plain (codes "put x 5")) ∷ entry 8 11 (key 2 1 15) (proposals.Plain (codes "put x 9")) ∷ entry 9 11 (key 2 1 16) (proposals.Plain (codes "put x 7")) ∷ [])) ∷
    post 2 3 11 (bodies.Append 4 8 1 (entry 5 11 no_key proposals.Blank ∷ entry 6 11 (key 2 1 13) (proposals.Plain (codes "put x 9")) ∷ entry 7 11 (key 2 1 14) (proposals.Plain (codes "put x 5")) ∷ entry 8 11 (key 2 1 15) (proposals.Plain (codes "put x 9")) ∷ entry 9 11 (key 2 1 16) (proposals.Plain (codes "put x 7")) ∷ [])) ∷ post 2 1 11 (bodies.Beat 0 1) ∷
    post 2 3 11 (bodies.Beat 0 1) ∷ post 2 1 11 (bodies.Beat 0 2) ∷
    post 2 3 11 (bodies.Beat 0 2) ∷ post 2 3 11 (bodies.SnapChunk 1 5 1 1 16 (1 ∷ 2 ∷ 3 ∷ [])) ∷
    post 3 2 11 (bodies.SnapReply 1 2 true) ∷ post 1 2 11 (bodies.BeatReply 1) ∷
    post 1 2 11 (bodies.AppendReply false 3) ∷ post 2 1 11 (bodies.Append 4 8 1 (entry 5 11 no_key proposals.Blank ∷ entry 6 11 (key 2 1 13) (proposals.Plain (codes "put x 9")) ∷ entry 7 11 (key 2 1 14) (proposals.Plain (codes "put x 5")) ∷ entry 8 11 (key 2 1 15) (proposals.Plain (codes "put x 9")) ∷ entry 9 11 (key 2 1 16) (proposals.Plain (codes "put x 7")) ∷ entry 10 11 (key 2 1 17) (proposals.Plain (codes "put x 5")) ∷ [])) ∷
    post 2 3 11 (bodies.Append 4 8 1 (entry 5 11 no_key proposals.Blank ∷ entry 6 11 (key 2 1 13) (proposals.Plain (codes "put x 9")) ∷ entry 7 11 (key 2 1 14) (proposals.Plain (codes "put x 5")) ∷ entry 8 11 (key 2 1 15) (proposals.Plain (codes "put x 9")) ∷ entry 9 11 (key 2 1 16) (proposals.Plain (codes "put x 7")) ∷ entry 10 11 (key 2 1 17) (proposals.Plain (codes "put x 5")) ∷ [])) ∷ post 2 1 11 (bodies.Append 4 8 1 (entry 5 11 no_key proposals.Blank ∷ entry 6 11 (key 2 1 13) (proposals.Plain (codes "put x 9")) ∷ entry 7 11 (key 2 1 14) (proposals.Plain (codes "put x 5")) ∷ entry 8 11 (key 2 1 15) (proposals.Plain (codes "put x 9")) ∷ entry 9 11 (key 2 1 16) (proposals.Plain (codes "put x 7")) ∷ entry 10 11 (key 2 1 17) (proposals.Plain (codes "put x 5")) ∷ entry 11 11 (key 2 1 18) (proposals.Plain (codes "put x 4")) ∷ [])) ∷
    post 2 3 11 (bodies.Append 4 8 1 (entry 5 11 no_key proposals.Blank ∷ entry 6 11 (key 2 1 13) (proposals.Plain (codes "put x 9")) ∷ entry 7 11 (key 2 1 14) (proposals.Plain (codes "put x 5")) ∷ entry 8 11 (key 2 1 15) (proposals.Plain (codes "put x 9")) ∷ entry 9 11 (key 2 1 16) (proposals.Plain (codes "put x 7")) ∷ entry 10 11 (key 2 1 17) (proposals.Plain (codes "put x 5")) ∷ entry 11 11 (key 2 1 18) (proposals.Plain (codes "put x 4")) ∷ [])) ∷ post 2 1 11 (bodies.Append 3 5 1 (entry 4 8 no_key proposals.Blank ∷ entry 5 11 no_key proposals.Blank ∷ entry 6 11 (key 2 1 13) (proposals.Plain (codes "put x 9")) ∷ entry 7 11 (key 2 1 14) (proposals.Plain (codes "put x 5")) ∷ entry 8 11 (key 2 1 15) (proposals.Plain (codes "put x 9")) ∷ entry 9 11 (key 2 1 16) (proposals.Plain (codes "put x 7")) ∷ entry 10 11 (key 2 1 17) (proposals.Plain (codes "put x 5")) ∷ entry 11 11 (key 2 1 18) (proposals.Plain (codes "put x 4")) ∷ [])) ∷
    post 2 1 11 (bodies.Append 3 5 1 (entry 4 8 no_key proposals.Blank ∷ entry 5 11 no_key proposals.Blank ∷ entry 6 11 (key 2 1 13) (proposals.Plain (codes "put x 9")) ∷ entry 7 11 (key 2 1 14) (proposals.Plain (codes "put x 5")) ∷ entry 8 11 (key 2 1 15) (proposals.Plain (codes "put x 9")) ∷ entry 9 11 (key 2 1 16) (proposals.Plain (codes "put x 7")) ∷ entry 10 11 (key 2 1 17) (proposals.Plain (codes "put x 5")) ∷ entry 11 11 (key 2 1 18) (proposals.Plain (codes "put x 4")) ∷ [])) ∷ post 2 1 11 (bodies.Append 3 5 1 (entry 4 8 no_key proposals.Blank ∷ entry 5 11 no_key proposals.Blank ∷ entry 6 11 (key 2 1 13) (proposals.Plain (codes "put x 9")) ∷ entry 7 11 (key 2 1 14) (proposals.Plain (codes "put x 5")) ∷ entry 8 11 (key 2 1 15) (proposals.Plain (codes "put x 9")) ∷ entry 9 11 (key 2 1 16) (proposals.Plain (codes "put x 7")) ∷ entry 10 11 (key 2 1 17) (proposals.Plain (codes "put x 5")) ∷ entry 11 11 (key 2 1 18) (proposals.Plain (codes "put x 4")) ∷ [])) ∷
    post 2 1 11 (bodies.Append 3 5 1 (entry 4 8 no_key proposals.Blank ∷ entry 5 11 no_key proposals.Blank ∷ entry 6 11 (key 2 1 13) (proposals.Plain (codes "put x 9")) ∷ entry 7 11 (key 2 1 14) (proposals.Plain (codes "put x 5")) ∷ entry 8 11 (key 2 1 15) (proposals.Plain (codes "put x 9")) ∷ entry 9 11 (key 2 1 16) (proposals.Plain (codes "put x 7")) ∷ entry 10 11 (key 2 1 17) (proposals.Plain (codes "put x 5")) ∷ entry 11 11 (key 2 1 18) (proposals.Plain (codes "put x 4")) ∷ [])) ∷ post 1 2 11 (bodies.AppendReply true 11) ∷
    post 1 2 11 (bodies.AppendReply true 11) ∷ post 1 2 11 (bodies.AppendReply true 10) ∷
    post 1 2 12 (bodies.Vote 11 11) ∷ post 1 3 12 (bodies.Vote 11 11) ∷
    post 1 2 12 (bodies.AppendReply false 0) ∷ post 1 2 12 (bodies.AppendReply false 0) ∷
    post 1 2 12 (bodies.AppendReply false 0) ∷ post 1 2 12 (bodies.AppendReply false 0) ∷
    post 1 2 12 (bodies.AppendReply false 0) ∷ post 1 2 12 (bodies.AppendReply false 0) ∷
    post 2 1 11 (bodies.Append 3 5 1 (entry 4 8 no_key proposals.Blank ∷ entry 5 11 no_key proposals.Blank ∷ entry 6 11 (key 2 1 13) (proposals.Plain (codes "put x 9")) ∷ entry 7 11 (key 2 1 14) (proposals.Plain (codes "put x 5")) ∷ entry 8 11 (key 2 1 15) (proposals.Plain (codes "put x 9")) ∷ entry 9 11 (key 2 1 16) (proposals.Plain (codes "put x 7")) ∷ entry 10 11 (key 2 1 17) (proposals.Plain (codes "put x 5")) ∷ entry 11 11 (key 2 1 18) (proposals.Plain (codes "put x 4")) ∷ entry 12 11 (key 2 1 19) (proposals.Plain (codes "put x 4")) ∷ [])) ∷ post 2 3 11 (bodies.Append 4 8 1 (entry 5 11 no_key proposals.Blank ∷ entry 6 11 (key 2 1 13) (proposals.Plain (codes "put x 9")) ∷ entry 7 11 (key 2 1 14) (proposals.Plain (codes "put x 5")) ∷ entry 8 11 (key 2 1 15) (proposals.Plain (codes "put x 9")) ∷ entry 9 11 (key 2 1 16) (proposals.Plain (codes "put x 7")) ∷ entry 10 11 (key 2 1 17) (proposals.Plain (codes "put x 5")) ∷ entry 11 11 (key 2 1 18) (proposals.Plain (codes "put x 4")) ∷ entry 12 11 (key 2 1 19) (proposals.Plain (codes "put x 4")) ∷ [])) ∷
    post 2 1 11 (bodies.Append 11 11 11 (entry 12 11 (key 2 1 19) (proposals.Plain (codes "put x 4")) ∷ [])) ∷ post 2 1 12 (bodies.VoteReply false) ∷
    post 1 2 12 (bodies.AppendReply false 0) ∷
    []
