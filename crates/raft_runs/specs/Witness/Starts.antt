-- Runs of allowed events with a crash, a start or a snapshot among them. Source: this project's own.
use Rattle.std.specs.Prelude.{List, [], ◌∷◌, codes}
use Rattle.host_ids.specs.declared.proposal.Proposal.TheVariants as proposals
use Rattle.raft_model.specs.declared.event.LaneEvent.{LaneEvent}
use Rattle.raft_model.specs.declared.event.LaneEvent.TheVariants as events
use Rattle.raft_model.specs.Replica.{no_key}
use Rattle.raft_runs.specs.Runs.{key, entry, piece, left, saved_part}

-- To go on from the run in which a leader crashed: that host starts again from what it has saved, a read is asked at the new leader, and the host's answer confirms it.
abbrev pub returned : List LaneEvent
returned =
    events.Restart 1 (left (saved_part 1 1 1 0 0 (entry 1 1 no_key proposals.Blank ∷ entry 2 1 (key 1 1 1) (proposals.Plain (codes "put x 1")) ∷ [])) 0 0 0) ∷
    events.Ask 2 (key 2 1 2) ∷ events.Deliver 23 ∷ events.Ready 1 ∷ events.Saved 1 1 ∷ events.Deliver 25 ∷ []

-- Host 2 has given a batch with the leader's entry to be saved, and crashes before it hears that it is.
abbrev pub half_saved : List LaneEvent
half_saved =
    events.Timeout 1 ∷ events.Ready 1 ∷ events.Saved 1 1 ∷ events.Deliver 1 ∷ events.Ready 2 ∷ events.Saved 2 1 ∷ events.Deliver 3 ∷ events.Ready 1 ∷
    events.Saved 1 2 ∷ events.Deliver 4 ∷ events.Ready 2 ∷ events.Down 2 ∷ []

-- It starts again with the whole batch. The Append comes once more, is answered at once, and the entry is decided.
abbrev pub kept_whole : List LaneEvent
kept_whole = events.Restart 2 (left (saved_part 1 1 0 0 0 (entry 1 1 no_key proposals.Blank ∷ [])) 0 0 0) ∷ events.Deliver 4 ∷ events.Deliver 6 ∷ []

-- Host 1 leads term 1 and saves an entry that nobody else gets. Host 2 leads term 2 and decides another entry in that place, and its snapshot has come to host 1.
abbrev pub overtaken : List LaneEvent
overtaken =
    events.Timeout 1 ∷ events.Ready 1 ∷ events.Saved 1 1 ∷ events.Deliver 2 ∷ events.Ready 3 ∷ events.Saved 3 1 ∷ events.Deliver 3 ∷ events.Ready 1 ∷
    events.Saved 1 2 ∷ events.Timeout 2 ∷ events.Timeout 2 ∷ events.Ready 2 ∷ events.Saved 2 1 ∷ events.Deliver 9 ∷ events.Ready 3 ∷ events.Saved 3 2 ∷
    events.Deliver 10 ∷ events.Ready 2 ∷ events.Saved 2 2 ∷ events.Deliver 12 ∷ events.Ready 3 ∷ events.Saved 3 3 ∷ events.Deliver 13 ∷
    events.Chunk 2 1 (piece 2 1 2 1 1 16 (1 ∷ 2 ∷ 3 ∷ [])) ∷ events.Ready 2 ∷ events.Saved 2 3 ∷ events.Deliver 14 ∷ []

-- The snapshot is put in place of host 1's log, and answered.
abbrev pub installs : List LaneEvent
installs = events.Installed 1 1 2 ∷ events.Ready 1 ∷ events.Saved 1 3 ∷ []

-- The snapshot is put in place, and host 1 crashes before anything of it is saved but the snapshot itself: it starts again with the log that was overtaken, and the
-- snapshot's mark.
abbrev pub starts_marked : List LaneEvent
starts_marked =
    events.Installed 1 1 2 ∷ events.Down 1 ∷ events.Restart 1 (left (saved_part 1 1 0 0 0 (entry 1 1 no_key proposals.Blank ∷ [])) 1 2 0) ∷ []

-- Host 2 hears that its entry is decided, its machine applies it, and host 2 crashes before it has saved that commit index.
abbrev pub applied : List LaneEvent
applied =
    events.Timeout 1 ∷ events.Ready 1 ∷ events.Saved 1 1 ∷ events.Deliver 1 ∷ events.Ready 2 ∷ events.Saved 2 1 ∷ events.Deliver 3 ∷ events.Ready 1 ∷
    events.Saved 1 2 ∷ events.Deliver 4 ∷ events.Ready 2 ∷ events.Saved 2 2 ∷ events.Deliver 6 ∷ events.Ready 1 ∷ events.Saved 1 3 ∷ events.Beat 1 ∷
    events.Deliver 7 ∷ events.Down 2 ∷ []

-- It starts again from what it has saved, and its machine is one entry further.
abbrev pub starts_applied : List LaneEvent
starts_applied = events.Restart 2 (left (saved_part 1 1 0 0 0 (entry 1 1 no_key proposals.Blank ∷ [])) 0 0 1) ∷ []
