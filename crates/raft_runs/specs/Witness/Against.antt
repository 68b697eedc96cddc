-- Runs of allowed events that lead to groups in which a sentence on Raft, known from textbooks, is false. Source: this project's own.
use Rattle.std.specs.Prelude.{List, [], ◌∷◌, codes}
use Rattle.host_ids.specs.declared.proposal.Proposal.TheVariants as proposals
use Rattle.raft_model.specs.declared.event.LaneEvent.{LaneEvent}
use Rattle.raft_model.specs.declared.event.LaneEvent.TheVariants as events
use Rattle.raft_model.specs.Replica.{no_key}
use Rattle.raft_runs.specs.Runs.{key, entry, piece, left, saved_part}

-- Host 1 leads term 1, and host 2 has its entry. Host 5 leads term 2 with two entries of its own; then host 1 leads term 3 and decides its entry of term 1. Host 2 hears
-- this, and may apply that entry.
abbrev pub heard : List LaneEvent
heard =
    events.Timeout 1 ∷ events.Ready 1 ∷ events.Saved 1 1 ∷ events.Deliver 2 ∷ events.Ready 3 ∷ events.Saved 3 1 ∷ events.Deliver 3 ∷ events.Ready 4 ∷
    events.Saved 4 1 ∷ events.Deliver 5 ∷ events.Deliver 6 ∷ events.Ready 1 ∷ events.Saved 1 2 ∷ events.Deliver 7 ∷ events.Ready 2 ∷ events.Saved 2 1 ∷
    events.Timeout 5 ∷ events.Timeout 5 ∷ events.Ready 5 ∷ events.Saved 5 1 ∷ events.Deliver 18 ∷ events.Ready 3 ∷ events.Saved 3 2 ∷ events.Deliver 19 ∷
    events.Ready 4 ∷ events.Saved 4 2 ∷ events.Deliver 20 ∷ events.Deliver 21 ∷ events.Propose 5 (key 5 1 1) (proposals.Plain (codes "put x 1")) ∷
    events.Ready 5 ∷ events.Saved 5 2 ∷ events.Deliver 16 ∷ events.Timeout 1 ∷ events.Ready 1 ∷ events.Saved 1 3 ∷ events.Deliver 32 ∷ events.Ready 3 ∷
    events.Saved 3 3 ∷ events.Deliver 33 ∷ events.Ready 4 ∷ events.Saved 4 3 ∷ events.Deliver 35 ∷ events.Deliver 36 ∷ events.Ready 1 ∷ events.Saved 1 4 ∷
    events.Deliver 38 ∷ events.Deliver 41 ∷ events.Deliver 42 ∷ events.Ready 3 ∷ events.Saved 3 4 ∷ events.Deliver 43 ∷ events.Deliver 39 ∷
    events.Deliver 44 ∷ events.Deliver 45 ∷ events.Ready 4 ∷ events.Saved 4 4 ∷ events.Deliver 46 ∷
    events.Propose 1 (key 1 1 1) (proposals.Plain (codes "put x 2")) ∷ events.Ready 1 ∷ events.Saved 1 5 ∷ events.Deliver 47 ∷ []

-- It does, and crashes before the term is saved: it starts again in term 1, with a commit index of 1. The Append of term 2 then replaces its log after place 1 alone.
abbrev pub unmatched : List LaneEvent
unmatched = events.Down 2 ∷ events.Restart 2 (left (saved_part 1 0 0 0 0 (entry 1 1 no_key proposals.Blank ∷ [])) 0 0 1) ∷ events.Deliver 27 ∷ []

-- And host 2 saves and answers that Append.
abbrev pub answered : List LaneEvent
answered = events.Ready 2 ∷ events.Saved 2 1 ∷ []

-- Hosts 5 and 1 lead in turn, 5 in terms 1 and 3, and 1 in terms 2 and 4, and host 1 decides the entry of term 2 that host 2 has. Host 2 hears this, applies it, crashes,
-- and starts again in term 3. The Append of term 3 then replaces its log after place 1 alone, and begins there with an entry of term 1.
abbrev pub falling : List LaneEvent
falling =
    events.Timeout 5 ∷ events.Ready 5 ∷ events.Saved 5 1 ∷ events.Deliver 3 ∷ events.Ready 3 ∷ events.Saved 3 1 ∷ events.Deliver 4 ∷ events.Ready 4 ∷
    events.Saved 4 1 ∷ events.Deliver 5 ∷ events.Deliver 6 ∷ events.Propose 5 (key 5 1 1) (proposals.Plain (codes "put x 1")) ∷ events.Timeout 1 ∷
    events.Timeout 1 ∷ events.Ready 1 ∷ events.Saved 1 1 ∷ events.Deliver 12 ∷ events.Ready 3 ∷ events.Saved 3 2 ∷ events.Deliver 13 ∷ events.Ready 4 ∷
    events.Saved 4 2 ∷ events.Deliver 15 ∷ events.Deliver 16 ∷ events.Ready 1 ∷ events.Saved 1 2 ∷ events.Deliver 17 ∷ events.Deliver 14 ∷
    events.Timeout 5 ∷ events.Ready 5 ∷ events.Saved 5 2 ∷ events.Deliver 32 ∷ events.Ready 3 ∷ events.Saved 3 3 ∷ events.Deliver 33 ∷ events.Ready 4 ∷
    events.Saved 4 3 ∷ events.Deliver 34 ∷ events.Deliver 35 ∷ events.Ready 5 ∷ events.Saved 5 3 ∷ events.Deliver 37 ∷ events.Ready 2 ∷ events.Saved 2 1 ∷
    events.Deliver 41 ∷ events.Deliver 42 ∷ events.Deliver 43 ∷ events.Deliver 30 ∷ events.Timeout 1 ∷ events.Ready 1 ∷ events.Saved 1 3 ∷
    events.Deliver 47 ∷ events.Ready 3 ∷ events.Saved 3 4 ∷ events.Deliver 48 ∷ events.Ready 4 ∷ events.Saved 4 4 ∷ events.Deliver 50 ∷
    events.Deliver 51 ∷ events.Ready 1 ∷ events.Saved 1 4 ∷ events.Deliver 53 ∷ events.Deliver 56 ∷ events.Deliver 57 ∷ events.Ready 3 ∷
    events.Saved 3 5 ∷ events.Deliver 58 ∷ events.Deliver 54 ∷ events.Deliver 59 ∷ events.Deliver 60 ∷ events.Ready 4 ∷ events.Saved 4 5 ∷
    events.Deliver 61 ∷ events.Propose 1 (key 1 1 1) (proposals.Plain (codes "put x 2")) ∷ events.Ready 1 ∷ events.Saved 1 5 ∷ events.Deliver 62 ∷
    events.Down 2 ∷ events.Restart 2 (left (saved_part 3 0 0 0 0 (entry 1 2 no_key proposals.Blank ∷ [])) 0 0 1) ∷ events.Deliver 44 ∷ []

-- Host 5 leads term 1, and host 1 leads term 2 and decides place 1. Host 2 installs its snapshot, crashes before the term is saved, and starts again at that snapshot in
-- term 0. Then the Append of term 1 comes.
abbrev pub falling_front : List LaneEvent
falling_front =
    events.Timeout 5 ∷ events.Ready 5 ∷ events.Saved 5 1 ∷ events.Deliver 3 ∷ events.Ready 3 ∷ events.Saved 3 1 ∷ events.Deliver 4 ∷ events.Ready 4 ∷
    events.Saved 4 1 ∷ events.Deliver 5 ∷ events.Deliver 6 ∷ events.Propose 5 (key 5 1 1) (proposals.Plain (codes "put x 1")) ∷ events.Ready 5 ∷
    events.Saved 5 2 ∷ events.Timeout 1 ∷ events.Timeout 1 ∷ events.Ready 1 ∷ events.Saved 1 1 ∷ events.Deliver 20 ∷ events.Ready 3 ∷ events.Saved 3 2 ∷
    events.Deliver 21 ∷ events.Ready 4 ∷ events.Saved 4 2 ∷ events.Deliver 23 ∷ events.Deliver 24 ∷ events.Ready 1 ∷ events.Saved 1 2 ∷
    events.Deliver 26 ∷ events.Ready 3 ∷ events.Saved 3 3 ∷ events.Deliver 29 ∷ events.Deliver 27 ∷ events.Ready 4 ∷ events.Saved 4 3 ∷
    events.Deliver 30 ∷ events.Ready 1 ∷ events.Saved 1 3 ∷ events.Chunk 1 2 (piece 2 1 2 1 1 16 (1 ∷ 2 ∷ 3 ∷ [])) ∷ events.Deliver 31 ∷
    events.Installed 2 1 2 ∷ events.Down 2 ∷ events.Restart 2 (left (saved_part 0 0 0 0 0 []) 1 2 0) ∷ events.Deliver 12 ∷ []

-- Host 1 leads term 1 and decides place 1, and its snapshot comes to host 2. Before host 2 has installed it, host 3 asks it for its vote in term 2; so host 2 answers for
-- the snapshot in term 2.
abbrev pub unled : List LaneEvent
unled =
    events.Timeout 1 ∷ events.Ready 1 ∷ events.Saved 1 1 ∷ events.Deliver 2 ∷ events.Ready 3 ∷ events.Saved 3 1 ∷ events.Deliver 3 ∷ events.Ready 1 ∷
    events.Saved 1 2 ∷ events.Deliver 5 ∷ events.Ready 3 ∷ events.Saved 3 2 ∷ events.Deliver 6 ∷ events.Chunk 1 2 (piece 1 1 1 1 1 16 (1 ∷ 2 ∷ 3 ∷ [])) ∷
    events.Ready 1 ∷ events.Saved 1 3 ∷ events.Deliver 7 ∷ events.Timeout 3 ∷ events.Ready 3 ∷ events.Saved 3 3 ∷ events.Deliver 9 ∷
    events.Installed 2 1 1 ∷ events.Ready 2 ∷ events.Saved 2 1 ∷ []

-- Host 1 leads, its entry is decided, and it crashes before its commit index is saved.
abbrev pub committed : List LaneEvent
committed =
    events.Timeout 1 ∷ events.Ready 1 ∷ events.Saved 1 1 ∷ events.Deliver 1 ∷ events.Ready 2 ∷ events.Saved 2 1 ∷ events.Deliver 3 ∷ events.Ready 1 ∷
    events.Saved 1 2 ∷ events.Deliver 4 ∷ events.Ready 2 ∷ events.Saved 2 2 ∷ events.Deliver 6 ∷ events.Down 1 ∷ []

-- It starts again from what it has saved.
abbrev pub forgets : List LaneEvent
forgets = events.Restart 1 (left (saved_part 1 1 0 0 0 (entry 1 1 no_key proposals.Blank ∷ [])) 0 0 0) ∷ []

-- Host 1 stands for election, and crashes before that is saved.
abbrev pub stood : List LaneEvent
stood = events.Timeout 1 ∷ events.Down 1 ∷ []

-- It starts again from what it has saved, which is nothing.
abbrev pub stands_back : List LaneEvent
stands_back = events.Restart 1 (left (saved_part 0 0 0 0 0 []) 0 0 0) ∷ []

-- Host 1 leads term 2 and decides place 1. Host 2, which has never heard of a term, installs its snapshot, crashes before the term is saved, and starts again at that
-- snapshot in term 0. Then it stands for election in term 1.
abbrev pub above : List LaneEvent
above =
    events.Timeout 1 ∷ events.Timeout 1 ∷ events.Ready 1 ∷ events.Saved 1 1 ∷ events.Deliver 4 ∷ events.Ready 3 ∷ events.Saved 3 1 ∷ events.Deliver 5 ∷
    events.Ready 1 ∷ events.Saved 1 2 ∷ events.Deliver 7 ∷ events.Ready 3 ∷ events.Saved 3 2 ∷ events.Deliver 8 ∷
    events.Chunk 1 2 (piece 2 1 2 1 1 16 (1 ∷ 2 ∷ 3 ∷ [])) ∷ events.Ready 1 ∷ events.Saved 1 3 ∷ events.Deliver 9 ∷ events.Installed 2 1 2 ∷
    events.Down 2 ∷ events.Restart 2 (left (saved_part 0 0 0 0 0 []) 1 2 0) ∷ events.Timeout 2 ∷ events.Ready 2 ∷ events.Saved 2 1 ∷ []

-- Host 2 has saved and answered both entries of host 5, which leads term 1. Host 1 leads term 2 and decides another entry in place 1; host 2 installs its snapshot, crashes
-- before the term is saved, and starts again at that snapshot in term 1.
abbrev pub matched : List LaneEvent
matched =
    events.Timeout 5 ∷ events.Ready 5 ∷ events.Saved 5 1 ∷ events.Deliver 3 ∷ events.Ready 3 ∷ events.Saved 3 1 ∷ events.Deliver 4 ∷ events.Ready 4 ∷
    events.Saved 4 1 ∷ events.Deliver 5 ∷ events.Deliver 6 ∷ events.Propose 5 (key 5 1 1) (proposals.Plain (codes "put x 1")) ∷ events.Ready 5 ∷
    events.Saved 5 2 ∷ events.Deliver 12 ∷ events.Ready 2 ∷ events.Saved 2 1 ∷ events.Deliver 15 ∷ events.Timeout 1 ∷ events.Timeout 1 ∷ events.Ready 1 ∷
    events.Saved 1 1 ∷ events.Deliver 21 ∷ events.Ready 3 ∷ events.Saved 3 2 ∷ events.Deliver 22 ∷ events.Ready 4 ∷ events.Saved 4 2 ∷ events.Deliver 24 ∷
    events.Deliver 25 ∷ events.Ready 1 ∷ events.Saved 1 2 ∷ events.Deliver 27 ∷ events.Ready 3 ∷ events.Saved 3 3 ∷ events.Deliver 30 ∷
    events.Deliver 28 ∷ events.Ready 4 ∷ events.Saved 4 3 ∷ events.Deliver 31 ∷ events.Ready 1 ∷ events.Saved 1 3 ∷
    events.Chunk 1 2 (piece 2 1 2 1 1 16 (1 ∷ 2 ∷ 3 ∷ [])) ∷ events.Deliver 32 ∷ events.Installed 2 1 2 ∷ events.Down 2 ∷
    events.Restart 2 (left (saved_part 1 0 0 0 0 (entry 1 1 no_key proposals.Blank ∷ entry 2 1 (key 5 1 1) (proposals.Plain (codes "put x 1")) ∷ [])) 1 2 0) ∷
    []

-- Host 5 leads term 1 with one entry. Host 1 leads term 2 and decides two places; host 2 installs its snapshot, crashes before the term is saved, and starts again at that
-- snapshot in term 0. Then it takes the Append of term 1 and answers for all that it has.
abbrev pub overmatched : List LaneEvent
overmatched =
    events.Timeout 5 ∷ events.Ready 5 ∷ events.Saved 5 1 ∷ events.Deliver 3 ∷ events.Ready 3 ∷ events.Saved 3 1 ∷ events.Deliver 4 ∷ events.Ready 4 ∷
    events.Saved 4 1 ∷ events.Deliver 5 ∷ events.Deliver 6 ∷ events.Ready 5 ∷ events.Saved 5 2 ∷ events.Timeout 1 ∷ events.Timeout 1 ∷ events.Ready 1 ∷
    events.Saved 1 1 ∷ events.Deliver 16 ∷ events.Ready 3 ∷ events.Saved 3 2 ∷ events.Deliver 17 ∷ events.Ready 4 ∷ events.Saved 4 2 ∷ events.Deliver 19 ∷
    events.Deliver 20 ∷ events.Propose 1 (key 1 1 1) (proposals.Plain (codes "put x 1")) ∷ events.Ready 1 ∷ events.Saved 1 2 ∷ events.Deliver 26 ∷
    events.Ready 3 ∷ events.Saved 3 3 ∷ events.Deliver 29 ∷ events.Deliver 27 ∷ events.Ready 4 ∷ events.Saved 4 3 ∷ events.Deliver 30 ∷ events.Ready 1 ∷
    events.Saved 1 3 ∷ events.Chunk 1 2 (piece 2 2 2 1 1 16 (1 ∷ 2 ∷ 3 ∷ [])) ∷ events.Deliver 31 ∷ events.Installed 2 2 2 ∷ events.Down 2 ∷
    events.Restart 2 (left (saved_part 0 0 0 0 0 []) 2 2 0) ∷ events.Deliver 8 ∷ events.Ready 2 ∷ events.Saved 2 1 ∷ events.Deliver 32 ∷ []

-- Host 1 asks for votes in term 1, and host 3 stands for election in the same term, with a vote for itself.
abbrev pub voted : List LaneEvent
voted = events.Timeout 1 ∷ events.Ready 1 ∷ events.Saved 1 1 ∷ events.Timeout 3 ∷ []

-- Host 3 crashes before that vote is saved, starts again, and votes for host 1.
abbrev pub votes_again : List LaneEvent
votes_again = events.Down 3 ∷ events.Restart 3 (left (saved_part 0 0 0 0 0 []) 0 0 0) ∷ events.Deliver 2 ∷ []
