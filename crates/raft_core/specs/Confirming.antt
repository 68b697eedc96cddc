-- The confirming of reads, from a replica that has notes already.
use Rattle.std.specs.Prelude.{List, []}
use Rattle.read_index.specs.declared.reads.OpenRead.{OpenRead}
use Rattle.raft_model.specs.declared.note.Note.{Note}
use Rattle.raft_model.specs.declared.state.State.{State as Replica}
use Rattle.roster.specs.Roster.{Seat}
use Rattle.raft_model.specs.Replica.{Row}
use Rattle.raft_model.specs.Reading.{confirm}

-- these reads wait, and all else stays
abbrev pub waits : List OpenRead → Replica → Replica
waits reads r = record r { reads = record r.reads { waiting = reads } }

-- with no notes yet this is what the rows do
abbrev pub confirm_from : Seat → Replica → List Note → Row
confirm_from s r notes = confirm s r.reads.waiting (record { replica = waits [] r; notes = notes })
