-- The rows of Propose and of the local proposal. Source: dissertation section 6.2; that a follower hands proposals on is this project's own.
use Rattle.std.specs.Prelude.{◌==◌, ◌&&◌, not, if◌then◌else◌}
use Rattle.host_ids.specs.declared.entry.Key.{Key}
use Rattle.host_ids.specs.declared.proposal.Proposal.{Proposal}
use Rattle.wire_types.specs.declared.envelope.Body.TheVariants as bodies
use Rattle.roster.specs.Roster.{Seat}
use Rattle.raft_model.specs.declared.state.State.{State as Replica}
use Rattle.raft_model.specs.Replica.{Row, quiet, notes_dropped, is_leader, is_full, sent_in, appended_to_all}

-- | Propose{key, p} | Leader | append p with the key; AppendTo each other |
-- | Propose | else, or full | nothing |
abbrev pub on_propose : Seat → Key → Proposal → Replica → Row
on_propose s key p r = if is_leader r && not (is_full r) then quiet (appended_to_all s key p r) else quiet r

-- | local proposal | Leader | as Propose |
-- | local proposal | leader known | send Propose to the leader |
-- | local proposal | else, or full | note Dropped |
abbrev pub on_local_proposal : Seat → Key → Proposal → Replica → Row
on_local_proposal s key p r =
    if is_full r then notes_dropped key r
    else (if is_leader r then quiet (appended_to_all s key p r)
    else (if r.leader == 0 then notes_dropped key r
    else quiet (sent_in 0 s r.leader (bodies.Propose key p) r)))
