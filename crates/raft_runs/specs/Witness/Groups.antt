-- The groups that the runs begin from and lead to. Source: this project's own.
use Rattle.std.specs.Prelude.{ℕ, List, [], ◌∷◌, map}
use Rattle.host_ids.specs.declared.entry.Entry.{Entry}
use Rattle.log_view.specs.Log.{Log}
use Rattle.raft_model.specs.declared.event.LaneEvent.{LaneEvent}
use Rattle.raft_model.specs.Group.{Group, fresh_group, replica_at, run}

-- groups of three and of five voters that have just begun
abbrev pub three : Group
three = fresh_group 1 (1 ∷ 2 ∷ 3 ∷ [])

abbrev pub five : Group
five = fresh_group 1 (1 ∷ 2 ∷ 3 ∷ 4 ∷ 5 ∷ [])

-- the group that events lead to
abbrev pub after : List LaneEvent → Group → Group
after es g = (run es g).group

-- a host's log, and the terms of its entries
abbrev pub log_at : Group → ℕ → Log
log_at g v = (replica_at g v).log

abbrev pub terms : List Entry → List ℕ
terms es = map (λ e. e.term) es
