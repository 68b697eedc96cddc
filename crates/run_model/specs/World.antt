-- The world of a run: the hosts that are declared, the group with its replicas, what each host keeps beside its replica, and the requests and sessions. Source: this project's own.
use Rattle.std.specs.Prelude.{ℕ, List, [], Bool, replicate, slice_index_or}
use Rattle.std.specs.declared.cmp.Ordering.{Ordering}
use Rattle.std.specs.Ordering.{nat_cmp, ordering_then}
use Rattle.host_ids.specs.declared.entry.Key.{Key}
use Rattle.object_model.specs.Object.{Pairs}
use Rattle.session_lru.specs.Table.{Table}
use Rattle.roster.specs.Roster.{none_set, is_set}
use Rattle.raft_model.specs.Group.{Group, fresh_group, key_order}
use Rattle.run_model.specs.declared.client.ClientSession.{ClientSession}
use Rattle.run_model.specs.declared.told.Want.{Want}
use Rattle.run_model.specs.declared.told.Waiting.{Waiting}
use Rattle.host_ids.specs.declared.proposal.TheConstants.{MOST_SESSIONS}

-- the sessions and the object, and how many entries they were given
pub record Cell : Type 0 where
  pub applied : ℕ
  pub sessions : Table
  pub pairs : Pairs

-- a cell without sessions and keys, in which at most `limit` sessions may stand
abbrev pub new_cell : ℕ → Cell
new_cell limit = record { applied = 0; sessions = record { limit = limit; sessions = [] }; pairs = [] }

-- waiting reads in order of fronts, and then of keys: at one start of a host the order of asking
abbrev pub waiting_order : Waiting → Waiting → Ordering
waiting_order a b = ordering_then (nat_cmp a.front b.front) (key_order a.key b.key)

-- the open requests by key, and of the reads among them those that are confirmed and wait for their front
pub record Open : Type 0 where
  pub wants : List (Key × Want)
  pub waiting : List Waiting

-- what a host keeps beside its replica: the cell that entries are given to, and the requests that were asked at it and are open
pub record Node : Type 0 where
  pub cell : Cell
  pub requests : Open

abbrev pub new_node : ℕ → Node
new_node limit = record { cell = new_cell limit; requests = record { wants = []; waiting = [] } }

-- a table has ten places, one for each number of a host
pub record World : Type 0 where
  pub declared : List Bool  -- which hosts are declared, a table by host
  pub group : Group  -- group 1, which has no voters before it is declared
  pub limit : ℕ  -- how many sessions may stand in it
  pub nodes : List Node  -- a table by host
  pub contexts : List (List (List ℕ))  -- those of each host's requests in order of their serials, a table by host
  pub clients : List (List ℕ × ClientSession)  -- the clients' sessions by their names
  pub settled : ℕ  -- a settle delivers the envelopes with greater numbers
  pub appended : ℕ  -- how many entries leaders have appended, counted up to the number at which a run stops

abbrev pub start : World
start = record {
  declared = none_set;
  group = fresh_group 1 [];
  limit = MOST_SESSIONS;
  nodes = replicate 10 (new_node MOST_SESSIONS);
  contexts = replicate 10 [];
  clients = [];
  settled = 0;
  appended = 0;
}

abbrev pub is_declared : World → ℕ → Bool
is_declared w h = is_set w.declared h

abbrev pub node_at : World → ℕ → Node
node_at w h = slice_index_or w.nodes h (new_node MOST_SESSIONS)

-- the contexts of a host's requests
abbrev pub contexts_at : List (List (List ℕ)) → ℕ → List (List ℕ)
contexts_at contexts h = slice_index_or contexts h []
