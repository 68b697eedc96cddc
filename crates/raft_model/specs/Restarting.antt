-- A replica that starts again, from what its store has, the mark of its snapshot and its machine's durable index. Source: dissertation chapter 5; that the commit index is saved is this project's own.
use Rattle.std.specs.Prelude.{ℕ, ◌^◌, ◌+◌, ◌&&◌, Bool, not, nat_lt, nat_le, max, if◌then◌else◌}
use Rattle.host_ids.specs.declared.batch.Batch.{Batch}
use Rattle.raft_model.specs.declared.saved.SavedState.{SavedState}
use Rattle.raft_model.specs.declared.durable.Durable.{Durable}
use Rattle.log_view.specs.Log.{Log, last, reset}
use Rattle.raft_model.specs.Snapping.{stays}
use Rattle.raft_model.specs.declared.state.State.{State as Replica}
use Rattle.raft_model.specs.Replica.{fresh}

-- what a store has, which it tells as one batch of all kept entries
abbrev pub state_of : Batch → SavedState
state_of b = record { term = b.term; vote = b.vote; commit = b.commit; front = b.front; front_term = b.front_term; entries = b.entries }

abbrev pub log_of : SavedState → Log
log_of b = record { front = b.front; front_term = b.front_term; entries = b.entries }

-- a log that doesn't hold the marked place gives way to it
abbrev pub marked_log : Log → ℕ → ℕ → Log
marked_log l s t = if nat_lt l.front s && not (stays l s t) then reset s t else l

abbrev pub begun_log : Durable → Log
begun_log d = marked_log (log_of (state_of d.batch)) d.mark d.mark_term

-- the greatest index that is known as decided
abbrev pub begun_commit : Durable → ℕ
begun_commit d = max d.batch.commit (max d.mark d.machine)

-- all that the log holds counts as saved, nothing is held, and the last batch taken is what the store has
abbrev pub restarted : Durable → Replica
restarted d = record fresh {
  term = d.batch.term;
  vote = d.batch.vote;
  log = begun_log d;
  commit = begun_commit d;
  stable = last (begun_log d);
  from = last (begun_log d) + 1;
  taken = record { term = d.batch.term; vote = d.batch.vote; commit = d.batch.commit; front = d.batch.front };
}

-- where the machine begins: at the mark, or at its own durable index where that is greater
abbrev pub beginning : Durable → ℕ
beginning d = max d.mark d.machine

-- the parts fit together: the machine's beginning lies from front to last, the commit index is at most last, and term and last index are below 2^62
abbrev pub is_fit : Durable → Bool
is_fit d =
    nat_le (begun_log d).front (beginning d) && nat_le (beginning d) (last (begun_log d)) && nat_le (begun_commit d) (last (begun_log d))
    && nat_lt d.batch.term (2 ^ 62) && nat_lt (last (begun_log d)) (2 ^ 62)
