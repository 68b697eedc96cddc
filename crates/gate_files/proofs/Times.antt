-- How time goes on, call by call.
use Rattle.std.proofs.Common.{le_refl, le_trans, inl, inr, ⊎_elim}
use Rattle.disk_model.specs.Crash.{Image}
use Rattle.disk_model.specs.State.{DiskState, IsDisk}
use Rattle.disk_model.specs.Calls.{GoesOn}
use Rattle.gate_files.specs.Moments.{LeavesOnly}

-- before any call
pub begins : (s : DiskState) (kind : Image → Type 0) → IsDisk s → s.honest → ((c : Image) → s.may_leave c → kind c) → LeavesOnly s s kind
begins s kind disk honest now = record { later = le_refl s.moment; each = λ c l. now c (disk.only_now honest c l); before = λ t c u l. inl l; keeps = λ t c u l. l }

-- and after one more
pub goes_on : (old mid new : DiskState) (kind : Image → Type 0) → LeavesOnly old mid kind → mid.honest → GoesOn mid new → ((c : Image) → new.may_leave c → kind c) → LeavesOnly old new kind
goes_on old mid new kind so_far honest on now =
    let time = on.time honest in
    record {
      later = le_trans so_far.later time.later;
      each = λ c l. ⊎_elim (so_far.each c) (now c) (time.nothing_else old.moment c so_far.later l);
      before = λ t c u l. ⊎_elim (so_far.before t c u) (λ m. inr (now c m)) (time.nothing_else t c (le_trans u so_far.later) l);
      keeps = λ t c u l. time.keeps t c (le_trans u so_far.later) (so_far.keeps t c u l);
    }
