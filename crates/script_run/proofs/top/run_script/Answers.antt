use Rattle.std.proofs.Common.{refl, inl, inr}
use Rattle.script_run.proofs.Streams.{nothing_done}
use Rattle.script_run.proofs.Exact.{stopped_runs, stopped_headed, cut_runs, cut_headed, faulted_runs, given_up_runs}
use Rattle.script_run.proofs.top.run_script.Goals as goal

pub returns-in-Ok-Stopped-clause-run : goal.returns-in-Ok-Stopped-clause-run
returns-in-Ok-Stopped-clause-run g c = stopped_runs c.runs_are_legal.ensures.so_far c.scripts_end.ensures _ _ _ _ _ c.in-Ok-Stopped.stop _ _ _ (rw c.in-Ok-Stopped.field-0-is at c.in-Ok-Stopped.ensures.streamed) c.finish.ensures.finished

pub returns-in-Ok-Stopped-clause-headline : goal.returns-in-Ok-Stopped-clause-headline
returns-in-Ok-Stopped-clause-headline g c = λ e. stopped_headed c.runs_are_legal.ensures.whole _ _ _ _ _ c.in-Ok-Stopped.stop _ _ _ (rw c.in-Ok-Stopped.field-0-is at c.in-Ok-Stopped.ensures.streamed) c.finish.ensures.finished e

pub returns-in-Ok-Dry-clause-run : goal.returns-in-Ok-Dry-clause-run
returns-in-Ok-Dry-clause-run g c = cut_runs c.runs_are_legal.ensures.so_far c.scripts_end.ensures _ _ _ _ _ c.in-Ok-Dry.line _ _ (rw c.in-Ok-Dry.field-0-is at c.in-Ok-Dry.ensures.streamed) (c.in-Ok-Dry.ensures.dry c.in-Ok-Dry.line c.in-Ok-Dry.field-0-is)
    (rw c.new-out.ensures at c.finish-in-Ok-Dry.ensures.finished)

pub returns-in-Ok-Dry-clause-headline : goal.returns-in-Ok-Dry-clause-headline
returns-in-Ok-Dry-clause-headline g c = λ e. cut_headed _ _ _ _ _ _ _ c.finish-in-Ok-Dry.ensures.finished e

pub returns-in-Ok-Faulted-clause-run : goal.returns-in-Ok-Faulted-clause-run
returns-in-Ok-Faulted-clause-run g c = rw c.status-in-Ok-Faulted.ensures (faulted_runs c.runs_are_legal.ensures.so_far _ _ _ _ _ _ 4 refl (rw c.in-Ok-Faulted.field-0-is at c.in-Ok-Faulted.ensures.streamed))

pub returns-in-Err-Failed-clause-run : goal.returns-in-Err-Failed-clause-run
returns-in-Err-Failed-clause-run g c = rw c.status-in-Err-Failed.ensures (given_up_runs c.runs_are_legal.ensures.so_far _ _ _ _ 5 (inl refl) c.in-Err-Failed.ensures.err)

pub returns-clause-run : goal.returns-clause-run
returns-clause-run g c = rw c.status-in-Err-NoMemory.ensures (given_up_runs c.runs_are_legal.ensures.so_far _ _ _ _ 8 (inr refl) c.in-Err-NoMemory.ensures.err)

pub returns-in_default-clause-run : goal.returns-in_default-clause-run
returns-in_default-clause-run g c = rw c.status.ensures (given_up_runs c.runs_are_legal.ensures.so_far _ _ _ _ 8 (inr refl) (nothing_done _ _))
