use Rattle.std.proofs.Common.{rules, take, drop, sym, arith}
use Rattle.std.proofs.Math.Seq.{take-add}
use Rattle.std.proofs.lemmas.List.{take-append-drop, take_rest}
use Rattle.std.proofs.lemmas.Result.{err_from_is_err_and}
use Rattle.fault_io.proofs.Known.{Appends-append, Appends-kept}
use Rattle.fault_io.proofs.whole.put_all.Goals as goal

pub returns-in_err-count-clause-err : goal.returns-in_err-count-clause-err
returns-in_err-count-clause-err g c =
    let p = err_from_is_err_and c.from_residual.result c.from_residual.ensures.1 in
    rw p.1 (
      take c.loop-done.done c.args.bytes.now,
      drop c.loop-done.done c.args.bytes.now,
      sym (take-append-drop c.loop-done.done c.args.bytes.now),
      Appends-kept _ _ _ _ c.loop-done.invariant.written c.in_err-count.ensures.bytes,
    )

pub loop-done-preserved : goal.loop-done-preserved
loop-done-preserved g c = record {
  within = search rules;
  written = rw (take-add, ← take_rest c.args.bytes.now c.loop-done.done) (Appends-append _ _ _ _ _ c.loop-done.invariant.written c.in_ok-count.ensures.bytes);
  later = omega (arith, c.in_ok-count.ensures.cause.later);
}
