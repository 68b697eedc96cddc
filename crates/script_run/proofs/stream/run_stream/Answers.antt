use Rattle.std.proofs.Common.{rules, tests, subst, arith, sym, ◌∙◌, ◌≡◌, ◌<◌, ◌≤◌, List, [], ◌++◌, ℕ, take, length}
use Rattle.std.proofs.lemmas.Grind.{common_steps}
use Rattle.std.proofs.lemmas.List.{append-nil}
use Rattle.std.proofs.lemmas.Result.{err_from_is_err_and}
use Rattle.script_run.specs.Top.{place_in}
use Rattle.script_run.specs.Reach.{Leaves, StopsAt}
use Rattle.script_run.proofs.Streams.{Under, begins, begins_within, took, took_none, gave_up, gave_up_here, went_on, stopped_here, cut_here, waits, prompt_here, prompt_piece, prompt_more}
use Rattle.script_run.proofs.stream.run_stream.Goals as goal

pub returns-in-Ok-eq0-clause-streamed : goal.returns-in-Ok-eq0-clause-streamed
returns-in-Ok-eq0-clause-streamed g c =
    let v = c.source.invariant in
    let none : c.in-Ok-eq0.field-0 ≡ 0 = search (rules, tests) in
    let u = took _ _ _ _ _ (place_in c.source.runner) c.source.held.items v.0 v.1 (take c.in-Ok-eq0.field-0 c.take.new.into) v.2.under c.in-Ok-eq0.ensures.bytes.0 in
    cut_here _ _ _ _ (place_in c.source.runner) c.source.held.items v.0 v.1
    (rw (none, append-nil c.source.held.items, append-nil v.0) at u) v.2.open_end v.2.short v.2.within

pub returns-in_err-extend_from_slice-in-Ok-clause-err : goal.returns-in_err-extend_from_slice-in-Ok-clause-err
returns-in_err-extend_from_slice-in-Ok-clause-err g c =
    let v = c.source.invariant in
    let bytes = take c.in-Ok.count c.take.new.into in
    let u = took _ _ _ _ _ (place_in c.source.runner) c.source.held.items v.0 v.1 bytes v.2.under c.in-Ok.ensures.bytes.0 in
    let sizes = v.2.under.sizes in
    let few : length (v.0 ++ bytes) < 67121153 = grind (arith, common_steps) in
    let small : length bytes ≤ 8192 = grind (arith, common_steps) in
    let t = prompt_piece v.0 bytes _ _ (waits _ _ _ _ (place_in c.source.runner) c.source.held.items v.0 v.1 v.2.under v.2.open_end v.2.short v.2.within) small in
    let p = err_from_is_err_and c.from_residual.result c.from_residual.ensures.1 in
    rw p.1 (gave_up_here _ _ _ _ (place_in c.source.runner) (c.source.held.items ++ bytes) (v.0 ++ bytes) v.1 u few t)

pub returns-in-Err-Failed-clause-streamed : goal.returns-in-Err-Failed-clause-streamed
returns-in-Err-Failed-clause-streamed g c =
    let v = c.source.invariant in
    cut_here _ _ _ _ (place_in c.source.runner) c.source.held.items v.0 v.1
    (took_none _ _ _ _ _ (place_in c.source.runner) c.source.held.items v.0 v.1 v.2.under c.in-Err-Failed.ensures.bytes) v.2.open_end v.2.short v.2.within

pub returns-in-Err-NoMemory-clause-err : goal.returns-in-Err-NoMemory-clause-err
returns-in-Err-NoMemory-clause-err g c =
    let v = c.source.invariant in
    gave_up_here _ _ _ _ (place_in c.source.runner) c.source.held.items v.0 v.1
    (took_none _ _ _ _ _ (place_in c.source.runner) c.source.held.items v.0 v.1 v.2.under c.in-Err-NoMemory.ensures.bytes) (omega (arith, v.2.under.sizes, v.2.short, v.2.below))
    (prompt_here v.0 _ _ (waits _ _ _ _ (place_in c.source.runner) c.source.held.items v.0 v.1 v.2.under v.2.open_end v.2.short v.2.within))

pub returns-in_err-stop-clause-err : goal.returns-in_err-stop-clause-err
returns-in_err-stop-clause-err g c =
    let v = c.source.invariant in
    let bytes = take c.in-Ok.count c.take.new.into in
    let u = took _ _ _ _ _ (place_in c.source.runner) c.source.held.items v.0 v.1 bytes v.2.under c.in-Ok.ensures.bytes.0 in
    let sizes = v.2.under.sizes in
    let few : length (v.0 ++ bytes) < 67121153 = grind (arith, common_steps) in
    let small : length bytes ≤ 8192 = grind (arith, common_steps) in
    let t = prompt_piece v.0 bytes _ _ (waits _ _ _ _ (place_in c.source.runner) c.source.held.items v.0 v.1 v.2.under v.2.open_end v.2.short v.2.within) small in
    let p = err_from_is_err_and c.from_residual-in_err-stop.result c.from_residual-in_err-stop.ensures.1 in
    rw p.1 (gave_up_here _ _ _ _ (place_in c.source.runner) (c.source.held.items ++ bytes) (v.0 ++ bytes) v.1 u few t)

pub returns-in-Stopped-clause-streamed : goal.returns-in-Stopped-clause-streamed
returns-in-Stopped-clause-streamed g c =
    let v = c.source.invariant in
    let bytes = take c.in-Ok.count c.take.new.into in
    let u = took _ _ _ _ _ (place_in c.source.runner) c.source.held.items v.0 v.1 bytes v.2.under c.in-Ok.ensures.bytes.0 in
    let sizes = v.2.under.sizes in
    let few : length (v.0 ++ bytes) < 67121153 = grind (arith, common_steps) in
    let small : length bytes ≤ 8192 = grind (arith, common_steps) in
    let t = prompt_piece v.0 bytes _ _ (waits _ _ _ _ (place_in c.source.runner) c.source.held.items v.0 v.1 v.2.under v.2.open_end v.2.short v.2.within) small in
    let held = c.deref.result.now in
    let joined : held ≡ c.source.held.items ++ bytes = c.deref.ensures.value ∙ c.in_ok-extend_from_slice-in-Ok.ensures.items in
    let k = subst (λ (h : List ℕ). Under (g.S.Source.left c.args.source.now) (g.S.Source.left c.take.new.self) (g.K.Sink.contents c.args.sink.now) (g.K.Sink.contents c.source.sink) (place_in c.source.runner) h (v.0 ++ bytes) v.1) (sym joined) u in
    let gone = rw c.in-Stopped.is at c.in_ok-stop.ensures in
    let out_is : c.run_whole.new.out ≡ gone.0 = rw c.new-out.ensures at gone.1 in
    let s : StopsAt c.run_whole.new.out (place_in c.source.runner) held c.in-Stopped.stop (place_in c.run_whole.new.runner).world = rw out_is gone.2 in
    stopped_here _ _ _ _ (place_in c.source.runner) held (v.0 ++ bytes) v.1 c.run_whole.new.out c.in-Stopped.stop _ k few t s

pub returns-in_err-put_all-in-Left-clause-err : goal.returns-in_err-put_all-in-Left-clause-err
returns-in_err-put_all-in-Left-clause-err g c =
    let v = c.source.invariant in
    let bytes = take c.in-Ok.count c.take.new.into in
    let u = took _ _ _ _ _ (place_in c.source.runner) c.source.held.items v.0 v.1 bytes v.2.under c.in-Ok.ensures.bytes.0 in
    let sizes = v.2.under.sizes in
    let few : length (v.0 ++ bytes) < 67121153 = grind (arith, common_steps) in
    let small : length bytes ≤ 8192 = grind (arith, common_steps) in
    let t = prompt_piece v.0 bytes _ _ (waits _ _ _ _ (place_in c.source.runner) c.source.held.items v.0 v.1 v.2.under v.2.open_end v.2.short v.2.within) small in
    let held = c.deref.result.now in
    let joined : held ≡ c.source.held.items ++ bytes = c.deref.ensures.value ∙ c.in_ok-extend_from_slice-in-Ok.ensures.items in
    let k = subst (λ (h : List ℕ). Under (g.S.Source.left c.args.source.now) (g.S.Source.left c.take.new.self) (g.K.Sink.contents c.args.sink.now) (g.K.Sink.contents c.source.sink) (place_in c.source.runner) h (v.0 ++ bytes) v.1) (sym joined) u in
    let gone = rw c.in-Left.is at c.in_ok-stop.ensures in
    let text = c.bytes.result.now in
    let out_is : text ≡ gone.0 = c.bytes.ensures ∙ (rw c.new-out.ensures at gone.1) in
    let l : Leaves text (place_in c.source.runner) held (place_in c.run_whole.new.runner) c.in-Left.rest.now = rw out_is gone.2 in
    let p = err_from_is_err_and c.from_residual-in_err-put_all-in-Left.result c.from_residual-in_err-put_all-in-Left.ensures.1 in
    rw p.1 (gave_up _ _ _ _ _ (place_in c.source.runner) (place_in c.run_whole.new.runner) held c.in-Left.rest.now (v.0 ++ bytes) v.1 text k few t l c.in_err-put_all-in-Left.ensures.err)

pub returns-in_err-held-in-Left-clause-err : goal.returns-in_err-held-in-Left-clause-err
returns-in_err-held-in-Left-clause-err g c =
    let v = c.source.invariant in
    let bytes = take c.in-Ok.count c.take.new.into in
    let u = took _ _ _ _ _ (place_in c.source.runner) c.source.held.items v.0 v.1 bytes v.2.under c.in-Ok.ensures.bytes.0 in
    let sizes = v.2.under.sizes in
    let few : length (v.0 ++ bytes) < 67121153 = grind (arith, common_steps) in
    let small : length bytes ≤ 8192 = grind (arith, common_steps) in
    let t = prompt_piece v.0 bytes _ _ (waits _ _ _ _ (place_in c.source.runner) c.source.held.items v.0 v.1 v.2.under v.2.open_end v.2.short v.2.within) small in
    let held = c.deref.result.now in
    let joined : held ≡ c.source.held.items ++ bytes = c.deref.ensures.value ∙ c.in_ok-extend_from_slice-in-Ok.ensures.items in
    let k = subst (λ (h : List ℕ). Under (g.S.Source.left c.args.source.now) (g.S.Source.left c.take.new.self) (g.K.Sink.contents c.args.sink.now) (g.K.Sink.contents c.source.sink) (place_in c.source.runner) h (v.0 ++ bytes) v.1) (sym joined) u in
    let gone = rw c.in-Left.is at c.in_ok-stop.ensures in
    let text = c.bytes.result.now in
    let out_is : text ≡ gone.0 = c.bytes.ensures ∙ (rw c.new-out.ensures at gone.1) in
    let l : Leaves text (place_in c.source.runner) held (place_in c.run_whole.new.runner) c.in-Left.rest.now = rw out_is gone.2 in
    let n = went_on _ _ _ _ _ (place_in c.source.runner) (place_in c.run_whole.new.runner) held c.in-Left.rest.now (v.0 ++ bytes) v.1 text k l c.in_ok-put_all-in-Left.ensures.ok in
    let p = err_from_is_err_and c.from_residual-in_err-held-in-Left.result c.from_residual-in_err-held-in-Left.ensures.1 in
    rw p.1 (gave_up_here _ _ _ _ (place_in c.run_whole.new.runner) c.in-Left.rest.now (v.0 ++ bytes) (v.1 ++ text) n few (prompt_more (v.0 ++ bytes) text _ _ _ t c.in_ok-put_all-in-Left.ensures.ok))

pub source-preserved : goal.source-preserved
source-preserved g c =
    let v = c.source.invariant in
    let bytes = take c.in-Ok.count c.take.new.into in
    let u = took _ _ _ _ _ (place_in c.source.runner) c.source.held.items v.0 v.1 bytes v.2.under c.in-Ok.ensures.bytes.0 in
    let sizes = v.2.under.sizes in
    let few : length (v.0 ++ bytes) < 67121153 = grind (arith, common_steps) in
    let held = c.deref.result.now in
    let joined : held ≡ c.source.held.items ++ bytes = c.deref.ensures.value ∙ c.in_ok-extend_from_slice-in-Ok.ensures.items in
    let k = subst (λ (h : List ℕ). Under (g.S.Source.left c.args.source.now) (g.S.Source.left c.take.new.self) (g.K.Sink.contents c.args.sink.now) (g.K.Sink.contents c.source.sink) (place_in c.source.runner) h (v.0 ++ bytes) v.1) (sym joined) u in
    let gone = rw c.in-Left.is at c.in_ok-stop.ensures in
    let text = c.bytes.result.now in
    let out_is : text ≡ gone.0 = c.bytes.ensures ∙ (rw c.new-out.ensures at gone.1) in
    let l : Leaves text (place_in c.source.runner) held (place_in c.run_whole.new.runner) c.in-Left.rest.now = rw out_is gone.2 in
    let n = went_on _ _ _ _ _ (place_in c.source.runner) (place_in c.run_whole.new.runner) held c.in-Left.rest.now (v.0 ++ bytes) v.1 text k l c.in_ok-put_all-in-Left.ensures.ok in
    let same : c.in_ok-held-in-Left.held.items ≡ c.in-Left.rest.now = c.in_ok-held-in-Left.ensures.items in (
      v.0 ++ bytes,
      v.1 ++ text,
      record {
        under = rw same n;
        counts = l.counts;
        below = l.below;
        within = l.within;
        short = rw same l.short;
        open_end = rw same l.open_end;
        later_source = omega (arith, v.2.later_source, c.in-Ok.ensures.cause.later);
        later = omega (arith, v.2.later, c.in_ok-put_all-in-Left.ensures.cause.later);
      },
    )

pub source-init : goal.source-init
source-init g c =
    let r = c.requires in
    let p = place_in c.args.runner.now in (
      [],
      [],
      record {
        under = begins _ _ p c.new-held.result.items r.world r.lines r.size c.new-held.ensures.items;
        counts = omega (arith, r.lines);
        below = omega (arith, r.size);
        within = begins_within p.world p.size r.world r.size;
        short = rw c.new-held.ensures.items (omega arith);
        open_end = rw c.new-held.ensures.items tt;
        later_source = omega arith;
        later = omega arith;
      },
    )
