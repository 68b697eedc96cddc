use Rattle.std.proofs.Common.{◌≡◌, refl, sym, ◌∙◌, ap, ◌++◌, ◌+◌, List, ℕ, None, length, append_assoc, arith}
use Rattle.run_model.specs.Run.{turn, reached, text_of}
use Rattle.script_world.specs.World.{world_of}
use Rattle.script_run.proofs.Runs.{ends, at_limit, at_bad, at_end, at_long, next_ahead, full_reached, reached_below}
use Rattle.script_run.proofs.lines.run_whole.Goals as goal

pub returns-in-Some-reached : goal.returns-in-Some-reached
returns-in-Some-reached c =
    let v = c.script.invariant in
    let r = c.script.runner in (
      v.0,
      v.1.printed,
      record {
        own = λ spent. spent;
        reached = λ more. ends v.0 _ _ _ _ (v.1.ahead more) (at_limit (world_of r.world) r.lines r.size (c.script.rest.now ++ more) c.in-Some-reached.limit (sym c.reached.ensures ∙ c.in-Some-reached.is));
      },
    )

pub returns-in-Err-BadLine : goal.returns-in-Err-BadLine
returns-in-Err-BadLine c =
    let v = c.script.invariant in
    let r = c.script.runner in
    let bad = c.in-Err-BadLine.ensures.bad c.in-Err-BadLine.field-0-0 (rw c.in-Err-BadLine.field-0-is refl) in (
      v.0,
      v.1.printed,
      record {
        own = λ spent. spent;
        reached = λ more. ends v.0 _ _ _ _ (v.1.ahead more)
            (rw (c.in-Some.ensures.parts more)
            (at_bad (world_of r.world) r.lines r.size c.in-Some.line.now (c.in-Some.after.now ++ more) (sym c.reached.ensures ∙ c.in_default-reached.is) bad.1));
      },
    )

pub returns-then-is_end : goal.returns-then-is_end
returns-then-is_end c =
    let v = c.script.invariant in
    let r = c.script.runner in (
      v.0,
      v.1.printed,
      record {
        own = λ spent. spent;
        reached = λ more. ends v.0 _ _ _ _ (v.1.ahead more)
            (rw (c.in-Some.ensures.parts more)
            (at_end (world_of r.world) r.lines r.size c.in-Some.line.now (c.in-Some.after.now ++ more) c.in-Ok.said (sym c.reached.ensures ∙ c.in_default-reached.is) c.in-Ok.ensures.line (sym c.is_end.ensures ∙ c.if-is_end.true)));
      },
    )

pub returns-in-Some-2 : goal.returns-in-Some-2
returns-in-Some-2 c =
    let v = c.script.invariant in
    let r = c.script.runner in
    let w = world_of r.world in
    let lines = text_of (turn c.in-Ok.said (r.size + (length c.in-Some.line.now + 1)) w).told in (
      v.0 ++ lines,
      c.in_ok-limit.ensures.told ∙ ap (λ (l : List ℕ). l ++ lines) v.1.printed ∙ append_assoc c.args.out.now v.0 lines,
      record {
        own = λ spent. spent;
        reached = λ more. rw c.in_ok-limit.ensures.world
            (full_reached v.0 w r.lines r.size (c.script.rest.now ++ more) c.in-Some.line.now (c.in-Some.after.now ++ more) c.in-Ok.said c.in-Some-2.limit _ (v.1.ahead more) (c.in-Some.ensures.parts more)
            (sym c.reached.ensures ∙ c.in_default-reached.is) c.in-Ok.ensures.line (sym c.is_end.ensures ∙ c.if-is_end.false) (sym c.in_ok-limit.ensures.full ∙ c.in-Some-2.is));
      },
    )

pub script-preserved : goal.script-preserved
script-preserved c =
    let v = c.script.invariant in
    let r = c.script.runner in
    let w = world_of r.world in
    let lines = text_of (turn c.in-Ok.said (r.size + (length c.in-Some.line.now + 1)) w).told in (
      v.0 ++ lines,
      record {
        printed = c.in_ok-limit.ensures.told ∙ ap (λ (l : List ℕ). l ++ lines) v.1.printed ∙ append_assoc c.args.out.now v.0 lines;
        ahead = λ more. rw c.in_ok-limit.ensures.world
            (next_ahead v.0 w r.lines r.size (c.script.rest.now ++ more) c.in-Some.line.now (c.in-Some.after.now ++ more) c.in-Ok.said _ (v.1.ahead more) (c.in-Some.ensures.parts more)
            (sym c.reached.ensures ∙ c.in_default-reached.is) c.in-Ok.ensures.line (sym c.is_end.ensures ∙ c.if-is_end.false) (sym c.in_ok-limit.ensures.full ∙ c.in_default-2.is));
        sizes = omega (arith, c.in-Some.ensures.length, v.1.sizes);
        counts = omega (arith, v.1.counts);
      },
    )

pub returns-in-Some-full : goal.returns-in-Some-full
returns-in-Some-full c =
    let v = c.script.invariant in
    let r = c.script.runner in (
      v.0,
      v.1.printed,
      record {
        own = λ spent. spent;
        reached = λ more. ends v.0 _ _ _ _ (v.1.ahead more) (at_limit (world_of r.world) r.lines r.size (c.script.rest.now ++ more) c.in-Some-full.limit (sym c.reached-full.ensures ∙ c.in-Some-full.is));
      },
    )

pub returns-then-rest-gt-MOST_LINE : goal.returns-then-rest-gt-MOST_LINE
returns-then-rest-gt-MOST_LINE c =
    let v = c.script.invariant in
    let r = c.script.runner in (
      v.0,
      v.1.printed,
      record {
        own = λ spent. spent;
        reached = λ more. ends v.0 _ _ _ _ (v.1.ahead more)
            (at_long (world_of r.world) r.lines r.size c.script.rest.now more (sym c.reached-full.ensures ∙ c.in_default-full.is) c.in_default.ensures.parts c.if-rest-gt-MOST_LINE.true);
      },
    )

pub returns : goal.returns
returns c =
    let v = c.script.invariant in
    let r = c.script.runner in
    let within : reached (world_of r.world) r.size ≡ None = sym c.reached-full.ensures ∙ c.in_default-full.is in (
      v.0,
      v.1.printed,
      record {
        ahead = v.1.ahead;
        open_end = c.in_default.ensures.parts;
        short = c.if-rest-gt-MOST_LINE.false;
        below = reached_below (world_of r.world) r.size within;
        within = within;
        sizes = v.1.sizes;
        counts = v.1.counts;
      },
    )
