use Rattle.std.proofs.Common.{◌≡◌, ◌++◌, ◌+◌, ◌≤◌, List, ℕ, length}
use Rattle.script_run.specs.Top.{place_in}
use Rattle.script_run.specs.Reach.{Ahead, run_on}
use Rattle.script_run.proofs.lines.run_whole.Given as goal

abbrev pub invariant-script : goal.invariant-script
invariant-script l =
    (done : List ℕ) × record {
      printed : l.out ≡ l.initial.out ++ done;
      ahead : (more : List ℕ) → Ahead done (run_on (place_in l.runner) (l.rest ++ more)) (run_on (place_in l.initial.runner) (l.text ++ more));
      sizes : l.runner.size + length l.rest ≡ l.initial.runner.size + length l.text;
      counts : l.runner.lines ≤ l.runner.size;
    }

abbrev pub decreases-script : goal.decreases-script
decreases-script l = length l.rest
