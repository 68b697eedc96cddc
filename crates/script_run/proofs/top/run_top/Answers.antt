use Rattle.script_run.proofs.Exact.{usage_is}
use Rattle.script_run.proofs.top.run_top.Goals as goal

pub returns-then-not-is_run-clause-usage : goal.returns-then-not-is_run-clause-usage
returns-then-not-is_run-clause-usage g c = λ _. rw usage_is (rw c.number.ensures at c.put_last.ensures.put)
