use Rattle.std.proofs.Common.{◌≡◌, ap, subst, sym, ◌∙◌, refl, if◌then◌else◌}
use Rattle.std.specs.Result.{is_ok}
use Rattle.disk_model.specs.Depot.{Replanned}
use Rattle.disk_model.specs.Plan.{Plan, failing_too}
use Rattle.disk_model.specs.Memory.{disk_state, plan_of}
use Rattle.disk_model.specs.declared.memory.MemDisk.{MemDisk}
use Rattle.disk_model.proofs.Shelves.{at_some, one_some, replanned_disk, tried, tried_files, tried_damages}
use Rattle.disk_model.proofs.mem_depot.MemDepot.fail.Goals as goal

pub returns-in-Some-clause-listed : goal.returns-in-Some-clause-listed
returns-in-Some-clause-listed c d is =
    let was : d ≡ c.in-Some.disk.now = one_some _ d c.in-Some.disk.now is c.in-Some.ensures.value in
    let step : Plan → Plan = λ p. if is_ok c.fail.result then failing_too c.args.call p else p in
    (c.fail.new.self, (at_some c.in-Some.is (c.disk.follows.holds c.fail.new.self)).0, subst (λ (x : MemDisk). Replanned step (disk_state x) (disk_state c.fail.new.self)) (sym was) (replanned_disk step c.in-Some.disk.now c.fail.new.self (tried c.fail.result (failing_too c.args.call) (plan_of c.in-Some.disk.now) (plan_of c.fail.new.self) c.fail.ensures.plan c.fail.ensures.err) (tried_files c.fail.result (failing_too c.args.call) (plan_of c.in-Some.disk.now) (plan_of c.fail.new.self) (λ p. refl) c.fail.ensures.plan c.fail.ensures.err) c.fail.ensures.rests))

pub returns-in-Some-clause-honest : goal.returns-in-Some-clause-honest
returns-in-Some-clause-honest c d is =
    let was : d ≡ c.in-Some.disk.now = one_some _ d c.in-Some.disk.now is c.in-Some.ensures.value in
    (c.fail.new.self, (at_some c.in-Some.is (c.disk.follows.holds c.fail.new.self)).0, λ h. tried_damages c.fail.result (failing_too c.args.call) (plan_of c.in-Some.disk.now) (plan_of c.fail.new.self) (λ p. refl) c.fail.ensures.plan c.fail.ensures.err ∙ ap (λ (x : MemDisk). x.damages.items) (sym was) ∙ h)

pub returns-in-Some-clause-others : goal.returns-in-Some-clause-others
returns-in-Some-clause-others c = (at_some c.in-Some.is (c.disk.follows.holds c.fail.new.self)).1

pub returns-in-Some-clause-arms : goal.returns-in-Some-clause-arms
returns-in-Some-clause-arms c = (at_some c.in-Some.is (c.disk.follows.holds c.fail.new.self)).2
