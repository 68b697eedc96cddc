use Rattle.std.proofs.Common.{◌≡◌, subst, sym}
use Rattle.disk_model.specs.Depot.{Powered}
use Rattle.disk_model.specs.Memory.{disk_state}
use Rattle.disk_model.specs.declared.memory.MemDisk.{MemDisk}
use Rattle.disk_model.proofs.Shelves.{at_some, one_some, never_failed}
use Rattle.disk_model.proofs.Lost.{powered_disk}
use Rattle.disk_model.proofs.mem_depot.MemDepotDepot.power.Goals as goal

pub returns-in-Some-clause-powered : goal.returns-in-Some-clause-powered
returns-in-Some-clause-powered c d is =
    let was : d ≡ c.in-Some.disk.now = one_some _ d c.in-Some.disk.now is c.in-Some.ensures.value in
    (c.lose.new.self, (at_some c.in-Some.is (c.disk.follows.holds c.lose.new.self)).0, subst (λ (x : MemDisk). Powered c.args.choice c.lose.result (disk_state x) (disk_state c.lose.new.self)) (sym was) (powered_disk c.args.choice c.lose.result c.in-Some.disk.now c.lose.new.self c.lose.ensures.plan c.lose.ensures.damages c.lose.ensures.rests c.lose.ensures.left c.lose.ensures.still (never_failed _ c.lose.result c.lose.ensures.only)))

pub returns-in-Some-clause-others : goal.returns-in-Some-clause-others
returns-in-Some-clause-others c = (at_some c.in-Some.is (c.disk.follows.holds c.lose.new.self)).1

pub returns-in-Some-clause-arms : goal.returns-in-Some-clause-arms
returns-in-Some-clause-arms c = (at_some c.in-Some.is (c.disk.follows.holds c.lose.new.self)).2

pub returns-in-Some-clause-kept : goal.returns-in-Some-clause-kept
returns-in-Some-clause-kept c = (at_some c.in-Some.is (c.disk.follows.holds c.lose.new.self)).3
