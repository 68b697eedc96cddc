use Rattle.std.proofs.Common.{◌≡◌, subst, sym, ◌∙◌, rules}
use Rattle.disk_model.specs.Depot.{Armed}
use Rattle.disk_model.specs.Memory.{disk_state}
use Rattle.disk_model.specs.declared.memory.MemDisk.{MemDisk}
use Rattle.disk_model.proofs.Shelves.{at_some, one_some, armed_disk, bumped}
use Rattle.disk_model.proofs.mem_depot.MemDepotDepot.arm.Goals as goal

pub returns-in-Some-clause-armed : goal.returns-in-Some-clause-armed
returns-in-Some-clause-armed c d is =
    let was : d ≡ c.in-Some.disk.now = one_some _ d c.in-Some.disk.now is c.in-Some.ensures.value in
    (c.arm.new.self, (at_some c.in-Some.is (c.disk.follows.holds c.arm.new.self)).0, subst (λ (x : MemDisk). Armed c.args.calls (disk_state x) (disk_state c.arm.new.self)) (sym was) (armed_disk c.args.calls c.in-Some.disk.now c.arm.new.self c.arm.ensures.plan c.arm.ensures.rests))

pub returns-in-Some-clause-others : goal.returns-in-Some-clause-others
returns-in-Some-clause-others c = (at_some c.in-Some.is (c.disk.follows.holds c.arm.new.self)).1

pub returns-in-Some-clause-arms : goal.returns-in-Some-clause-arms
returns-in-Some-clause-arms c h = (at_some c.in-Some.is (c.disk.follows.holds c.arm.new.self)).2 h ∙ bumped c.args.self.now.arms c.args.host h c.saturating_add.result (search (rules, c.requires)) (search (rules, c.saturating_add.ensures))

pub returns-in-Some-clause-kept : goal.returns-in-Some-clause-kept
returns-in-Some-clause-kept c = (at_some c.in-Some.is (c.disk.follows.holds c.arm.new.self)).3
