use Rattle.std.proofs.Common.{◌≡◌}
use Rattle.disk_model.proofs.Shelves.{at_some, one_some, damaged_disk, undamaged_disk}
use Rattle.disk_model.proofs.mem_depot.MemDepot.damage.Goals as goal

pub returns-in-Some-clause-listed : goal.returns-in-Some-clause-listed
returns-in-Some-clause-listed c d is =
    let was : d ≡ c.in-Some.disk.now = one_some _ d c.in-Some.disk.now is c.in-Some.ensures.value in
    (c.damage.new.self, (at_some c.in-Some.is (c.disk.follows.holds c.damage.new.self)).0, damaged_disk c.damage.result c.args.loss c.args.file c.args.bytes.now d c.in-Some.disk.now c.damage.new.self was c.damage.ensures.plan c.damage.ensures.rests)

pub returns-in-Some-clause-err : goal.returns-in-Some-clause-err
returns-in-Some-clause-err c d is =
    let was : d ≡ c.in-Some.disk.now = one_some _ d c.in-Some.disk.now is c.in-Some.ensures.value in
    (c.damage.new.self, (at_some c.in-Some.is (c.disk.follows.holds c.damage.new.self)).0, undamaged_disk c.damage.result d c.in-Some.disk.now c.damage.new.self was c.damage.ensures.err c.damage.ensures.rests)

pub returns-in-Some-clause-others : goal.returns-in-Some-clause-others
returns-in-Some-clause-others c = (at_some c.in-Some.is (c.disk.follows.holds c.damage.new.self)).1

pub returns-in-Some-clause-arms : goal.returns-in-Some-clause-arms
returns-in-Some-clause-arms c = (at_some c.in-Some.is (c.disk.follows.holds c.damage.new.self)).2
