use Rattle.std.proofs.Common.{refl}
use Rattle.disk_model.specs.Shelf.{HasNew}
use Rattle.disk_model.proofs.Shelves.{each_disk, new_disk}
use Rattle.disk_model.proofs.mem_depot.MemDepot.new.Goals as goal

pub returns-clause-disks : goal.returns-clause-disks
returns-clause-disks c = each_disk HasNew _ _ _ _ _ _ _ _ _ (c.new.result, refl, new_disk c.new.result c.new.ensures.plan c.new.ensures.faults) (c.new-2.result, refl, new_disk c.new-2.result c.new-2.ensures.plan c.new-2.ensures.faults) (c.new-3.result, refl, new_disk c.new-3.result c.new-3.ensures.plan c.new-3.ensures.faults) (c.new-4.result, refl, new_disk c.new-4.result c.new-4.ensures.plan c.new-4.ensures.faults) (c.new-5.result, refl, new_disk c.new-5.result c.new-5.ensures.plan c.new-5.ensures.faults) (c.new-6.result, refl, new_disk c.new-6.result c.new-6.ensures.plan c.new-6.ensures.faults) (c.new-7.result, refl, new_disk c.new-7.result c.new-7.ensures.plan c.new-7.ensures.faults) (c.new-8.result, refl, new_disk c.new-8.result c.new-8.ensures.plan c.new-8.ensures.faults) (c.new-9.result, refl, new_disk c.new-9.result c.new-9.ensures.plan c.new-9.ensures.faults)
