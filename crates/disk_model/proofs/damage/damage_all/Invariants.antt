use Rattle.std.proofs.Common.{◌≡◌, drop, true}
use Rattle.disk_model.specs.Plain.{are_plain}
use Rattle.disk_model.specs.Plan.{all_damaged}
use Rattle.disk_model.proofs.damage.damage_all.Given as goal

abbrev pub invariant-loop-damage : goal.invariant-loop-damage
invariant-loop-damage l = record {
  files : all_damaged l.loss (drop l.damage-index l.damages) l.files.entries ≡ all_damaged l.loss l.damages l.fn.files.entries;
  plain : are_plain l.files.entries ≡ true;
}
