use Rattle.std.proofs.Common.{ap, refl, ◌∙◌}
use Rattle.disk_model.specs.Files.{change}
use Rattle.disk_model.specs.Plain.{are_plain}
use Rattle.disk_model.specs.Plan.{damaged}
use Rattle.disk_model.proofs.Plain.{plain_change, from_plain, to_plain}
use Rattle.disk_model.proofs.damage.damage_one.Goals as goal

pub returns-in_ok-damage_in-clause-plain : goal.returns-in_ok-damage_in-clause-plain
returns-in_ok-damage_in-clause-plain c = ap are_plain c.in_ok-damage_in.ensures.ok ∙ to_plain (change c.args.damage.now.file (damaged c.as_slice.result.now) c.args.files.now.entries) (plain_change c.args.damage.now.file (damaged c.as_slice.result.now) c.args.files.now.entries (λ s gone. record { listed = refl; gone = refl }) (from_plain c.args.files.now.entries c.requires))
