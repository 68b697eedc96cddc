use Rattle.std.proofs.Common.{[], refl}
use Rattle.log_record.specs.Store.{nothing_yet}
use Rattle.log_record.specs.laws.Files.{to_opens}
use Rattle.log_record.proofs.gate_file.make.Goals as goal

pub returns-clause-made : goal.returns-clause-made
returns-clause-made g c = λ honest empty. (let is = c.in_ok-make.ensures.made honest empty in (to_opens c.args.file [] nothing_yet _ tt refl is.opens, is.sure))
