use Rattle.std.proofs.Common.{◌≡◌, refl}
use Rattle.script_text.specs.declared.limit.TheConstants.{MOST_SCRIPT}
use Rattle.script_text.proofs.print.print_limit.Goals as goal

pub returns-in-Script : goal.returns-in-Script
returns-in-Script c = let e : MOST_SCRIPT ≡ 67108864 = refl in rw (c.in-Script.is, e) c.print_named-in-Script.ensures
