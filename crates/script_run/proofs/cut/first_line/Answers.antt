use Rattle.std.proofs.Common.{◌+◌, sym}
use Rattle.std.proofs.lemmas.List.{take_rest}
use Rattle.script_run.proofs.Parts.{cut_none, cut_found}
use Rattle.script_run.proofs.cut.first_line.Goals as goal

pub returns-in_err-at-clause-parts : goal.returns-in_err-at-clause-parts
returns-in_err-at-clause-parts c = rw c.from_residual.ensures (cut_none c.args.text.now (sym c.in_err-at.ensures))

pub returns-clause-parts : goal.returns-clause-parts
returns-clause-parts c = λ more. rw (take_rest c.args.text.now (c.in_ok-at.at + 1)) (cut_found c.args.text.now more c.in_ok-at.at (sym c.in_ok-at.ensures))
