use Rattle.std.proofs.Common.{◌∙◌}
use Rattle.roster.proofs.Majority.{same_majority}
use Rattle.roster.proofs.has_reached.Goals as goal

pub returns : goal.returns
returns c = c.has_majority.ensures ∙ same_majority _ _ c.args.voters.now c.requires.hosts c.reached_by.ensures
