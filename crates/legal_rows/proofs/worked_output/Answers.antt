use Rattle.legal_rows.specs.Outputs.{worked}
use Rattle.legal_rows.proofs.Computed.{passes, worked_passes}
use Rattle.legal_rows.proofs.worked_output.Goals as goal

pub returns : goal.returns
returns c = record { legal = passes c.decides_legal.ensures worked worked_passes }
