-- The cell of the program as a cell of the rules.
use Rattle.script_parts.specs.declared.cell.Cell.{Cell}
use Rattle.run_model.specs.World as world

abbrev pub cell_of : Cell → world.Cell
cell_of c = record { applied = c.applied; sessions = c.sessions; pairs = c.machine }
