-- What a call promises that does a step or a turn of the rules.
use Rattle.std.specs.Prelude.{◌≡◌, ◌++◌, List, Option}
use Rattle.script_text.specs.declared.told.Told.{Told}
use Rattle.script_text.specs.declared.limit.Limit.{Limit}
use Rattle.run_model.specs.World as rules
use Rattle.run_model.specs.Run.{RunStep, Turn}

-- the world is the one after this step, and the step's lines were told after those that were told before
pub record Took (step : RunStep) (new : rules.World) (before after : List Told) : Type 0 where
  pub world : new ≡ step.world
  pub told : after ≡ before ++ step.told

-- the same of a turn, in which this limit was reached
pub record Turned (turn : Turn) (new : rules.World) (before after : List Told) (limit : Option Limit) : Type 0 where
  pub world : new ≡ turn.world
  pub told : after ≡ before ++ turn.told
  pub full : limit ≡ turn.full
