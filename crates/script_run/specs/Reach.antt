-- What a run has come to, whatever comes next.
use Rattle.std.specs.Prelude.{◌≡◌, ◌≤◌, ◌<◌, ◌+◌, ◌++◌, ◌==◌, ℕ, List, Option, None, false, length}
use Rattle.std.specs.List.{AllByRecursion}
use Rattle.std.specs.Io.KnownBytes.{Appends, Consumes}
use Rattle.fault_io.specs.Faults.{WritesFront}
use Rattle.run_model.specs.declared.told.Stop.{Stop}
use Rattle.run_model.specs.declared.told.Stop.TheVariants.{Ended, Bad, Full, Spent}
use Rattle.run_model.specs.World.{World}
use Rattle.script_text.specs.Script.{parts_of}
use Rattle.run_model.specs.Run.{Outcome, run, outcome_of, text_of, reached}
use Rattle.script_text.specs.declared.limit.TheConstants.{MOST_LINE, MOST_SCRIPT}

-- the stop and the world of this outcome, and these are its lines
pub record ComesTo (done : List ℕ) (total : Outcome) (stop : Stop) (world : World) : Type 0 where
  pub stop_is : stop ≡ total.stop
  pub world_is : world ≡ total.world
  pub told : done ≡ text_of total.told

-- these lines, and what the rest of the run still tells, are all that the whole run tells
pub record Ahead (done : List ℕ) (rest total : Outcome) : Type 0 where
  pub stop : rest.stop ≡ total.stop
  pub world : rest.world ≡ total.world
  pub whole : done ++ text_of rest.told ≡ text_of total.told

abbrev pub HasNoFeed : List ℕ → Type 0
HasNoFeed text = AllByRecursion (λ b. (b == 10) ≡ false) text

-- where a run stands: what is declared, its world, its lines, and their bytes
pub record Place : Type 0 where
  pub world : World
  pub lines : ℕ
  pub size : ℕ

abbrev pub run_on : Place → List ℕ → Outcome
run_on p text = run p.world p.lines p.size (parts_of text)

-- the whole lines of a text are run, and what is left is less than a line, which may go on
pub record Leaves (done : List ℕ) (before : Place) (text : List ℕ) (after : Place) (rest : List ℕ) : Type 0 where
  pub ahead : (more : List ℕ) → Ahead done (run_on after (rest ++ more)) (run_on before (text ++ more))
  pub open_end : HasNoFeed rest
  pub short : length rest ≤ MOST_LINE
  pub below : after.size < MOST_SCRIPT
  pub within : reached after.world after.size ≡ None
  pub sizes : after.size + length rest ≡ before.size + length text
  pub counts : after.lines ≤ after.size

-- the lines were spent before an end came
abbrev pub IsSpent : Stop → Type 0
IsSpent Ended = ⊥
IsSpent (Bad line) = ⊥
IsSpent (Full limit) = ⊥
IsSpent (Spent line) = Unit {0}

-- the run stops in the text, whatever comes
pub record StopsAt (done : List ℕ) (before : Place) (text : List ℕ) (stop : Stop) (world : World) : Type 0 where
  pub own : ¬ IsSpent stop
  pub reached : (more : List ℕ) → ComesTo done (run_on before (text ++ more)) stop world

-- but for a last piece of at most 8,192 bytes, what was taken is lines whose run goes on, and all that they tell was written, and then perhaps more
pub record IsPrompt (taken : List ℕ) (old now : Option (List ℕ)) : Type 0 where
  pub before : List ℕ
  pub piece : List ℕ
  pub parts : taken ≡ before ++ piece
  pub small : length piece ≤ 8192
  pub goes_on : IsSpent (outcome_of before).stop
  pub more : List ℕ
  pub written : Appends old now (text_of (outcome_of before).told ++ more)

-- these bytes were taken from a source, they are few, and what they tell was written in time
pub record Taken (left_old left_new old now : Option (List ℕ)) (script : List ℕ) : Type 0 where
  pub taken : Consumes left_old left_new script
  pub few : length script < 67121153
  pub prompt : IsPrompt script old now

-- a run over what was taken, which stops whatever comes; `out` of its lines isn't put yet
pub record Stopped (left_old left_new old now : Option (List ℕ)) (stop : Stop) (world : World) (unput : List ℕ) : Type 0 where
  pub script : List ℕ
  pub taken : Taken left_old left_new old now script
  pub done : List ℕ
  pub written : Appends old now done
  pub own : ¬ IsSpent stop
  pub reached : (more : List ℕ) → ComesTo (done ++ unput) (outcome_of (script ++ more)) stop world

-- a run over what was taken, of which the last line isn't whole
pub record IsCut (left_old left_new old now : Option (List ℕ)) (line : ℕ) (world : World) : Type 0 where
  pub script : List ℕ
  pub taken : Taken left_old left_new old now script
  pub done : List ℕ
  pub written : Appends old now done
  pub reached : ComesTo done (outcome_of script) (Spent line) world

-- a run that was given up: a front of what it tells was written
pub record GivenUp (left_old left_new old now : Option (List ℕ)) : Type 0 where
  pub script : List ℕ
  pub taken : Taken left_old left_new old now script
  pub front : WritesFront old now (text_of (outcome_of script).told)
