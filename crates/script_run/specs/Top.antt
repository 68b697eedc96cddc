-- What the calls of a run promise.
use Rattle.std.specs.Prelude.{◌≡◌, ◌≢◌, ◌<◌, ◌++◌, ℕ, List, [], ◌∷◌, ◌==◌, ◌&&◌, ◌↔◌, Bool, true, Option, None, Some, codes, bytes_eq, length, slice_index_or, ◌⊎◌}
use Rattle.std.specs.Io.KnownBytes.{Consumes, Appends, IsAtEnd}
use Rattle.fault_io.specs.Faults.{WritesFront}
use Rattle.script_text.specs.declared.limit.Limit.{Limit}
use Rattle.run_model.specs.declared.told.Stop.{Stop}
use Rattle.run_model.specs.declared.told.Stop.TheVariants.{Ended, Bad, Full, Spent}
use Rattle.script_text.specs.declared.line.Line.TheVariants as lines
use Rattle.run_model.specs.World.{World}
use Rattle.script_text.specs.Script.{is_script}
use Rattle.run_model.specs.Run.{bare, outcome_of, output_of, text_of, ending}
use Rattle.run_law.specs.Lawful.{IsLegalAtEnd, IsLegalSoFar}
use Rattle.script_run.specs.declared.lines.Runner.{Runner}
use Rattle.script_run.specs.declared.status.Finish.{Finish}
use Rattle.script_run.specs.declared.status.Finish.TheVariants as finishes
use Rattle.script_run.specs.declared.lines.Progress.{Progress}
use Rattle.script_run.specs.declared.lines.Progress.TheVariants as progress
use Rattle.script_run.specs.declared.stream.Streamed.{Streamed}
use Rattle.script_run.specs.declared.stream.Streamed.TheVariants as streamed
use Rattle.script_world.specs.World.{world_of}
use Rattle.script_run.specs.Reach.{Place, Leaves, StopsAt, Stopped, IsCut, IsPrompt, IsSpent}

abbrev pub place_in : Runner → Place
place_in r = record { world = world_of r.world; lines = r.lines; size = r.size }

-- a text was run up to a stop, or up to less than a line, and its lines were printed
abbrev pub HasGone : List ℕ → List ℕ → Place → List ℕ → Progress → Place → Type 0
HasGone old now before text (progress.Stopped stop) after = (done : List ℕ) × (now ≡ old ++ done) × StopsAt done before text stop after.world
HasGone old now before text (progress.Left rest) after = (done : List ℕ) × (now ≡ old ++ done) × Leaves done before text after rest.now

abbrev pub HasStreamed : Option (List ℕ) → Option (List ℕ) → Option (List ℕ) → Option (List ℕ) → Streamed → World → Type 0
HasStreamed left_old left_new old now (streamed.Stopped stop out) world = Stopped left_old left_new old now stop world out
HasStreamed left_old left_new old now (streamed.Dry line) world = IsCut left_old left_new old now line world
HasStreamed left_old left_new old now (streamed.Faulted line) world = IsCut left_old left_new old now line world

-- the words are the one form
abbrev pub is_run : List (List ℕ) → Bool
is_run words = (length words == 1) && bytes_eq (slice_index_or words 0 []) (codes "run")

-- the number by which a process answers what a call comes to
abbrev pub finish_number : Finish → ℕ
finish_number finishes.Done = 0
finish_number finishes.Usage = 2
finish_number finishes.BadLine = 3
finish_number finishes.ReadFault = 4
finish_number finishes.WriteFault = 5
finish_number finishes.Limit = 7
finish_number finishes.NoMemory = 8

-- what a run that stops so comes to; a line that isn't whole is a bad one
abbrev pub finish_of : Stop → Finish
finish_of Ended = finishes.Done
finish_of (Bad line) = finishes.BadLine
finish_of (Full limit) = finishes.Limit
finish_of (Spent line) = finishes.BadLine

abbrev pub status_of : Stop → ℕ
status_of stop = finish_number (finish_of stop)

-- the run over this text stops with this status
abbrev pub StopsWith : List ℕ → ℕ → Type 0
StopsWith text status = status_of (outcome_of text).stop ≡ status

-- the run came to a stop of its own, and the answer says which
abbrev pub HasStopped : ℕ → Type 0
HasStopped number = (number ≡ 0) ⊎ ((number ≡ 3) ⊎ (number ≡ 7))

-- the sink failed, or memory ran out
abbrev pub IsBroken : ℕ → Type 0
IsBroken number = (number ≡ 5) ⊎ (number ≡ 8)

-- a fault of the source or of the sink, or out of memory, came in place of the answer
abbrev pub IsInstead : ℕ → Type 0
IsInstead number = (number ≡ 4) ⊎ IsBroken number

-- the answer is this one exactly where a fact holds, but for a fault or out of memory
abbrev pub IsExactly : Type 0 → ℕ → ℕ → Type 0
IsExactly P status number = IsInstead number ⊎ ((number ≡ status) ↔ P)

-- the run over this input reaches no limit
abbrev pub IsWithinLimits : List ℕ → Type 0
IsWithinLimits input = (limit : Limit) → (outcome_of input).stop ≢ Full limit

-- some bytes were taken, fewer than `most`
abbrev pub Takes : Option (List ℕ) → Option (List ℕ) → ℕ → Type 0
Takes old new most = (bytes : List ℕ) × Consumes old new bytes × (length bytes < most)

-- what the source had: what was taken, and what is left, where the source tells that
abbrev pub input_of : List ℕ → Option (List ℕ) → List ℕ
input_of taken None = taken
input_of taken (Some left) = taken ++ left

-- these bytes were written, and the status is this one, or the sink failed or memory ran out, and a front of them was written
abbrev pub HasPut : Option (List ℕ) → Option (List ℕ) → List ℕ → ℕ → ℕ → Type 0
HasPut old now bytes status number = ((number ≡ status) × Appends old now bytes) ⊎ (IsBroken number × WritesFront old now bytes)

-- the last lines of a stop were written after these bytes, or a front of both
abbrev pub Finished : Option (List ℕ) → Option (List ℕ) → List ℕ → Stop → World → ℕ → Type 0
Finished old now out stop world number = HasPut old now (out ++ text_of (ending stop world)) (status_of stop) number

-- all lines of a run that was cut off were written, and it stands in the midst of its lines
pub record WasCut (taken : List ℕ) (old now : Option (List ℕ)) : Type 0 where
  pub open_end : IsSpent (outcome_of taken).stop
  pub written : Appends old now (text_of (outcome_of taken).told)

-- a run that stands in the midst of its lines has come to an end only with its source
abbrev pub HasEnded : List ℕ → Option (List ℕ) → Type 0
HasEnded taken left = IsSpent (outcome_of taken).stop → IsAtEnd left

-- a front of the lines of a run was written, and of its last lines only where it has ended
abbrev pub WasBroken : List ℕ → Option (List ℕ) → Option (List ℕ) → Option (List ℕ) → Type 0
WasBroken taken left old now = WritesFront old now (text_of (outcome_of taken).told) ⊎ (HasEnded taken left × WritesFront old now (output_of taken))

-- What running a script comes to, whatever the source and the sink tell. `taken` is what was taken of the source.
pub record Ran (left_old left_new old now : Option (List ℕ)) (number : ℕ) : Type 0 where
  pub taken : List ℕ
  pub moves : Consumes left_old left_new taken
  -- the answer says where the run over all that the source had stops
  pub done : IsExactly (StopsWith (input_of taken left_new) 0) 0 number
  pub bad_line : IsExactly (StopsWith (input_of taken left_new) 3) 3 number
  pub limit : IsExactly (StopsWith (input_of taken left_new) 7) 7 number
  -- a script of the grammar within the limits comes to its end, but for a fault or out of memory
  pub complete : is_script (input_of taken left_new) ≡ true → IsWithinLimits (input_of taken left_new) → IsInstead number ⊎ (number ≡ 0)
  -- at 0, 3 and 7 all that the run writes was written, at 4 all lines of what was taken, at 5 and 8 a front of that
  pub written : HasStopped number → Appends old now (output_of (input_of taken left_new))
  pub cut : number ≡ 4 → WasCut taken old now
  pub front : IsBroken number → WasBroken taken left_new old now
  -- what was taken is run, and its lines are written, before more is taken
  pub prompt : IsPrompt taken old now
  -- what was taken has told is legal for each group by the decided list that was reached
  pub legal : (group : ℕ) → IsLegalSoFar group taken

-- the main sentence: what was taken and, where the source tells it, what is left is a script whose whole output was written, and that is legal for each group by the entries that it shows
pub record IsLegalRun (left_old left_new old now : Option (List ℕ)) : Type 0 where
  pub taken : List ℕ
  pub moves : Consumes left_old left_new taken
  pub written : Appends old now (output_of (input_of taken left_new))
  pub legal : (group : ℕ) → IsLegalAtEnd group (input_of taken left_new)

-- the line of a usage
abbrev pub usage : List ℕ
usage = text_of (bare lines.Usage ∷ [])
