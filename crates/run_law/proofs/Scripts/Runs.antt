-- What each step does is done by a whole run.
use Rattle.std.proofs.Common.{ℕ, ◌+◌, List, [], ◌∷◌, Option, Some, None, length, append-nil}
use Rattle.std.proofs.lemmas.Bool.{cond_both}
use Rattle.script_text.specs.declared.limit.Limit.{Limit}
use Rattle.script_text.specs.declared.script.ScriptLine.{ScriptLine}
use Rattle.run_model.specs.declared.told.Stop.TheVariants.{Ended}
use Rattle.run_model.specs.World.{World, start}
use Rattle.script_text.specs.Script.{read_line, is_end, parts_of}
use Rattle.run_model.specs.Run
use Rattle.run_model.specs.Run.{Turn, Outcome, turn, run, reached, outcome_of}
use Rattle.run_law.proofs.Scripts.Rosters.{Said, IsGood, read_said}
use Rattle.run_law.proofs.Scripts.Lines.{Between, IsDone, turn_turned}

module _ (P : Between) (h : IsDone P) where
  -- it is done by what a run tells, up to the world that it reaches
  abbrev Outcomes : World → Outcome → Type 0
  Outcomes w o = P w o.told o.world

  -- it is done where a limit may be reached before a line, if it is by what comes next
  unless_full : (w : World) (next : World → Outcome) (o : Option Limit) → Outcomes w (next w) → Outcomes w (Run.unless_full o w next)
  unless_full w next None p = p
  unless_full w next (Some limit) p = h.nothing w

  -- it is done from a part on if it is from each good line on, since a part that is no line, or the `end`, does nothing
  goes_on : (w : World) (n : ℕ) (said : Option ScriptLine) (more : ScriptLine → Outcome) → Said said → ((line : ScriptLine) → IsGood line → Outcomes w (more line))
      → Outcomes w (Run.goes_on said more w n)
  goes_on w n None more k p = h.nothing w
  goes_on w n (Some line) more k p = cond_both (is_end line) (Run.stops w Ended) (more line) (Outcomes w) (λ _. h.nothing w) (λ _. p line k)

  -- it is done by a line and what comes next, or by the line alone where a limit was reached in it
  after_by : (w : World) (t : Turn) (next : World → Outcome) (o : Option Limit) → P w t.told t.world → Outcomes t.world (next t.world) → Outcomes w (Run.after_by o t next)
  after_by w t next None p q = h.next w t.world (next t.world).world t.told (next t.world).told p q
  after_by w t next (Some limit) p q = rw append-nil p

  -- it is done by a run over any parts, from any world
  run_done : (w : World) (n size : ℕ) (parts : List (List ℕ)) → Outcomes w (run w n size parts)
  unfolding run
  run_done w n size [] = h.nothing w
  run_done w n size (line ∷ []) = unless_full w _ (reached w size) (h.nothing w)
  run_done w n size (line ∷ next ∷ more) =
      let bytes = size + (length line + 1) in
      unless_full w _ (reached w size)
      (goes_on w n (read_line line) _ (read_said line)
      (λ said k. after_by w (turn said bytes w) (λ u. run u (n + 1) bytes (next ∷ more)) (turn said bytes w).full
      (turn_turned P h said bytes w k)
      (run_done (turn said bytes w).world (n + 1) bytes (next ∷ more))))

  -- a whole run
  pub outcome_done : (text : List ℕ) → P start (outcome_of text).told (outcome_of text).world
  outcome_done text = run_done start 0 0 (parts_of text)
