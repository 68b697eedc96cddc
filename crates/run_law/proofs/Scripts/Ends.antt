-- A run over a script of the grammar comes to its end, or to a limit.
use Rattle.std.proofs.Common.{◌≡◌, ℕ, ◌+◌, List, [], ◌∷◌, Bool, true, false, Option, Some, None, cond, length, refl, inl, inr}
use Rattle.std.specs.Prelude.{◌||◌}
use Rattle.script_text.specs.declared.limit.Limit.{Limit}
use Rattle.script_text.specs.declared.script.ScriptLine.{ScriptLine}
use Rattle.run_model.specs.declared.told.Stop.TheVariants.{Ended}
use Rattle.run_model.specs.World.{World, start}
use Rattle.script_text.specs.Script.{read_line, is_end, parts_of, said_well, are_lines}
use Rattle.run_model.specs.Run
use Rattle.run_model.specs.Run.{Turn, Outcome, turn, run, reached}
use Rattle.run_law.specs.Complete.{EndsOrIsFull, ScriptsEnd}

-- the outcome stops at the `end`, or at a limit
abbrev Ends : Outcome → Type 0
Ends o = EndsOrIsFull o.stop

-- after a line a run stops at the limit that was reached in it, or as the rest of it does from any world
after_by : (t : Turn) (next : World → Outcome) (o : Option Limit) → ((v : World) → Ends (next v)) → Ends (Run.after_by o t next)
after_by t next None h = h t.world
after_by t next (Some limit) h = inr (limit, refl)

-- before a line a run stops at the limit that is reached, or as the rest of it does
unless_full : (w : World) (next : World → Outcome) (o : Option Limit) → Ends (next w) → Ends (Run.unless_full o w next)
unless_full w next None h = h
unless_full w next (Some limit) h = inr (limit, refl)

-- a run stops so at its `end`, or as the rest of it does, if that is of the grammar
by_end : (w : World) (more : Outcome) (ends well : Bool) → (ends || well) ≡ true → (well ≡ true → Ends more) → Ends (cond ends (Run.stops w Ended) more)
by_end w more true well e h = inl refl
by_end w more false well e h = h e

-- a run stops so at a line of the grammar: at the `end`, or as the rest of it does after any other line
goes_on : (w : World) (n : ℕ) (said : Option ScriptLine) (more : ScriptLine → Outcome) (well : ScriptLine → Bool) → said_well said well ≡ true
    → ((line : ScriptLine) → well line ≡ true → Ends (more line)) → Ends (Run.goes_on said more w n)
goes_on w n None more well e h = absurd cc
goes_on w n (Some line) more well e h = by_end w (more line) (is_end line) (well line) e (h line)

-- a run over the lines of a script of the grammar stops so, from any world
run_ends : (w : World) (n size : ℕ) (parts : List (List ℕ)) → are_lines parts ≡ true → Ends (run w n size parts)
unfolding run
run_ends w n size [] e = absurd cc
run_ends w n size (line ∷ []) e = absurd cc
run_ends w n size (line ∷ next ∷ more) e =
    let bytes = size + (length line + 1) in
    unless_full w _ (reached w size)
    (goes_on w n (read_line line) _ _ e
    (λ said k. after_by (turn said bytes w) (λ u. run u (n + 1) bytes (next ∷ more)) (turn said bytes w).full
    (λ v. run_ends v (n + 1) bytes (next ∷ more) k)))

-- every run over a script of the grammar stops so
pub all_end : ScriptsEnd
all_end text e = run_ends start 0 0 (parts_of text) e
