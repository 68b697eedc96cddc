-- A whole run is moves of the desk, whatever the roster, and so its output is legal.
use Rattle.std.proofs.Common.{◌≡◌, ℕ, ◌+◌, ◌==◌, List, [], ◌∷◌, ◌++◌, false, map, refl, sym, ap, ◌∙◌, subst, append-nil, ne_eqb, ◌⊎◌, inl, inr}
use Rattle.std.proofs.lemmas.Bool.{cases_eq}
use Rattle.object_model.specs.declared.mark.Placed.{Placed}
use Rattle.object_model.specs.declared.mark.Mark.{Mark}
use Rattle.object_model.specs.declared.mark.Mark.TheVariants as marks
use Rattle.object_model.specs.Legal.{Legal, EachGood}
use Rattle.object_model.specs.Desk.{Desk, empty_desk, Moves, shown, shown_from, MovesAreLegal, MovesShowNothing, MovesJoin}
use Rattle.raft_model.specs.Group.{Group}
use Rattle.raft_entries.specs.Numbers.{Numbered}
use Rattle.host_ids.specs.declared.entry.Entry.{Entry}
use Rattle.script_text.specs.declared.line.Line.TheVariants as lines
use Rattle.run_model.specs.declared.told.Stop.{Stop}
use Rattle.run_model.specs.declared.told.Stop.TheVariants.{Ended}
use Rattle.run_model.specs.Run
use Rattle.script_text.specs.declared.told.Told.{Told}
use Rattle.run_model.specs.World.{World}
use Rattle.run_model.specs.Run.{Outcome, outcome_of, ending, all_told, entry_told}
use Rattle.run_model.specs.Marks.{marks_of}
use Rattle.run_law.specs.Lawful.{placed, RunsAreLegal, RunsAreLegalSoFar, IsLegalAtEnd, IsLegalSoFar}
use Rattle.run_law.proofs.Basics.Moves.{nothing_moves, marks_of-append}
use Rattle.run_law.proofs.Cells.Judging.{Follows}
use Rattle.run_law.proofs.Scripts.Runs.{outcome_done}
use Rattle.run_law.proofs.Scripts.OtherGroups.{IsOther, so_far_silent, all_silent}
use Rattle.run_law.proofs.Group.Law.{Given, GroupLaw}
use Rattle.run_law.proofs.Parts.Steps.{Reach, Reaches, start_reach, reach_done}

-- a run, as moves under the limit of sessions of the world that it has reached
record Ran (told : List Told) (w : World) : Type 0 where
  limit : ℕ
  same : w.limit ≡ limit
  desk : Desk
  decided : map (placed w.contexts) w.group.decided ≡ desk.decided
  numbered : Numbered 1 w.group.decided
  moves : Moves limit empty_desk (marks_of 1 told) desk

-- ---- the last lines show the list

-- entries that are numbered are shown with their places
entries_marks : (w : World) (n : ℕ) (es : List Entry) → Numbered n es → marks_of 1 (map (entry_told w) es) ≡ shown_from n (map (placed w.contexts) es)
entries_marks w n [] k = refl
entries_marks w n (e ∷ es) k =
    ap (λ (i : ℕ). marks.Shows i (placed w.contexts e) ∷ marks_of 1 (map (entry_told w) es)) k.0
    ∙ ap (λ (l : List Mark). marks.Shows n (placed w.contexts e) ∷ l) (entries_marks w (n + 1) es k.2)

-- at a script's end the marks of the last lines show the decided list
last_marks : (w : World) → Numbered 1 w.group.decided → marks_of 1 (ending Ended w) ≡ shown (map (placed w.contexts) w.group.decided)
last_marks w k =
    let es = w.group.decided in
    marks_of-append 1 (map (entry_told w) es) (Run.bare lines.End ∷ []) ∙ append-nil (marks_of 1 (map (entry_told w) es)) ∙ entries_marks w 1 es k

-- the marks of a whole output, at the end of its script, are those of its lines before, and then show the decided list
ended_marks : (o : Outcome) → Numbered 1 o.world.group.decided → o.stop ≡ Ended
    → marks_of 1 (all_told o) ≡ marks_of 1 o.told ++ shown (map (placed o.world.contexts) o.world.group.decided)
ended_marks o k e =
    marks_of-append 1 o.told (ending o.stop o.world) ∙ ap (λ (s : Stop). marks_of 1 o.told ++ marks_of 1 (ending s o.world)) e ∙ ap (λ (m : List Mark). marks_of 1 o.told ++ m) (last_marks o.world k)

-- no marks are legal by no list
nothing_legal : (limit : ℕ) → Legal limit [] []
unfolding EachGood
nothing_legal limit = record { each = tt; places = tt }

-- a group, as 1 or not
ours_or_not : (P : ℕ → Type 0) (g : ℕ) → P 1 → (IsOther g → (g == 1) ≡ false → P g) → (g ≡ 1) ⊎ (g ≡ 1 → ⊥) → P g
ours_or_not P g p q (inl e) = subst P (sym e) p
ours_or_not P g p q (inr n) = q (record { differs = ne_eqb 1 g (λ e. n (sym e)) }) (ne_eqb g 1 n)

module _ (Kept : Group → Type 0) (Carries : Given → Group → Type 0) (law : GroupLaw Kept Carries) where
  -- where lines reach a world, they are moves of a desk up to there
  reach_ran : (told : List Told) (w : World) → Reach Kept Carries law told w → Ran told w
  reach_ran told w (inl b) = record { limit = w.limit; same = refl; desk = empty_desk; decided = rw b.0.decided refl; numbered = rw b.0.decided tt; moves = rw b.1 (nothing_moves w.limit empty_desk) }
  reach_ran told w (inr a) = record { limit = a.limit; same = a.runs.limit_is; desk = a.desk; decided = sym a.runs.fits.decided; numbered = law.safety.numbered w.group a.runs.kept; moves = a.moves }

  -- every run is moves of a desk, up to the world that it has reached
  outcome_ran : (laws : Follows) (text : List ℕ) → MovesJoin → Ran (outcome_of text).told (outcome_of text).world
  outcome_ran laws text join = reach_ran (outcome_of text).told (outcome_of text).world
      (outcome_done (Reaches Kept Carries law) (reach_done Kept Carries law laws join) text [] (start_reach Kept Carries law))

  -- every run is legal for group 1 so far
  ours_so_far : (laws : Follows) (text : List ℕ) → MovesAreLegal → MovesJoin → IsLegalSoFar 1 text
  ours_so_far laws text legal join =
      let r = outcome_ran laws text join in
      rw (r.same, r.decided) (legal r.limit (marks_of 1 (outcome_of text).told) r.desk r.moves).0

  -- a run that comes to its end is legal for group 1
  ours_at_end : (laws : Follows) (text : List ℕ) → MovesAreLegal → MovesShowNothing → MovesJoin → (outcome_of text).stop ≡ Ended → IsLegalAtEnd 1 text
  ours_at_end laws text legal shows join e =
      let o = outcome_of text in
      let r = outcome_ran laws text join in
      let whole : marks_of 1 (all_told o) ≡ marks_of 1 o.told ++ shown r.desk.decided = ended_marks o r.numbered e ∙ ap (λ (l : List Placed). marks_of 1 o.told ++ shown l) r.decided in
      rw (r.same, whole, shows r.limit empty_desk (marks_of 1 o.told) r.desk r.moves) (legal r.limit (marks_of 1 o.told) r.desk r.moves).1

  -- every run is legal for every group so far
  pub all_so_far : (laws : Follows) → MovesAreLegal → MovesJoin → RunsAreLegalSoFar
  all_so_far laws legal join text g =
      ours_or_not (λ (g : ℕ). IsLegalSoFar g text) g (ours_so_far laws text legal join)
      (λ n k. rw (k, so_far_silent g text n) (nothing_legal (outcome_of text).world.limit))
      (cases_eq g 1)

  -- every run that comes to its end is legal for every group
  pub all_at_end : (laws : Follows) → MovesAreLegal → MovesShowNothing → MovesJoin → RunsAreLegal
  all_at_end laws legal shows join text g e =
      ours_or_not (λ (g : ℕ). IsLegalAtEnd g text) g (ours_at_end laws text legal shows join e)
      (λ n k. rw (all_silent g text n) (nothing_legal (outcome_of text).world.limit))
      (cases_eq g 1)
