-- The voters of a group stay with each step of a world, and with each part of a settle.
use Rattle.std.proofs.Common.{◌≡◌, ℕ, List, Bool, true, false, Option, Some, None, refl, ◌∙◌, if◌then◌else◌}
use Rattle.std.specs.Prelude.{is_some}
use Rattle.std.proofs.lemmas.Bool.{cond_both}
use Rattle.host_ids.specs.declared.batch.Batch.{Batch}
use Rattle.host_ids.specs.declared.proposal.Proposal.{Proposal}
use Rattle.raft_model.specs.declared.event.LaneEvent.TheVariants as events
use Rattle.script_text.specs.declared.limit.Limit.{Limit}
use Rattle.script_text.specs.declared.script.HostEvent.{HostEvent}
use Rattle.script_text.specs.declared.script.HostEvent.TheVariants as host_events
use Rattle.run_model.specs.World.{World}
use Rattle.run_model.specs.Run
use Rattle.run_model.specs.Run.{RunStep, Turn, reached, next_key, event_step, proposes, read_asked}
use Rattle.run_law.proofs.Group.Voters.{act_stay}
use Rattle.script_text.specs.declared.limit.TheConstants.{MOST_APPLIED}

-- ---- steps of a world

-- the group has the same voters in both worlds
abbrev pub Same : World → World → Type 0
Same w v = v.group.voters ≡ w.group.voters

-- one of two steps leaves the voters if both do
step_by : (w : World) (b : Bool) (x y : RunStep) → Same w x.world → Same w y.world → Same w (if b then x else y).world
step_by w b x y p q = cond_both b x y (λ (s : RunStep). Same w s.world) (λ _. p) (λ _. q)

-- a batch that is taken, where none is pending, leaves the voters
taken_same : (h : ℕ) (w : World) → Same w (Run.taken h w)
taken_same h w = cond_both (is_some (Run.pending_at w h)) w (Run.moved h (events.Ready h) w) (λ (v : World). Same w v) (λ _. refl) (λ _. act_stay (events.Ready h) w.group)

-- a batch that is handed back, if there is one, leaves the voters
handed_same : (h : ℕ) (o : Option Batch) (w : World) → Same w (Run.handed_back h o w).world
handed_same h None w = refl
handed_same h (Some b) w = act_stay (events.Saved h b.id) w.group

-- a save leaves the voters
save_same : (h : ℕ) (w : World) → Same w (Run.save h w).world
save_same h w = let v = Run.taken h w in handed_same h (Run.pending_at v h) v ∙ taken_same h w

-- an apply leaves the voters
apply_same : (h most : ℕ) (w : World) → Same w (Run.apply h most w).world
apply_same h most w = step_by w (Run.is_ripe w h) _ _ refl refl

-- each event at a host leaves the voters
pub event_same : (h : ℕ) (event : HostEvent) (w : World) → Same w (Run.event_step h event w).world
unfolding event_step
event_same h (host_events.Timeout group) w = act_stay (events.Timeout h) w.group
event_same h (host_events.Beat group) w = act_stay (events.Beat h) w.group
event_same h (host_events.Ready group) w = act_stay (events.Ready h) w.group
event_same h (host_events.Save group) w = save_same h w
event_same h (host_events.Apply group most) w = apply_same h most w

-- a proposal that is asked leaves the voters
pub proposes_same : (h : ℕ) (context : List ℕ) (p : Proposal) (w : World) → Same w (Run.proposes h context p w).world
unfolding proposes
proposes_same h context p w =
    let e = events.Propose h (next_key w h) p in
    step_by w (Run.is_dropped (Run.noted e w)) _ _ (act_stay e w.group) (act_stay e w.group)

-- a read that is asked leaves the voters
pub reads_same : (h : ℕ) (context query : List ℕ) (w : World) → Same w (Run.read_asked h (next_key w h) context query w).world
unfolding read_asked
reads_same h context query w =
    let key = next_key w h in
    let e = events.Ask h key in
    step_by w (Run.is_dropped (Run.noted e w)) _ _ (act_stay e w.group) (act_stay e w.group)

-- ---- parts of a settle

-- a step before which a limit may be reached leaves the voters, if the step does
tried_same : (w : World) (s : RunStep) (o : Option Limit) → Same w s.world → Same w (Run.tried_by o w s).world
tried_same w s None p = p
tried_same w s (Some limit) p = refl

-- what is done only where there is something to do leaves the voters, if it does where it is done
busy_same : (w : World) (b : Bool) (next : World → Turn) → Same w (next w).world → Same w (Run.where_busy b w next).world
busy_same w false next p = refl
busy_same w true next p = p

-- a save of a settle leaves the voters
pub save_tried_same : (h size : ℕ) (w : World) → Same w (Run.save_tried h size w).world
save_tried_same h size w = busy_same w (Run.is_unsaved w h) _ (tried_same w (Run.save h w) (reached w size) (save_same h w))

-- an apply of a settle leaves the voters
pub apply_tried_same : (h size : ℕ) (w : World) → Same w (Run.apply_tried h size w).world
apply_tried_same h size w = busy_same w (Run.is_ripe w h) _ (tried_same w (Run.apply h MOST_APPLIED w) (reached w size) (apply_same h MOST_APPLIED w))
