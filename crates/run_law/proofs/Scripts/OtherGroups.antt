-- A run tells nothing of any group but 1.
use Rattle.std.proofs.Common.{◌≡◌, ℕ, ◌==◌, List, [], ◌∷◌, ◌++◌, Bool, false, Option, Some, None, cond, map, refl}
use Rattle.std.specs.List.{flat_map}
use Rattle.std.proofs.lemmas.Bool.{cond_both}
use Rattle.host_ids.specs.declared.batch.Batch.{Batch}
use Rattle.host_ids.specs.declared.entry.Key.{Key}
use Rattle.host_ids.specs.declared.entry.Entry.{Entry}
use Rattle.host_ids.specs.declared.proposal.Proposal.{Proposal}
use Rattle.object_model.specs.declared.mark.Ending.{Ending}
use Rattle.raft_model.specs.declared.event.LaneEvent.{LaneEvent}
use Rattle.raft_model.specs.declared.event.LaneEvent.TheVariants as events
use Rattle.raft_model.specs.declared.note.Note.{Note}
use Rattle.raft_model.specs.Group.{replica_at}
use Rattle.script_text.specs.declared.script.HostEvent.{HostEvent}
use Rattle.script_text.specs.declared.script.HostEvent.TheVariants as host_events
use Rattle.script_text.specs.declared.told.Told.{Told}
use Rattle.run_model.specs.declared.told.Want.{Want}
use Rattle.run_model.specs.declared.told.Want.TheVariants as wants
use Rattle.run_model.specs.declared.told.Stop.{Stop}
use Rattle.run_model.specs.declared.told.Stop.TheVariants.{Ended, Bad, Full, Spent}
use Rattle.script_text.specs.declared.line.Line.TheVariants as lines
use Rattle.run_model.specs.World.{World, Cell, node_at}
use Rattle.run_model.specs.Run
use Rattle.run_model.specs.Run.{RunStep, applied, answered, event_step, proposes, read_asked, grouped}
use Rattle.run_model.specs.Marks.{marks_of}
use Rattle.run_law.proofs.Basics.Moves.{marks_of-append}
use Rattle.run_law.proofs.Group.Notes.{notes_marks}
use Rattle.run_law.proofs.Scripts.Lines.{Between, IsDone}
use Rattle.run_law.proofs.Scripts.Runs.{outcome_done}

-- the group isn't 1
pub record IsOther (g : ℕ) : Type 0 where
  pub differs : (1 == g) ≡ false

-- the lines say nothing of the group
abbrev pub IsSilent : ℕ → List Told → Type 0
IsSilent g told = marks_of g told ≡ []

-- lines that say nothing of a group say nothing of it joined
both_silent : (g : ℕ) (a b : List Told) → IsSilent g a → IsSilent g b → IsSilent g (a ++ b)
both_silent g a b p q = rw (marks_of-append, p, q) refl

-- ---- an apply

-- a request's ending, if it is open here, says nothing of another group
ended_silent : (g : ℕ) (contexts : List (List (List ℕ))) (key : Key) (place : ℕ) (ending : Ending) (o : Option Want) → IsOther g
    → IsSilent g (Run.ended o contexts key (lines.Ended key 1 place ending))
ended_silent g contexts key place ending None n = refl
ended_silent g contexts key place ending (Some want) n = rw n.differs refl

-- an entry's ending, if it has one, says nothing of another group
one_silent : (g : ℕ) (contexts : List (List (List ℕ))) (key : Key) (c : Cell) (ws : List (Key × Want)) (o : Option Ending) → IsOther g → IsSilent g (Run.ended_with o contexts key c ws).told
one_silent g contexts key c ws None n = refl
one_silent g contexts key c ws (Some ending) n = ended_silent g contexts key c.applied ending (Run.want_of key ws) n

-- entries that are applied say nothing of another group
applied_silent : (g : ℕ) (contexts : List (List (List ℕ))) (es : List Entry) (c : Cell) (ws : List (Key × Want)) → IsOther g → IsSilent g (applied contexts es c ws).told
unfolding applied
applied_silent g contexts [] c ws n = refl
applied_silent g contexts (e ∷ es) c ws n =
    let first = Run.applied_by contexts e.proposal e.key c ws in
    both_silent g first.told (applied contexts es first.cell first.wants).told (one_silent g contexts e.key (Run.given e.proposal c) ws (Run.ending_of e.proposal c) n)
    (applied_silent g contexts es first.cell first.wants n)

-- a read's answer, if it is open here, says nothing of another group
answer_silent : (g : ℕ) (contexts : List (List (List ℕ))) (c : Cell) (key : Key) (o : Option Want) → IsOther g → IsSilent g (Run.answer_told contexts c key o)
answer_silent g contexts c key None n = refl
answer_silent g contexts c key (Some wants.Proposal) n = refl
answer_silent g contexts c key (Some (wants.Read query front)) n = rw n.differs refl

-- reads that are answered say nothing of another group
answered_silent : (g : ℕ) (contexts : List (List (List ℕ))) (c : Cell) (keys : List Key) (ws : List (Key × Want)) → IsOther g → IsSilent g (answered contexts c keys ws).told
unfolding answered
answered_silent g contexts c [] ws n = refl
answered_silent g contexts c (key ∷ keys) ws n =
    both_silent g (Run.answer_told contexts c key (Run.want_of key ws)) (answered contexts c keys (Run.without key ws)).told (answer_silent g contexts c key (Run.want_of key ws) n)
    (answered_silent g contexts c keys (Run.without key ws) n)

-- ---- each event

-- one of two steps says nothing of a group if neither does
by_cond : (g : ℕ) (b : Bool) (x y : RunStep) → IsSilent g x.told → IsSilent g y.told → IsSilent g (cond b x y).told
by_cond g b x y p q = cond_both b x y (λ (s : RunStep). IsSilent g s.told) (λ _. p) (λ _. q)

-- what a host hears of an event says nothing of another group
heard_silent : (g h : ℕ) (ns : List Note) (w : World) → IsOther g → IsSilent g (Run.heard h ns w).told
heard_silent g h ns w n = let node = Run.listening ns (node_at w h) in answered_silent g w.contexts node.cell _ node.requests.wants n

-- an event of the core says nothing of another group
core_silent : (g h : ℕ) (e : LaneEvent) (w : World) → IsOther g → IsSilent g (Run.core h e w).told
core_silent g h e w n =
    let ns = Run.noted e w in
    both_silent g (flat_map Run.note_told ns) (Run.heard h ns (Run.moved h e w)).told (notes_marks g ns) (heard_silent g h ns (Run.moved h e w) n)

-- a batch that is handed back, if there is one, says nothing of it either
handed_silent : (g h : ℕ) (o : Option Batch) (w : World) → IsOther g → IsSilent g (Run.handed_back h o w).told
handed_silent g h None w n = refl
handed_silent g h (Some b) w n = core_silent g h (events.Saved h b.id) w n

-- an apply says nothing of another group
apply_silent : (g h most : ℕ) (w : World) → IsOther g → IsSilent g (Run.apply h most w).told
apply_silent g h most w n =
    let node = node_at w h in
    let es = Run.next_entries (replica_at w.group h) node.cell most in
    let a = applied w.contexts es node.cell node.requests.wants in
    by_cond g (Run.is_ripe w h) (Run.applies h node a w) (Run.tells w lines.Idle)
    (both_silent g a.told (Run.answers_due w.contexts node a).told (applied_silent g w.contexts es node.cell node.requests.wants n) (answered_silent g w.contexts a.cell _ a.wants n)) refl

-- no event at a host says anything of another group
event_silent : (g h : ℕ) (w : World) (event : HostEvent) → IsOther g → IsSilent g (Run.event_step h event w).told
unfolding event_step
event_silent g h w (host_events.Timeout group) n = core_silent g h (events.Timeout h) w n
event_silent g h w (host_events.Beat group) n = core_silent g h (events.Beat h) w n
event_silent g h w (host_events.Ready group) n = core_silent g h (events.Ready h) w n
event_silent g h w (host_events.Save group) n = let v = Run.taken h w in handed_silent g h (Run.pending_at v h) v n
event_silent g h w (host_events.Apply group most) n = apply_silent g h most w n

-- a proposal that is asked says nothing of another group
proposes_silent : (g h : ℕ) (w : World) (context : List ℕ) (p : Proposal) → IsOther g → IsSilent g (Run.proposes h context p w).told
unfolding proposes
proposes_silent g h w context p n = by_cond g (Run.is_dropped (Run.noted (events.Propose h (Run.next_key w h) p) w)) _ _ (rw n.differs refl) (rw n.differs refl)

-- a read that is asked says nothing of another group
reads_silent : (g h : ℕ) (w : World) (context query : List ℕ) → IsOther g → IsSilent g (Run.read_asked h (Run.next_key w h) context query w).told
unfolding read_asked
reads_silent g h w context query n =
    let key = Run.next_key w h in
    let e = events.Ask h key in
    let v = Run.opened h key (wants.Read query None) (Run.moved h e (Run.named h context w)) in
    let told = Run.asked context (lines.AskRead key 1 query) [] in
    by_cond g (Run.is_dropped (Run.noted e w)) _ _ (rw n.differs refl)
    (both_silent g told (Run.heard h (Run.noted e w) v).told (rw n.differs refl) (heard_silent g h (Run.noted e w) v n))

-- ---- the run

-- the lines between two worlds say nothing of the group
abbrev Says : ℕ → Between
Says g w told v = IsSilent g told

-- no step says anything of another group
silence_done : (g : ℕ) → IsOther g → IsDone (Says g)
unfolding grouped
silence_done g n = record {
  nothing = λ w. refl;
  next = λ u v w a b p q. both_silent g a b p q;
  mute = λ w line k. rw (k g) refl;
  declared = λ w hosts. refl;
  clients = λ w clients. refl;
  settled = λ w number. refl;
  grouped = λ w roster limit e k l. refl;
  event = λ w host event member. event_silent g host w event n;
  deliver = λ w e number is. core_silent g e.to (events.Deliver number) w n;
  propose = λ w host context p member unused. proposes_silent g host w context p n;
  read = λ w host context query member unused. reads_silent g host w context query n;
  stale = λ w host query member. rw n.differs refl;
}

-- entries that are shown say nothing of another group
entries_silent : (g : ℕ) (w : World) (es : List Entry) → IsOther g → IsSilent g (map (Run.entry_told w) es)
entries_silent g w [] n = refl
entries_silent g w (e ∷ es) n = rw (n.differs, entries_silent g w es n) refl

-- the last lines say nothing of another group, however the run stops
last_silent : (g : ℕ) (w : World) (stop : Stop) → IsOther g → IsSilent g (Run.ending stop w)
last_silent g w Ended n = both_silent g (map (Run.entry_told w) w.group.decided) (Run.bare lines.End ∷ []) (entries_silent g w w.group.decided n) refl
last_silent g w (Bad line) n = refl
last_silent g w (Full limit) n = refl
last_silent g w (Spent line) n = refl

-- the lines before the last ones, and all of them
pub so_far_silent : (g : ℕ) (text : List ℕ) → IsOther g → IsSilent g (Run.outcome_of text).told
so_far_silent g text n = outcome_done (Says g) (silence_done g n) text

-- a whole output says nothing of another group
pub all_silent : (g : ℕ) (text : List ℕ) → IsOther g → IsSilent g (Run.all_told (Run.outcome_of text))
all_silent g text n =
    let o = Run.outcome_of text in
    both_silent g o.told (Run.ending o.stop o.world) (so_far_silent g text n) (last_silent g o.world o.stop n)
