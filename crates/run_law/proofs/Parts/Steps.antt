-- What a run reaches: no group yet, or a desk that has moved with it, whatever the roster.
use Rattle.std.proofs.Common.{◌≡◌, ◌≤◌, ◌<◌, ℕ, zero, suc, ◌==◌, List, [], ◌∷◌, ◌++◌, Bool, true, false, Some, replicate, refl, sym, ◌∙◌, subst, append_assoc, append-nil, ◌⊎◌, inl, inr}
use Rattle.std.specs.List.{list_any}
use Rattle.std.proofs.lemmas.List.{length-replicate}
use Rattle.wire_types.specs.declared.envelope.Envelope.{Envelope}
use Rattle.object_model.specs.Desk.{Desk, empty_desk, Moves, MovesJoin}
use Rattle.raft_model.specs.declared.event.LaneEvent.TheVariants as events
use Rattle.host_ids.specs.declared.proposal.Proposal.TheVariants as proposals
use Rattle.raft_model.specs.Replica.{no_key}
use Rattle.raft_model.specs.Group.{Group, is_member, envelope_at}
use Rattle.run_model.specs.declared.client.ClientSession.{ClientSession}
use Rattle.script_text.specs.declared.told.Told.{Told}
use Rattle.run_model.specs.World.{World, start, node_at}
use Rattle.run_model.specs.Run
use Rattle.run_model.specs.Run.{RunStep, is_used, grouped}
use Rattle.run_model.specs.Marks.{marks_of}
use Rattle.run_law.proofs.Basics.Lists.{all_map}
use Rattle.run_law.proofs.Cells.Judging.{Follows}
use Rattle.run_law.proofs.Basics.Moves.{nothing_moves, marks_of-append}
use Rattle.run_law.proofs.Group.Voters.{act_stay}
use Rattle.run_law.proofs.Scripts.Voters.{Same, event_same, proposes_same, reads_same}
use Rattle.run_law.proofs.Scripts.Lines.{Between, IsDone}
use Rattle.run_law.proofs.Desks.Fits.{Fits, begin_fits}
use Rattle.run_law.proofs.Group.Law.{AreHosts, Given, first_given, GroupLaw}
use Rattle.run_law.proofs.Parts.Part.{part_of, Runs}
use Rattle.run_law.proofs.Parts.Events.{Goes, apart_goes, core_goes, event_goes, stale_goes}
use Rattle.run_law.proofs.Parts.Asks.{proposes_goes, reads_goes}

-- before the group has voters
pub record Before (w : World) : Type 0 where
  pub voters : w.group.voters ≡ []
  pub wire : w.group.wire ≡ []
  pub decided : w.group.decided ≡ []
  pub contexts : w.contexts ≡ replicate 10 []

-- nothing was sent
no_envelope : (w : World) (e : Envelope) (number : ℕ) → w.group.wire ≡ [] → envelope_at w.group.wire number ≡ Some e → ⊥
no_envelope w e number q f = none_at number (subst (λ (wire : List Envelope). envelope_at wire number ≡ Some e) q f) where
  none_at : (n : ℕ) → envelope_at [] n ≡ Some e → ⊥
  none_at zero f = absurd cc
  none_at (suc n) f = absurd cc

-- a group that isn't declared has no voter
no_member : (w : World) (host : ℕ) → w.group.voters ≡ [] → is_member w.group host ≡ true → ⊥
no_member w host e m =
    let t : list_any (λ v. v == host) [] ≡ true = subst (λ (vs : List ℕ). list_any (λ v. v == host) vs ≡ true) e m in
    absurd cc

-- a list without a first element is empty
none_declared : (vs : List ℕ) → Run.has_any vs ≡ false → vs ≡ []
none_declared [] e = refl
none_declared (v ∷ vs) e = absurd cc

module _ (Kept : Group → Type 0) (Carries : Given → Group → Type 0) (law : GroupLaw Kept Carries) where
  -- after the line that declares the group
  pub record Declared (told : List Told) (w : World) : Type 0 where
    pub limit : ℕ
    pub desk : Desk
    pub declared : w.group.voters ≡ [] → ⊥
    pub runs : Runs Kept Carries limit (part_of w) desk
    pub moves : Moves limit empty_desk (marks_of 1 told) desk

  -- what is reached after some lines: no group yet, of which they say nothing, or a desk that has moved with them
  abbrev pub Reach : List Told → World → Type 0
  Reach told w = (Before w × (marks_of 1 told ≡ [])) ⊎ Declared told w

  -- what is reached after these lines, whatever was reached before them
  abbrev pub Reaches : Between
  Reaches w told v = (old : List Told) → Reach old w → Reach (old ++ told) v

  -- at the start there is no group yet
  pub start_reach : Reach [] start
  start_reach = inl (record { voters = refl; wire = refl; decided = refl; contexts = refl }, refl)

  -- a step, by each of the two
  steps : (join : MovesJoin) (w : World) (s : RunStep) → (Before w → Before s.world × (marks_of 1 s.told ≡ []))
      → ((limit : ℕ) (d : Desk) → Runs Kept Carries limit (part_of w) d → Goes Kept Carries limit d s)
      → Same w s.world → Reaches w s.told s.world
  steps join w s before goes same old (inl b) = let n = before b.0 in inl (n.0, rw (marks_of-append 1 old s.told, b.1, n.1) refl)
  steps join w s before goes same old (inr a) =
      let g = goes a.limit a.desk a.runs in
      inr (record {
        limit = a.limit;
        desk = g.desk;
        declared = λ e. a.declared (sym same ∙ e);
        runs = g.runs;
        moves = rw marks_of-append (join a.limit empty_desk (marks_of 1 old) (marks_of 1 s.told) a.desk g.desk a.moves g.moves);
      })

  -- a step at a voter
  member_steps : (join : MovesJoin) (w : World) (host : ℕ) (s : RunStep) → is_member w.group host ≡ true → ((limit : ℕ) (d : Desk) → Runs Kept Carries limit (part_of w) d → Goes Kept Carries limit d s)
      → Same w s.world → Reaches w s.told s.world
  member_steps join w host s member goes same = steps join w s (λ b. absurd (no_member w host b.voters member)) goes same

  -- ---- the group is declared

  -- the empty desk fits the part of a group that has just been declared
  declared_runs : (roster : List ℕ) (limit : ℕ) (w : World) → AreHosts roster → 1 ≤ limit → w.contexts ≡ replicate 10 [] → Runs Kept Carries limit (part_of (Run.grouped roster limit w)) empty_desk
  unfolding grouped
  declared_runs roster limit w k l e = record {
    book = replicate 10 [];
    limit_is = refl;
    contexts = rw (e, length-replicate) refl;
    nodes = rw length-replicate refl;
    voters = all_map (λ v. (0 < v) × (v < 10)) (λ v. v < 10) roster (λ v p. p.1) k;
    kept = law.safety.begins 1 roster k;
    given = (no_key, proposals.Blank) ∷ [];
    blank = first_given no_key proposals.Blank [];
    named = (inl (refl, refl), tt);
    asks = tt;
    carries = law.entries.none ((no_key, proposals.Blank) ∷ []) (first_given no_key proposals.Blank []) 1 roster;
    fits = subst (λ (contexts : List (List (List ℕ))). Fits limit (replicate 10 []) [] (Run.grouped roster limit w).nodes contexts empty_desk) (sym e) (begin_fits limit 10 l);
  }

  -- where a group is declared for the first time, the empty desk fits it if it has voters, and else there is no group still
  grouped_before : (roster : List ℕ) (limit : ℕ) (w : World) → AreHosts roster → 1 ≤ limit → Before w → (old : List Told) → marks_of 1 old ≡ [] → Reach old (Run.grouped roster limit w)
  unfolding grouped
  grouped_before [] limit w k l b old e = inl (record { voters = refl; wire = refl; decided = refl; contexts = b.contexts }, e)
  grouped_before (v ∷ vs) limit w k l b old e = inr (record {
    limit = limit;
    desk = empty_desk;
    declared = λ e. absurd cc;
    runs = declared_runs (v ∷ vs) limit w k l b.contexts;
    moves = rw e (nothing_moves limit empty_desk);
  })

  -- a group without voters is declared again
  grouped_reach : (w : World) (roster : List ℕ) (limit : ℕ) → Run.has_group w ≡ false → AreHosts roster → 1 ≤ limit → (old : List Told) → Reach old w → Reach old (Run.grouped roster limit w)
  grouped_reach w roster limit e k l old (inl b) = grouped_before roster limit w k l b.0 old b.1
  grouped_reach w roster limit e k l old (inr a) = absurd (a.declared (none_declared w.group.voters e))

  -- ---- each step

  -- hosts, sessions and the settled number may be others, of which a desk knows nothing, and a line says nothing of requests
  quiet_steps : (join : MovesJoin) (w : World) (hosts : List Bool) (clients : List (List ℕ × ClientSession)) (number : ℕ) (told : List Told) → marks_of 1 told ≡ []
      → Reaches w told (record w { declared = hosts; clients = clients; settled = number })
  quiet_steps join w hosts clients number told e =
      let v : World = record w { declared = hosts; clients = clients; settled = number } in
      steps join w (record { world = v; told = told })
      (λ b. (record { voters = b.voters; wire = b.wire; decided = b.decided; contexts = b.contexts }, e))
      (λ limit d a. apart_goes Kept Carries limit d w (record { world = v; told = told }) (inl refl) e a)
      refl

  -- an envelope arrives
  deliver_reach : (laws : Follows) (join : MovesJoin) (w : World) (e : Envelope) (number : ℕ) → envelope_at w.group.wire number ≡ Some e
      → Reaches w (Run.core e.to (events.Deliver number) w).told (Run.core e.to (events.Deliver number) w).world
  deliver_reach laws join w e number is =
      steps join w (Run.core e.to (events.Deliver number) w)
      (λ b. absurd (no_envelope w e number b.wire is))
      (λ limit d a. core_goes Kept Carries law laws limit w d e.to (events.Deliver number) join a tt tt tt)
      (act_stay (events.Deliver number) w.group)

  -- where lines reach a world, and more lines reach another one from there, all of them reach that
  joined_reach : (u v w : World) (a b : List Told) → Reaches u a v → Reaches v b w → Reaches u (a ++ b) w
  joined_reach u v w a b p q old r = subst (λ (told : List Told). Reach told w) (append_assoc old a b) (q (old ++ a) (p old r))

  -- the line that declares a group where there is none reaches its world
  grouped_step : (w : World) (roster : List ℕ) (limit : ℕ) → Run.has_group w ≡ false → AreHosts roster → 1 ≤ limit → Reaches w [] (Run.grouped roster limit w)
  grouped_step w roster limit e k l old r = rw append-nil (grouped_reach w roster limit e k l old r)

  -- each step reaches its world
  pub reach_done : (laws : Follows) → MovesJoin → IsDone Reaches
  reach_done laws join = record {
    nothing = λ w. quiet_steps join w w.declared w.clients w.settled [] refl;
    next = joined_reach;
    mute = λ w line k. quiet_steps join w w.declared w.clients w.settled (Run.bare line ∷ []) (rw (k 1) refl);
    declared = λ w hosts. quiet_steps join w hosts w.clients w.settled [] refl;
    clients = λ w clients. quiet_steps join w w.declared clients w.settled [] refl;
    settled = λ w number. quiet_steps join w w.declared w.clients number [] refl;
    grouped = λ w roster limit e k l. grouped_step w roster limit e k l;
    event = λ w host event member. member_steps join w host (Run.event_step host event w) member (λ limit d a. event_goes Kept Carries law laws limit w d host event join member a)
        (event_same host event w);
    deliver = deliver_reach laws join;
    propose = λ w host context p member unused. member_steps join w host (Run.proposes host context p w) member (λ limit d a. proposes_goes Kept Carries law limit host w d context p member a unused)
        (proposes_same host context p w);
    read = λ w host context query member unused. member_steps join w host (Run.read_asked host (Run.next_key w host) context query w) member
        (λ limit d a. reads_goes Kept Carries law laws limit host w d context query join member a unused) (reads_same host context query w);
    stale = λ w host query member. member_steps join w host (Run.tells w (Run.stale_answer host query (node_at w host).cell)) member
        (λ limit d a. stale_goes Kept Carries law limit w d host query member a) refl;
  }
