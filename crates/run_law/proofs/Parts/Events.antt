-- A step from a world that a desk fits, where the desk moves with it: the events of a host's replica, and its applies.
use Rattle.std.proofs.Common.{◌≡◌, ℕ, ◌-◌, ◌≤◌, ◌<◌, ◌==◌, List, [], ◌∷◌, Bool, true, false, Option, Some, None, cond, length, take, drop, min, refl, sym, ap, ◌∙◌, subst, arith, eqb-true, ◌⊎◌, inl, inr}
use Rattle.std.specs.Prelude.{is_some, slice_set, ◌||◌}
use Rattle.std.specs.List.{AllByRecursion, list_any}
use Rattle.std.proofs.lemmas.Bool.{cond_both, cases_lt}
use Rattle.std.proofs.lemmas.List.{length-set, get_or_past, set_past}
use Rattle.std.proofs.lemmas.List.Elements.{All-from_recursion, recursion_from_All, All-contains}
use Rattle.host_ids.specs.declared.batch.Batch.{Batch}
use Rattle.host_ids.specs.declared.entry.Key.{Key}
use Rattle.host_ids.specs.declared.entry.Entry.{Entry}
use Rattle.host_ids.specs.declared.proposal.Proposal.{Proposal}
use Rattle.object_model.specs.declared.mark.Mark.TheVariants as marks
use Rattle.object_model.specs.Object.{answer}
use Rattle.object_model.specs.Desk.{Desk, Grows, Moves, MovesJoin}
use Rattle.raft_model.specs.declared.event.LaneEvent.{LaneEvent}
use Rattle.raft_model.specs.declared.event.LaneEvent.TheVariants as events
use Rattle.raft_model.specs.declared.note.Note.{Note}
use Rattle.raft_model.specs.declared.note.Note.TheVariants as notes
use Rattle.raft_model.specs.declared.state.State.{State as Replica}
use Rattle.raft_model.specs.Replica.{ripe}
use Rattle.raft_model.specs.Group.{Group, act, replica_at, is_member}
use Rattle.script_text.specs.declared.script.HostEvent.{HostEvent}
use Rattle.script_text.specs.declared.script.HostEvent.TheVariants as host_events
use Rattle.script_text.specs.declared.line.Line.TheVariants as lines
use Rattle.raft_safety.specs.ReadFront.{AreFronted}
use Rattle.host_ids.specs.declared.proposal.TheConstants.{MOST_SESSIONS}
use Rattle.run_model.specs.World.{World, Node, node_at, new_node}
use Rattle.run_model.specs.Run
use Rattle.run_model.specs.Run.{RunStep, answered, applied, confirmed, next_entries, event_step}
use Rattle.run_model.specs.Marks.{marks_of}
use Rattle.run_law.proofs.Basics.Lists.{all_map, all_right}
use Rattle.run_law.proofs.Cells.Judging.{Follows}
use Rattle.run_law.proofs.Basics.Moves.{growth_moves, nothing_moves, one_moves, marks_of-append}
use Rattle.run_law.proofs.Basics.Tables.{insert_each}
use Rattle.run_law.proofs.Group.Notes.{notes_marks}
use Rattle.run_law.proofs.Group.Voters.{all_stay, act_stay}
use Rattle.run_law.proofs.Requests.Book.{Book, IsNamed, Named, IsAsked, AreAsked}
use Rattle.run_law.proofs.Desks.Fits.{Fits, grown_fits}
use Rattle.run_law.proofs.Desks.Confirms.{all_hear}
use Rattle.run_law.proofs.Desks.Applies.{given, IsNext, feeds, next_same, stale_stands}
use Rattle.run_law.proofs.Group.Growth.{Longer, act_lasts}
use Rattle.run_law.proofs.Group.Law.{IsPlain, Given, IsGiven, Proposes, GroupLaw}
use Rattle.run_law.proofs.Parts.Part.{part_of, IsApart, Runs, others_leave}

-- a voter is one of the numbers of hosts
pub few_member : (vs : List ℕ) (h : ℕ) → AllByRecursion (λ v. v < 10) vs → list_any (λ v. v == h) vs ≡ true → h < 10
few_member [] h p e = absurd cc
few_member (v ∷ vs) h p e = by_first (v == h) refl e (few_member vs h p.1) where
  by_first : (b : Bool) → (v == h) ≡ b → (b || list_any (λ u. u == h) vs) ≡ true → (list_any (λ u. u == h) vs ≡ true → h < 10) → h < 10
  by_first true q f k = subst (λ (n : ℕ). n < 10) (eqb-true v h q) p.0
  by_first false q f k = k f

-- a read that an event asks is of this book, and was asked when the decided list had at most this length
abbrev pub Asks : Book → ℕ → LaneEvent → Type 0
Asks book least (events.Timeout h) = Unit {0}
Asks book least (events.Beat h) = Unit {0}
Asks book least (events.Deliver k) = Unit {0}
Asks book least (events.Ready h) = Unit {0}
Asks book least (events.Saved h id) = Unit {0}
Asks book least (events.Propose h key p) = Unit {0}
Asks book least (events.Ask h key) = IsAsked book key least
Asks book least (events.Chunk h to c) = Unit {0}
Asks book least (events.Compact h i) = Unit {0}
Asks book least (events.Installed h i t) = Unit {0}
Asks book least (events.Down h) = Unit {0}
Asks book least (events.Restart h d) = Unit {0}

-- the reads that were asked are of a book still after an event that asks one of the book, or none
asks_stay : (book : Book) (e : LaneEvent) (g : Group) → Asks book (length g.decided) e → AreAsked book g.asks → AreAsked book (act e g).group.asks
asks_stay book e g q all =
    all_stay (λ vs asks. AreAsked book asks) e g all
    (λ h key is. insert_each (λ x. IsAsked book x.0 x.1) key (length g.decided) g.asks (subst (λ (e : LaneEvent). Asks book (length g.decided) e) is q) all)

-- a node without open requests hears nothing
none_heard : (ns : List Note) → confirmed ns (record { wants = []; waiting = [] }) ≡ record { wants = []; waiting = [] }
unfolding confirmed
none_heard [] = refl
none_heard (notes.Leader host term ∷ ns) = none_heard ns
none_heard (notes.Pending host id ∷ ns) = none_heard ns
none_heard (notes.Idle ∷ ns) = none_heard ns
none_heard (notes.Dropped key ∷ ns) = none_heard ns
none_heard (notes.Confirmed host key index ∷ ns) = none_heard ns

-- what a number that is no host's hears does nothing
far_heard : (h : ℕ) (ns : List Note) (w : World) → length w.nodes ≤ h → Run.heard h ns w ≡ Run.quiet w
unfolding answered
far_heard h ns w far =
    let none : node_at w h ≡ new_node MOST_SESSIONS = get_or_past w.nodes h (new_node MOST_SESSIONS) far in
    rw (none, none_heard ns, set_past w.nodes h _ far) refl

-- what is given is named
pub given_named : (book : Book) (given : Given) → AllByRecursion (λ x. IsNamed book x.0 x.1) given → (key : Key) (p : Proposal) → IsGiven given key p → IsNamed book key p
given_named book given all key p c = All-contains (λ (x : Key × Proposal). IsNamed book x.0 x.1) given (key, p) (All-from_recursion (λ (x : Key × Proposal). IsNamed book x.0 x.1) given all) c

module _ (Kept : Group → Type 0) (Carries : Given → Group → Type 0) where
  -- a desk goes with a step: by the step's lines it moves to one that fits the part of the world after it
  pub record Goes (limit : ℕ) (d : Desk) (s : RunStep) : Type 0 where
    pub desk : Desk
    pub runs : Runs Kept Carries limit (part_of s.world) desk
    pub moves : Moves limit d (marks_of 1 s.told) desk

  -- a desk goes with one of two steps, if it does with each where that is chosen
  pub by_cond : (limit : ℕ) (d : Desk) (b : Bool) (x y : RunStep) → (b ≡ true → Goes limit d x) → (b ≡ false → Goes limit d y) → Goes limit d (cond b x y)
  by_cond limit d b x y p q = cond_both b x y (Goes limit d) p q

  -- a line of another group, or of none
  pub apart_goes : (limit : ℕ) (d : Desk) (w : World) (s : RunStep) → IsApart (part_of w) (part_of s.world) → marks_of 1 s.told ≡ [] → Runs Kept Carries limit (part_of w) d → Goes limit d s
  apart_goes limit d w s apart e a = record { desk = d; runs = others_leave Kept Carries limit (part_of w) (part_of s.world) d apart a; moves = rw e (nothing_moves limit d) }

  -- nothing that a desk knows of
  pub silent : (limit : ℕ) (d : Desk) (s : RunStep) → Runs Kept Carries limit (part_of s.world) d → marks_of 1 s.told ≡ [] → Goes limit d s
  silent limit d s a e = record { desk = d; runs = a; moves = rw e (nothing_moves limit d) }

  -- a step after one that tells nothing
  joined_goes : (join : MovesJoin) (limit : ℕ) (d : Desk) (w : World) (s : RunStep) → (g : Goes limit d (Run.quiet w)) → Goes limit g.desk s → Goes limit d s
  joined_goes join limit d w s g k = record { desk = k.desk; runs = k.runs; moves = join limit d [] (marks_of 1 s.told) g.desk k.desk g.moves k.moves }

  module _ (law : GroupLaw Kept Carries) where
    -- ---- an event of the group

    -- the world after an event, where leaders have appended this number of entries
    abbrev pub acted : LaneEvent → ℕ → World → World
    acted e n w = record w { group = (act e w.group).group; appended = n }

    -- a desk grows to one that fits the part of this world
    pub record Grown (limit : ℕ) (w : World) (d : Desk) : Type 0 where
      pub desk : Desk
      pub grows : Grows d desk
      pub runs : Runs Kept Carries limit (part_of w) desk

    -- the desk's list grows with the group's
    pub acted_runs : (limit : ℕ) (w : World) (d : Desk) (e : LaneEvent) (n : ℕ) → (a : Runs Kept Carries limit (part_of w) d) → IsPlain e → Proposes a.given e → Asks a.book (length w.group.decided) e
        → Grown limit (acted e n w) d
    acted_runs limit w d e n a plain q asks =
        let g = w.group in
        let k = (act e g).group in
        let l : Longer g.decided k.decided = act_lasts e g in
        let carries : Carries a.given k = law.entries.carried a.given a.blank e plain q g a.carries in
        let given : AllByRecursion (λ x. IsGiven a.given x.key x.proposal) k.decided = recursion_from_All (λ x. IsGiven a.given x.key x.proposal) k.decided (law.entries.decided a.given k carries) in
        let all : AllByRecursion (Named a.book) k.decided = all_map (λ x. IsGiven a.given x.key x.proposal) (Named a.book) k.decided
        (λ x s. record { sort = given_named a.book a.given a.named x.key x.proposal s }) given in
        let more : AllByRecursion (Named a.book) l.more = all_right (Named a.book) g.decided l.more (subst (λ (es : List Entry). AllByRecursion (Named a.book) es) l.is all) in
        let f = grown_fits limit a.book g.decided l.more w.nodes w.contexts d a.fits more in
        record {
          desk = f.0;
          grows = f.1;
          runs = record {
            book = a.book;
            limit_is = a.limit_is;
            contexts = a.contexts;
            nodes = a.nodes;
            voters = subst (λ (vs : List ℕ). AllByRecursion (λ v. v < 10) vs) (sym (act_stay e g)) a.voters;
            kept = law.safety.stays e plain g a.kept;
            given = a.given;
            blank = a.blank;
            named = a.named;
            asks = asks_stay a.book e g asks a.asks;
            carries = carries;
            fits = subst (λ (es : List Entry). Fits limit a.book es w.nodes w.contexts f.0) (sym l.is) f.2;
          };
        }

    -- ---- what a host hears

    -- where a host's node becomes another, with which a desk fits
    noded_runs : (limit h : ℕ) (w : World) (d e : Desk) (n : Node) → (a : Runs Kept Carries limit (part_of w) d) → Fits limit a.book w.group.decided (slice_set w.nodes h n) w.contexts e
        → Runs Kept Carries limit (part_of (Run.with_node h n w)) e
    noded_runs limit h w d e n a f = record {
      book = a.book;
      limit_is = a.limit_is;
      contexts = a.contexts;
      nodes = rw length-set a.nodes;
      voters = a.voters;
      kept = a.kept;
      given = a.given;
      blank = a.blank;
      named = a.named;
      asks = a.asks;
      carries = a.carries;
      fits = f;
    }

    -- a desk goes with what a host hears of an event: the reads that the notes confirm wait for their indexes, and are answered where those are reached
    pub heard_goes : (laws : Follows) (limit h : ℕ) (w : World) (d : Desk) (ns : List Note) → MovesJoin → h < 10 → AreFronted w.group.asks ns → Runs Kept Carries limit (part_of w) d
        → Goes limit d (Run.heard h ns w)
    unfolding applied
    heard_goes laws limit h w d ns join few fronted a =
        let n = node_at w h in
        let room : h < length w.nodes = rw a.nodes few in
        let k = a.fits.nodes h room in
        let hears = all_hear h a.book w.group.asks ns n.requests a.asks fronted (record { wants = k.wants; ordered = k.ordered; waiting = k.waiting }) in
        let node = Run.listening ns n in
        let next : IsNext h limit a.book w.group.decided w.nodes node = record {
          fits = record { wants = hears.stands.wants; ordered = hears.stands.ordered; waiting = hears.stands.waiting; applied = k.applied; limit_is = k.limit_is; judges = k.judges };
          same = hears.same;
        } in
        let f = feeds laws h limit 0 a.book w.group.decided w.nodes w.contexts d node join room next a.fits in
        record { desk = f.desk; runs = noded_runs limit h w d f.desk (Run.fed w.contexts node (Run.at_rest node)) a f.fits; moves = f.moves }

    -- also one that is no host
    any_heard : (laws : Follows) (limit h : ℕ) (w : World) (d : Desk) (ns : List Note) → MovesJoin → AreFronted w.group.asks ns → Runs Kept Carries limit (part_of w) d → Goes limit d (Run.heard h ns w)
    any_heard laws limit h w d ns join fronted a = by_size (cases_lt h 10) where
      by_size : (h < 10) ⊎ (10 ≤ h) → Goes limit d (Run.heard h ns w)
      by_size (inl few) = heard_goes laws limit h w d ns join few fronted a
      by_size (inr far) = subst (λ (s : RunStep). Goes limit d s) (sym (far_heard h ns w (rw a.nodes far))) (silent limit d (Run.quiet w) a refl)

    -- a desk goes with a plain event of the core that proposes no more than is given, and asks no read
    pub core_goes : (laws : Follows) (limit : ℕ) (w : World) (d : Desk) (h : ℕ) (e : LaneEvent) → MovesJoin → (a : Runs Kept Carries limit (part_of w) d) → IsPlain e → Proposes a.given e
        → Asks a.book (length w.group.decided) e → Goes limit d (Run.core h e w)
    core_goes laws limit w d h e join a plain q asks =
        let g = acted_runs limit w d e (Run.moved h e w).appended a plain q asks in
        let ns = Run.noted e w in
        let s = Run.heard h ns (Run.moved h e w) in
        let k = any_heard laws limit h (Run.moved h e w) g.desk ns join (law.fronted e plain w.group a.kept) g.runs in
        record {
          desk = k.desk;
          runs = k.runs;
          moves = rw (marks_of-append, notes_marks 1 ns) (join limit d [] (marks_of 1 s.told) g.desk k.desk (growth_moves limit d g.desk g.grows) k.moves);
        }

    -- a desk goes with a batch that is taken, where none is pending
    taken_goes : (limit : ℕ) (w : World) (d : Desk) (h : ℕ) → Runs Kept Carries limit (part_of w) d → Goes limit d (Run.quiet (Run.taken h w))
    taken_goes limit w d h a =
        let g = acted_runs limit w d (events.Ready h) (Run.moved h (events.Ready h) w).appended a tt tt tt in
        cond_both (is_some (Run.pending_at w h)) w (Run.moved h (events.Ready h) w) (λ (v : World). Goes limit d (Run.quiet v))
        (λ _. silent limit d (Run.quiet w) a refl)
        (λ _. record { desk = g.desk; runs = g.runs; moves = growth_moves limit d g.desk g.grows })

    -- a desk goes with a batch that is handed back, if there is one
    handed_goes : (laws : Follows) (limit : ℕ) (w : World) (d : Desk) (h : ℕ) (o : Option Batch) → MovesJoin → Runs Kept Carries limit (part_of w) d → Goes limit d (Run.handed_back h o w)
    handed_goes laws limit w d h None join a = silent limit d (Run.tells w lines.Idle) a refl
    handed_goes laws limit w d h (Some b) join a = core_goes laws limit w d h (events.Saved h b.id) join a tt tt tt

    -- a desk goes with a save
    save_goes : (laws : Follows) (limit : ℕ) (w : World) (d : Desk) (h : ℕ) → MovesJoin → Runs Kept Carries limit (part_of w) d → Goes limit d (Run.save h w)
    save_goes laws limit w d h join a =
        let v = Run.taken h w in
        let g = taken_goes limit w d h a in
        joined_goes join limit d v (Run.save h w) g (handed_goes laws limit v g.desk h (Run.pending_at v h) join g.runs)

    -- ---- an apply

    -- what a replica gives next is what the list has next
    next_entries_are : (decided : List Entry) (r : Replica) (n : Node) (most : ℕ) → r.log.front ≡ 0 → take r.commit r.log.entries ≡ take r.commit decided
        → take (min most (ripe r - n.cell.applied)) (drop n.cell.applied decided) ≡ next_entries r n.cell most
    next_entries_are decided r n most z e =
        let k = min most (ripe r - n.cell.applied) in
        let few : k ≤ r.commit - n.cell.applied = omega arith in
        let at : n.cell.applied ≡ n.cell.applied - r.log.front = omega (arith, z) in
        sym (next_same r.log.entries decided r.commit n.cell.applied k e few) ∙ ap (λ (i : ℕ). take k (drop i r.log.entries)) at

    -- a desk goes with the next entries of a host's log, given to its cell
    applies_goes : (laws : Follows) (limit : ℕ) (w : World) (d : Desk) (h most : ℕ) → MovesJoin → h < 10 → Runs Kept Carries limit (part_of w) d
        → Goes limit d (Run.applies h (node_at w h) (applied w.contexts (next_entries (replica_at w.group h) (node_at w h).cell most) (node_at w h).cell (node_at w h).requests.wants) w)
    applies_goes laws limit w d h most join few a =
        let r = replica_at w.group h in
        let n = node_at w h in
        let k = min most (ripe r - n.cell.applied) in
        let room : h < length w.nodes = rw a.nodes few in
        let f = feeds laws h limit k a.book w.group.decided w.nodes w.contexts d n join room (record { fits = a.fits.nodes h room; same = refl }) a.fits in
        let b = given k w.group.decided w.contexts n in
        let front = law.safety.agrees w.group a.kept h in
        let g : Goes limit d (Run.applies h n b w) = record { desk = f.desk; runs = noded_runs limit h w d f.desk (Run.fed w.contexts n b) a f.fits; moves = f.moves } in
        subst (λ (es : List Entry). Goes limit d (Run.applies h n (applied w.contexts es n.cell n.requests.wants) w)) (next_entries_are w.group.decided r n most front.front front.same) g

    -- a desk goes with an apply, also where no entry is ripe
    apply_goes : (laws : Follows) (limit : ℕ) (w : World) (d : Desk) (h most : ℕ) → MovesJoin → h < 10 → Runs Kept Carries limit (part_of w) d → Goes limit d (Run.apply h most w)
    apply_goes laws limit w d h most join few a =
        let n = node_at w h in
        by_cond limit d (Run.is_ripe w h) (Run.applies h n (applied w.contexts (next_entries (replica_at w.group h) n.cell most) n.cell n.requests.wants) w) (Run.tells w lines.Idle)
        (λ _. applies_goes laws limit w d h most join few a)
        (λ _. silent limit d (Run.tells w lines.Idle) a refl)

    -- a desk goes with each event at a voter's host
    pub event_goes : (laws : Follows) (limit : ℕ) (w : World) (d : Desk) (h : ℕ) (event : HostEvent) → MovesJoin → is_member w.group h ≡ true → Runs Kept Carries limit (part_of w) d
        → Goes limit d (Run.event_step h event w)
    unfolding event_step
    event_goes laws limit w d h (host_events.Timeout group) join m a = core_goes laws limit w d h (events.Timeout h) join a tt tt tt
    event_goes laws limit w d h (host_events.Beat group) join m a = core_goes laws limit w d h (events.Beat h) join a tt tt tt
    event_goes laws limit w d h (host_events.Ready group) join m a = core_goes laws limit w d h (events.Ready h) join a tt tt tt
    event_goes laws limit w d h (host_events.Save group) join m a = save_goes laws limit w d h join a
    event_goes laws limit w d h (host_events.Apply group most) join m a = apply_goes laws limit w d h most join (few_member w.group.voters h a.voters m) a

    -- a desk goes with a query that is answered from what a host has applied
    pub stale_goes : (limit : ℕ) (w : World) (d : Desk) (h : ℕ) (query : List ℕ) → is_member w.group h ≡ true → Runs Kept Carries limit (part_of w) d
        → Goes limit d (Run.tells w (Run.stale_answer h query (node_at w h).cell))
    stale_goes limit w d h query m a =
        let few = few_member w.group.voters h a.voters m in
        let room : h < length w.nodes = rw a.nodes few in
        let cell = (node_at w h).cell in
        let stands = stale_stands limit h a.book w.group.decided w.nodes w.contexts d query room a.fits in
        record { desk = d; runs = a; moves = one_moves limit d d (marks.Stales cell.applied query (answer cell.pairs query)) (stands.0, stands.1, refl) }
