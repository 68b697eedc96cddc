-- A proposal and a read at any voter's host.
use Rattle.std.proofs.Common.{◌≡◌, ℕ, ◌≤◌, ◌<◌, List, [], ◌∷◌, ◌++◌, true, false, None, length, refl, sym, ap, subst, inr, arith}
use Rattle.std.specs.List.{AllByRecursion}
use Rattle.std.proofs.lemmas.Bool.{cond_both}
use Rattle.std.proofs.lemmas.List.{length-map, length-set}
use Rattle.std.proofs.lemmas.List.Elements.{Contains-append_right}
use Rattle.host_ids.specs.declared.entry.Key.{Key}
use Rattle.host_ids.specs.declared.proposal.Proposal.{Proposal}
use Rattle.host_ids.specs.declared.proposal.Proposal.TheVariants as proposals
use Rattle.object_model.specs.declared.mark.What.{What}
use Rattle.object_model.specs.declared.mark.What.TheVariants as whats
use Rattle.object_model.specs.declared.mark.Mark.TheVariants as marks
use Rattle.object_model.specs.Desk.{Request, Desk, MovesJoin}
use Rattle.raft_model.specs.declared.event.LaneEvent.{LaneEvent}
use Rattle.raft_model.specs.declared.event.LaneEvent.TheVariants as events
use Rattle.raft_model.specs.Replica.{no_key}
use Rattle.raft_model.specs.Group.{Group, is_member}
use Rattle.script_text.specs.declared.told.Told.{Told}
use Rattle.run_model.specs.declared.told.Want.TheVariants as wants
use Rattle.script_text.specs.declared.line.Line.TheVariants as lines
use Rattle.run_model.specs.World.{World, Node}
use Rattle.run_model.specs.Run
use Rattle.run_model.specs.Run.{is_used, next_key, proposes, read_asked}
use Rattle.run_model.specs.Marks.{marks_of}
use Rattle.run_law.proofs.Basics.Lists.{all_map, all_append}
use Rattle.run_law.proofs.Basics.Moves.{growth_moves, next_moves, marks_of-append}
use Rattle.run_law.proofs.Cells.Judging.{Follows}
use Rattle.run_law.proofs.Requests.Book.{Book, IsNamed, IsAsked, AreAsked, named_more, asked_more}
use Rattle.run_law.proofs.Desks.Fits.{hosts_same}
use Rattle.run_law.proofs.Desks.Opening.{asking, closing, book_with, next_within, next_is, closing_fits, dropped_moves, Opens, opens}
use Rattle.run_law.proofs.Group.Law.{IsPlain, Given, IsGiven, first_given, Proposes, GroupLaw}
use Rattle.run_law.proofs.Parts.Part.{part_of, Runs}
use Rattle.run_law.proofs.Parts.Events.{few_member, Asks, Goes, acted_runs, heard_goes}

module _ (Kept : Group → Type 0) (Carries : Given → Group → Type 0) (law : GroupLaw Kept Carries) where
  module _ (limit h : ℕ) (w : World) (d : Desk) (context : List ℕ) (what : What) (a : Runs Kept Carries limit (part_of w) d) (few : h < 10) where
    -- the contexts have a place for the host
    room : h < length w.contexts
    room = rw a.contexts few

    -- the nodes have a place for the host
    within : h < length w.nodes
    within = rw a.nodes few

    -- the book with the request
    abbrev book : Book
    book = book_with h limit a.book w.group.decided w.nodes w.contexts d a.fits room context what

    -- the book has a place for the host
    place : h < length a.book
    place = rw (hosts_same limit a.book w.group.decided w.nodes w.contexts d a.fits) room

    -- the reads that were asked are of the book with the request
    all_asked : AreAsked book w.group.asks
    all_asked = asked_more h (asking d context what) a.book w.group.asks place a.asks

    -- the request has its context, and its proposal may come to be an entry
    all_named : (more : Given) → AllByRecursion (λ x. IsNamed book x.0 x.1) more → AllByRecursion (λ x. IsNamed book x.0 x.1) (more ++ a.given)
    all_named more n =
        all_append (λ (x : Key × Proposal). IsNamed book x.0 x.1) more a.given n
        (all_map (λ (x : Key × Proposal). IsNamed a.book x.0 x.1) (λ (x : Key × Proposal). IsNamed book x.0 x.1) a.given (λ x s. named_more h (asking d context what) a.book x.0 x.1 place s) a.named)

    -- the desk after the request's end fits the part in which the request has its context, before anything happens in the group
    abbrev closing_runs : (more : Given) → AllByRecursion (λ x. IsNamed book x.0 x.1) more → Runs Kept Carries limit (part_of (Run.named h context w)) (closing d context what)
    closing_runs more n = record {
      book = book;
      limit_is = a.limit_is;
      contexts = rw length-set a.contexts;
      nodes = a.nodes;
      voters = a.voters;
      kept = a.kept;
      given = more ++ a.given;
      blank = Contains-append_right more a.given (no_key, proposals.Blank) a.blank;
      named = all_named more n;
      asks = all_asked;
      carries = law.entries.longer more a.given w.group a.carries;
      fits = closing_fits h limit a.book w.group.decided w.nodes w.contexts d a.fits room context what;
    }

    -- the request opens, before anything happens in the group
    abbrev opened_runs : (more : Given) → AllByRecursion (λ x. IsNamed book x.0 x.1) more → (n : Node) → (o : Opens h limit a.book w.group.decided w.nodes w.contexts d a.fits room context what n)
        → Runs Kept Carries limit (part_of (Run.with_node h n (Run.named h context w))) o.desk
    opened_runs more m n o = record {
      book = book;
      limit_is = a.limit_is;
      contexts = rw length-set a.contexts;
      nodes = rw length-set a.nodes;
      voters = a.voters;
      kept = a.kept;
      given = more ++ a.given;
      blank = Contains-append_right more a.given (no_key, proposals.Blank) a.blank;
      named = all_named more m;
      asks = all_asked;
      carries = law.entries.longer more a.given w.group a.carries;
      fits = o.fits;
    }

    -- what the core makes of the world in which the request has its context
    abbrev after : LaneEvent → World
    after e = Run.moved h e (Run.named h context w)

    -- a request that is dropped at once, and then the group goes on
    dropped_goes : (more : Given) → AllByRecursion (λ x. IsNamed book x.0 x.1) more → (e : LaneEvent) (told : List Told) → IsPlain e → Proposes (more ++ a.given) e → Asks book (length w.group.decided) e
        → is_used w context ≡ false
        → marks_of 1 told ≡ marks.Asks context what ∷ marks.Leaves context ∷ [] → Goes Kept Carries limit d (record { world = after e; told = told })
    dropped_goes more n e told plain q asks unused m =
        let g = acted_runs Kept Carries law limit (Run.named h context w) (closing d context what) e (after e).appended (closing_runs more n) plain q asks in
        record { desk = g.desk; runs = g.runs; moves = rw m (dropped_moves h limit a.book w.group.decided w.nodes w.contexts d a.fits room context what g.desk unused g.grows) }

    -- a request that opens, and then the group goes on
    opened_goes : (more : Given) → AllByRecursion (λ x. IsNamed book x.0 x.1) more → (e : LaneEvent) (n : Node) (told : List Told) → IsPlain e → Proposes (more ++ a.given) e
        → Asks book (length w.group.decided) e
        → (o : Opens h limit a.book w.group.decided w.nodes w.contexts d a.fits room context what n) → marks_of 1 told ≡ marks.Asks context what ∷ []
        → Goes Kept Carries limit d (record { world = Run.with_node h n (after e); told = told })
    opened_goes more k e n told plain q asks o m =
        let g = acted_runs Kept Carries law limit (Run.with_node h n (Run.named h context w)) o.desk e (after e).appended (opened_runs more k n o) plain q asks in
        record { desk = g.desk; runs = g.runs; moves = rw m (next_moves limit d o.desk g.desk (marks.Asks context what) [] o.asks (growth_moves limit o.desk g.desk g.grows)) }

  -- ---- a proposal

  -- a desk goes with a proposal that is asked under an unused context at a voter's host
  pub proposes_goes : (limit h : ℕ) (w : World) (d : Desk) (context : List ℕ) (p : Proposal) → is_member w.group h ≡ true → Runs Kept Carries limit (part_of w) d → is_used w context ≡ false
      → Goes Kept Carries limit d (Run.proposes h context p w)
  unfolding proposes
  proposes_goes limit h w d context p member a unused =
      let few = few_member w.group.voters h a.voters member in
      let what = whats.Proposes p in
      let key = next_key w h in
      let e = events.Propose h key p in
      let f = a.fits in
      let r = room limit h w d context what a few in
      let k = within limit h w d context what a few in
      let own : IsNamed (book limit h w d context what a few) key p = inr (
        next_within h limit a.book w.group.decided w.nodes w.contexts d f r context what,
        ap (λ (r : Request). r.what)
            (next_is h limit a.book w.group.decided w.nodes w.contexts d f r context what),
      ) in
      let more : Given = (key, p) ∷ [] in
      let first : IsGiven (more ++ a.given) key p = first_given key p a.given in
      let o = opens h limit a.book w.group.decided w.nodes w.contexts d f r context what wants.Proposal k unused (p, refl) in
      cond_both (Run.is_dropped (Run.noted e w)) _ _ (Goes Kept Carries limit d)
      (λ _. dropped_goes limit h w d context what a few more (own, tt) e _ tt first tt unused refl)
      (λ _. opened_goes limit h w d context what a few more (own, tt) e _ _ tt first tt o refl)

  -- ---- a read

  -- a desk goes with a read that is asked under an unused context at a voter's host
  pub reads_goes : (laws : Follows) (limit h : ℕ) (w : World) (d : Desk) (context query : List ℕ) → MovesJoin → is_member w.group h ≡ true → Runs Kept Carries limit (part_of w) d
      → is_used w context ≡ false
      → Goes Kept Carries limit d (Run.read_asked h (next_key w h) context query w)
  unfolding read_asked
  reads_goes laws limit h w d context query join member a unused =
      let few = few_member w.group.voters h a.voters member in
      let what = whats.Queries query in
      let key = next_key w h in
      let e = events.Ask h key in
      let ns = Run.noted e w in
      let f = a.fits in
      let r = room limit h w d context what a few in
      let k = within limit h w d context what a few in
      let is = next_is h limit a.book w.group.decided w.nodes w.contexts d f r context what in
      let least : length d.decided ≤ length w.group.decided = rw (f.decided, length-map) (omega arith) in
      let asks : IsAsked (book limit h w d context what a few) key (length w.group.decided) = record {
        within = next_within h limit a.book w.group.decided w.nodes w.contexts d f r context what;
        late = subst (λ (x : Request). x.since ≤ length w.group.decided) (sym is) least;
      } in
      let o = opens h limit a.book w.group.decided w.nodes w.contexts d f r context what (wants.Read query None) k unused refl in
      let v = Run.opened h key (wants.Read query None) (after limit h w d context what a few e) in
      let told = Run.asked context (lines.AskRead key 1 query) [] in
      let g : Goes Kept Carries limit d (record { world = v; told = told }) = opened_goes limit h w d context what a few [] tt e _ told tt tt asks o refl in
      let s = Run.heard h ns v in
      let q = heard_goes Kept Carries law laws limit h v g.desk ns join few (law.fronted e tt w.group a.kept) g.runs in
      let both : Goes Kept Carries limit d (record { world = s.world; told = told ++ s.told }) = record {
        desk = q.desk;
        runs = q.runs;
        moves = rw (marks_of-append 1 told s.told) (join limit d (marks_of 1 told) (marks_of 1 s.told) g.desk q.desk g.moves q.moves);
      } in
      cond_both (Run.is_dropped ns) _ _ (Goes Kept Carries limit d)
      (λ _. dropped_goes limit h w d context what a few [] tt e _ tt tt asks unused refl)
      (λ _. both)
