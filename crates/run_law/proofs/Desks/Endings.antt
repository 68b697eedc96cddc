-- Entries of any hosts are given to one host's cell, and its waiting reads are answered: each line is a move of the desk.
use Rattle.std.proofs.Common.{◌≡◌, ℕ, ◌+◌, ◌-◌, List, [], ◌∷◌, ◌++◌, Option, Some, None, length, map, refl, sym, ap, ◌∙◌, subst, inl, inr, append_assoc, arith}
use Rattle.std.specs.Prelude.{slice_get}
use Rattle.std.specs.List.{AllByRecursion}
use Rattle.std.specs.BTreeMap.{is_at}
use Rattle.std.proofs.lemmas.List.{append-nil, map-append, length-map}
use Rattle.std.proofs.lemmas.Option.{none-some}
use Rattle.host_ids.specs.declared.entry.Key.{Key}
use Rattle.host_ids.specs.declared.entry.Entry.{Entry}
use Rattle.host_ids.specs.declared.proposal.Proposal.{Proposal}
use Rattle.object_model.specs.declared.mark.What.{What}
use Rattle.object_model.specs.declared.mark.What.TheVariants as whats
use Rattle.object_model.specs.declared.mark.Ending.{Ending}
use Rattle.object_model.specs.declared.mark.Mark.TheVariants as marks
use Rattle.object_model.specs.Object.{answer}
use Rattle.object_model.specs.Sequence.{history, proposals_of}
use Rattle.object_model.specs.Desk.{Request, Desk, Moves, EndMove, PlaceMove, MovesJoin}
use Rattle.run_model.specs.declared.told.Want.{Want}
use Rattle.run_model.specs.declared.told.Want.TheVariants as wants
use Rattle.raft_model.specs.Group.{key_order}
use Rattle.script_text.specs.declared.line.Line.TheVariants as lines
use Rattle.run_model.specs.World.{Cell, contexts_at}
use Rattle.run_model.specs.Run
use Rattle.run_model.specs.Run.{context_at, Applied, applied, applied_by, answered, given, ending_of, want_of, without}
use Rattle.run_model.specs.Marks.{marks_of}
use Rattle.run_law.specs.Lawful.{placed}
use Rattle.run_law.proofs.Basics.Lists.{get_after}
use Rattle.run_law.proofs.Basics.Tables.{Taken, find_taken, found_has, miss_taken, remove_each, AreOrdered, ordered_left}
use Rattle.run_law.proofs.Requests.Serials.{contexts_of, request_at, Within, IsSort, Wanted, Reading, request_is}
use Rattle.run_law.proofs.Cells.Judging.{Follows}
use Rattle.run_law.proofs.Cells.History.{past, past_front}
use Rattle.run_law.proofs.Basics.Moves.{same_moves, one_moves, marks_of-append}
use Rattle.run_law.proofs.Cells.Standing.{Fed, fed_ending, answer_move, fed_given, cell_given}
use Rattle.run_law.proofs.Requests.Book.{Book, asked_at, request_in, requests_in, IsNamed, Named}

-- the open requests of a desk are those of a host's table, between those of the other hosts
abbrev pub with_open : Desk → Book → List Request → List Request → List (Key × Want) → Desk
with_open d book before beyond ws = record d { open_ones = before ++ (requests_in book ws ++ beyond) }

-- a list in the midst of which one leaves
open_split : (before front back beyond : List Request) (r : Request) → before ++ ((front ++ r ∷ back) ++ beyond) ≡ (before ++ front) ++ r ∷ (back ++ beyond)
open_split before front back beyond r = rw (append_assoc front (r ∷ back) beyond, append_assoc before front (r ∷ (back ++ beyond))) refl

-- the same list once it has left
open_rest : (before front back beyond : List Request) → before ++ ((front ++ back) ++ beyond) ≡ (before ++ front) ++ (back ++ beyond)
open_rest before front back beyond = rw (append_assoc front back beyond, append_assoc before front (back ++ beyond)) refl

module _ (me : ℕ) (book : Book) (before beyond : List Request) where
  -- the requests of this host
  abbrev pub mine : List Request
  mine = asked_at book me

  -- a desk in which the open requests of this host are those of a table
  abbrev pub rests : Desk → List (Key × Want) → Desk
  rests d ws = with_open d book before beyond ws

  -- a cell and a table of open requests fit a desk, of whose list the first entries are given
  pub record Serves (limit : ℕ) (contexts : List (List (List ℕ))) (d : Desk) (front back : List Entry) (c : Cell) (ws : List (Key × Want)) : Type 0 where
    pub list : d.decided ≡ map (placed contexts) (front ++ back)
    pub contexts_are : contexts_of mine ≡ contexts_at contexts me
    pub fed : Fed limit front c
    pub open_ones : d.open_ones ≡ before ++ (requests_in book ws ++ beyond)
    pub wanted : AllByRecursion (Wanted me mine) ws

  -- ---- an open request ends

  -- a stored key's request, by its host
  stored_is : (key stored : Key) → key ≡ stored → key.host ≡ me → request_in book stored ≡ request_at mine key
  stored_is key stored s m = ap (λ (k : Key). request_in book k) (sym s) ∙ ap (λ (u : ℕ). request_at (asked_at book u) key) m

  -- the request of a key that the table holds leaves the open ones
  end_move : (contexts : List (List (List ℕ))) (d : Desk) (key : Key) (what : What) (want : Want) (ws rest : List (Key × Want)) → d.open_ones ≡ before ++ (requests_in book ws ++ beyond)
      → contexts_of mine ≡ contexts_at contexts me → Within me mine key
      → (request_at mine key).what ≡ what → Taken key want ws rest → EndMove d (context_at contexts key) what (request_at mine key).since (rests d rest)
  end_move contexts d key what want ws rest o e k q t =
      let front = requests_in book t.front in
      let back = requests_in book t.back in
      let split : requests_in book ws ≡ front ++ request_in book t.stored ∷ back = rw (t.whole, map-append) refl in
      let left : requests_in book rest ≡ front ++ back = rw (t.rest, map-append) refl in
      let is = stored_is key t.stored t.same k.host ∙ request_is me contexts mine key what e k q in
      record {
        others = before ++ (requests_in book rest ++ beyond);
        was = record {
          front = before ++ front;
          back = back ++ beyond;
          whole = o ∙ ap (λ (l : List Request). before ++ (l ++ beyond)) split ∙ open_split before front back beyond (request_in book t.stored) ∙ ap
              (λ (r : Request). (before ++ front) ++ r ∷ (back ++ beyond)) is;
          rest = ap (λ (l : List Request). before ++ (l ++ beyond)) left ∙ open_rest before front back beyond;
        };
        becomes = refl;
      }

  -- ---- giving entries to the cell

  -- the cell, the open requests and the lines after one entry
  abbrev one : List (List (List ℕ)) → Entry → Cell → List (Key × Want) → Applied
  one contexts e c ws = applied_by contexts e.proposal e.key c ws

  -- after an entry, whether its proposal has an ending or not, the open requests are wanted as before
  wanted_by : (contexts : List (List (List ℕ))) (key : Key) (c : Cell) (ws : List (Key × Want)) (o : Option Ending) → AllByRecursion (Wanted me mine) ws
      → AllByRecursion (Wanted me mine) (Run.ended_with o contexts key c ws).wants
  wanted_by contexts key c ws None h = h
  wanted_by contexts key c ws (Some ending) h = remove_each (Wanted me mine) (is_at (key_order key)) ws h

  -- a blank has no request that ends
  blank_or_asked : (key : Key) (p : Proposal) (c : Cell) (ending : Ending) → ending_of p c ≡ Some ending → key.host ≡ me → IsNamed book key p
      → Within me mine key × ((request_at mine key).what ≡ whats.Proposes p)
  blank_or_asked key p c ending e m s = by_sort (subst (λ (u : ℕ). IsSort u (asked_at book u) key p) m s) where
    by_sort : IsSort me mine key p → Within me mine key × ((request_at mine key).what ≡ whats.Proposes p)
    by_sort (inl blank) = let none : None ≡ Some ending = subst (λ (q : Proposal). ending_of q c ≡ Some ending) blank.1 e in absurd (none-some ending none)
    by_sort (inr s) = s

  -- an entry's request ends at its place
  place_move : (laws : Follows) (limit : ℕ) (contexts : List (List (List ℕ))) (d : Desk) (front back : List Entry) (e : Entry) (c : Cell) (ws : List (Key × Want)) (ending : Ending) (want : Want)
      → Serves limit contexts d front (e ∷ back) c ws → ending_of e.proposal c ≡ Some ending → IsNamed book e.key e.proposal → want_of e.key ws ≡ Some want
      → PlaceMove limit d (context_at contexts e.key) (c.applied + 1) ending (rests d (without e.key ws))
  place_move laws limit contexts d front back e c ws ending want h q sort l =
      let host = (found_has (Wanted me mine) e.key want ws l h.wanted).within.host in
      let s = blank_or_asked e.key e.proposal c ending q host sort in
      let k : c.applied + 1 - 1 ≡ length front = omega (arith, h.fed.count) in
      let list : d.decided ≡ map (placed contexts) front ++ placed contexts e ∷ map (placed contexts) back = h.list ∙ map-append _ front (e ∷ back) in
      let there : slice_get d.decided (c.applied + 1 - 1) ≡ Some (placed contexts e) = rw list
      (get_after (map (placed contexts) front) (placed contexts e) (map (placed contexts) back) (c.applied + 1 - 1) (k ∙ sym (length-map front _))) in
      let older : history (c.applied + 1 - 1) (proposals_of d.decided) ≡ past front = rw (k, h.list) (past_front contexts front (e ∷ back)) in
      record {
        proposal = e.proposal;
        since = (request_at mine e.key).since;
        positive = omega arith;
        stands = there;
        gives = rw (older, there) (sym (fed_ending laws limit front e.proposal c h.fed) ∙ q);
        ends = end_move contexts d e.key (whats.Proposes e.proposal) want ws (without e.key ws) h.open_ones h.contexts_are s.0 s.1 (find_taken e.key want ws l);
      }

  -- nothing leaves the table
  miss_moves : (limit : ℕ) (d : Desk) (key : Key) (ws : List (Key × Want)) → d.open_ones ≡ before ++ (requests_in book ws ++ beyond) → want_of key ws ≡ None
      → Moves limit d [] (rests d (without key ws))
  miss_moves limit d key ws o l = same_moves limit d (before ++ (requests_in book (without key ws) ++ beyond))
      (o ∙ ap (λ (l : List (Key × Want)). before ++ (requests_in book l ++ beyond)) (sym (miss_taken key ws l)))

  -- an entry's ending is a move where its request is open here, and is no line where it isn't
  ended_moves : (laws : Follows) (limit : ℕ) (contexts : List (List (List ℕ))) (d : Desk) (front back : List Entry) (e : Entry) (c : Cell) (ws : List (Key × Want)) (ending : Ending) (o : Option Want)
      → Serves limit contexts d front (e ∷ back) c ws → ending_of e.proposal c ≡ Some ending → IsNamed book e.key e.proposal → want_of e.key ws ≡ o
      → Moves limit d (marks_of 1 (Run.ended o contexts e.key (lines.Ended e.key 1 (c.applied + 1) ending))) (rests d (without e.key ws))
  ended_moves laws limit contexts d front back e c ws ending None h q s l = miss_moves limit d e.key ws h.open_ones l
  ended_moves laws limit contexts d front back e c ws ending (Some want) h q s l = one_moves limit d (rests d (without e.key ws)) (marks.Ends (context_at contexts e.key) (c.applied + 1) ending)
      (place_move laws limit contexts d front back e c ws ending want h q s l)

  -- one entry's request, if it is open here, ends by a move
  one_by : (laws : Follows) (limit : ℕ) (contexts : List (List (List ℕ))) (d : Desk) (front back : List Entry) (e : Entry) (c : Cell) (ws : List (Key × Want)) (o : Option Ending)
      → Serves limit contexts d front (e ∷ back) c ws → ending_of e.proposal c ≡ o → IsNamed book e.key e.proposal
      → Moves limit d (marks_of 1 (Run.ended_with o contexts e.key (given e.proposal c) ws).told) (rests d (Run.ended_with o contexts e.key (given e.proposal c) ws).wants)
  one_by laws limit contexts d front back e c ws None h q s = same_moves limit d (before ++ (requests_in book ws ++ beyond)) h.open_ones
  one_by laws limit contexts d front back e c ws (Some ending) h q s = ended_moves laws limit contexts d front back e c ws ending (want_of e.key ws) h q s refl

  -- after one entry the cell and the table fit the desk, with that entry given too
  one_serves : (laws : Follows) (limit : ℕ) (contexts : List (List (List ℕ))) (d : Desk) (front back : List Entry) (e : Entry) (c : Cell) (ws : List (Key × Want))
      → Serves limit contexts d front (e ∷ back) c ws
      → Serves limit contexts (rests d (one contexts e c ws).wants) (front ++ e ∷ []) back (one contexts e c ws).cell (one contexts e c ws).wants
  one_serves laws limit contexts d front back e c ws h = record {
    list = h.list ∙ ap (λ (l : List Entry). map (placed contexts) l) (sym (append_assoc front (e ∷ []) back));
    contexts_are = h.contexts_are;
    fed = subst (λ (x : Cell). Fed limit (front ++ e ∷ []) x) (sym (cell_given contexts e.key (given e.proposal c) ws (ending_of e.proposal c))) (fed_given laws limit front e c h.fed);
    open_ones = refl;
    wanted = wanted_by contexts e.key (given e.proposal c) ws (ending_of e.proposal c) h.wanted;
  }

  -- some entries more are given: the requests that end do so by moves
  pub record Gives (limit : ℕ) (contexts : List (List (List ℕ))) (d : Desk) (front back : List Entry) (a : Applied) : Type 0 where
    pub moves : Moves limit d (marks_of 1 a.told) (rests d a.wants)
    pub serves : Serves limit contexts (rests d a.wants) front back a.cell a.wants

  -- entries that the book names are given so, one after another
  pub all_given : (laws : Follows) (limit : ℕ) (contexts : List (List (List ℕ))) (d : Desk) (front es back : List Entry) (c : Cell) (ws : List (Key × Want)) → MovesJoin
      → Serves limit contexts d front (es ++ back) c ws → AllByRecursion (Named book) es
      → Gives limit contexts d (front ++ es) back (applied contexts es c ws)
  unfolding applied
  all_given laws limit contexts d front [] back c ws join h p = rw append-nil (record {
    moves = same_moves limit d (before ++ (requests_in book ws ++ beyond)) h.open_ones;
    serves = record { list = h.list; contexts_are = h.contexts_are; fed = h.fed; open_ones = refl; wanted = h.wanted };
  })
  all_given laws limit contexts d front (e ∷ es) back c ws join h p =
      let first = one contexts e c ws in
      let more = applied contexts es first.cell first.wants in
      let d1 = rests d first.wants in
      let g = all_given laws limit contexts d1 (front ++ e ∷ []) es back first.cell first.wants join (one_serves laws limit contexts d front (es ++ back) e c ws h) p.1 in
      rw (← append_assoc front (e ∷ []) es) (record {
        moves = rw marks_of-append (join limit d (marks_of 1 first.told) (marks_of 1 more.told) d1 (rests d more.wants)
            (one_by laws limit contexts d front (es ++ back) e c ws (ending_of e.proposal c) h refl p.0.sort) g.moves);
        serves = g.serves;
      })

  -- after entries the open requests are in order still
  pub applied_ordered : (contexts : List (List (List ℕ))) (es : List Entry) (c : Cell) (ws : List (Key × Want)) → AreOrdered ws → AreOrdered (applied contexts es c ws).wants
  unfolding applied
  applied_ordered contexts [] c ws p = p
  applied_ordered contexts (e ∷ es) c ws p =
      let first = one contexts e c ws in
      applied_ordered contexts es first.cell first.wants (ordered_by e.key (given e.proposal c) (ending_of e.proposal c))
    where
      ordered_by : (key : Key) (c : Cell) (o : Option Ending) → AreOrdered (Run.ended_with o contexts key c ws).wants
      ordered_by key c None = p
      ordered_by key c (Some ending) = ordered_left (is_at (key_order key)) ws p

  -- ---- answering reads

  -- after reads are answered the open requests are in order still
  pub answered_ordered : (contexts : List (List (List ℕ))) (c : Cell) (keys : List Key) (ws : List (Key × Want)) → AreOrdered ws → AreOrdered (answered contexts c keys ws).wants
  unfolding answered
  answered_ordered contexts c [] ws p = p
  answered_ordered contexts c (key ∷ keys) ws p = answered_ordered contexts c keys (without key ws) (ordered_left (is_at (key_order key)) ws p)

  -- a due read is answered by a move where it is open here, and by no line where it isn't
  told_moves : (limit : ℕ) (contexts : List (List (List ℕ))) (d : Desk) (front back : List Entry) (c : Cell) (ws : List (Key × Want)) (key : Key) (o : Option Want)
      → Serves limit contexts d front back c ws → Reading me mine c.applied key → want_of key ws ≡ o
      → Moves limit d (marks_of 1 (Run.answer_told contexts c key o)) (rests d (without key ws))
  told_moves limit contexts d front back c ws key None h r l = miss_moves limit d key ws h.open_ones l
  told_moves limit contexts d front back c ws key (Some wants.Proposal) h r l =
      let p = (found_has (Wanted me mine) key wants.Proposal ws l h.wanted).want in
      let e : whats.Proposes p.0 ≡ whats.Queries r.query = sym p.1 ∙ r.what in
      absurd cc
  told_moves limit contexts d front back c ws key (Some (wants.Read query index)) h r l =
      let t = find_taken key (wants.Read query index) ws l in
      let q = (found_has (Wanted me mine) key (wants.Read query index) ws l h.wanted).want in
      let e = rests d (without key ws) in
      one_moves limit d e (marks.Reads (context_at contexts key) c.applied (answer c.pairs query))
      (answer_move limit contexts d e front back c (context_at contexts key) query (request_at mine key).since h.list h.fed r.late
      (end_move contexts d key (whats.Queries query) (wants.Read query index) ws (without key ws) h.open_ones h.contexts_are r.within q t))

  -- the due reads that are open end by moves
  pub all_answered : (limit : ℕ) (contexts : List (List (List ℕ))) (d : Desk) (front back : List Entry) (c : Cell) (ws : List (Key × Want)) (keys : List Key) → MovesJoin
      → Serves limit contexts d front back c ws → AllByRecursion (Reading me mine c.applied) keys
      → Moves limit d (marks_of 1 (answered contexts c keys ws).told) (rests d (answered contexts c keys ws).wants) × AllByRecursion (Wanted me mine) (answered contexts c keys ws).wants
  unfolding answered
  all_answered limit contexts d front back c ws [] join h p = (same_moves limit d (before ++ (requests_in book ws ++ beyond)) h.open_ones, h.wanted)
  all_answered limit contexts d front back c ws (key ∷ keys) join h p =
      let d1 = rests d (without key ws) in
      let told = Run.answer_told contexts c key (want_of key ws) in
      let more = answered contexts c keys (without key ws) in
      let s : Serves limit contexts d1 front back c (without key ws) = record {
        list = h.list;
        contexts_are = h.contexts_are;
        fed = h.fed;
        open_ones = refl;
        wanted = remove_each (Wanted me mine) (is_at (key_order key)) ws h.wanted;
      } in
      let g = all_answered limit contexts d1 front back c (without key ws) keys join s p.1 in
      (rw marks_of-append (join limit d (marks_of 1 told) (marks_of 1 more.told) d1 (rests d more.wants) (told_moves limit contexts d front back c ws key (want_of key ws) h p.0 refl) g.0), g.1)
