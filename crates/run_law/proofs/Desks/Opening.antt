-- A request that is asked at a host: the desk's moves while it opens, and where it ends at once.
use Rattle.std.proofs.Common.{◌≡◌, ◌≢◌, ℕ, ◌+◌, ◌<◌, List, [], ◌∷◌, ◌++◌, false, refl, sym, ap, ◌∙◌, subst, length, length-append, append_assoc, arith}
use Rattle.std.specs.Prelude.{bytes_eq, slice_set}
use Rattle.std.specs.List.{AllByRecursion, list_any}
use Rattle.std.specs.BTreeMap.{insert_entry}
use Rattle.std.specs.declared.cmp.Ordering.TheVariants.{Greater}
use Rattle.std.proofs.lemmas.List.{map-append, length-map, get_or-set_same}
use Rattle.host_ids.specs.declared.entry.Key.{Key}
use Rattle.host_ids.specs.declared.entry.Entry.{Entry}
use Rattle.object_model.specs.declared.mark.What.{What}
use Rattle.object_model.specs.declared.mark.Mark.TheVariants as marks
use Rattle.object_model.specs.Desk.{Request, Desk, Grows, Moves, AskMove, EndMove}
use Rattle.raft_model.specs.Group.{key_order}
use Rattle.run_model.specs.declared.told.Want.{Want}
use Rattle.run_model.specs.World.{Node, new_node, contexts_at}
use Rattle.host_ids.specs.declared.proposal.TheConstants.{MOST_SESSIONS}
use Rattle.run_law.proofs.Basics.Lists.{all_append, all_left, all_right, all_map}
use Rattle.run_law.proofs.Basics.Tables.{With, insert_new, order_after, ordered_new}
use Rattle.run_law.proofs.Requests.Serials.{request_at, Within, IsWanted, Wanted, request_last, more_contexts}
use Rattle.run_law.proofs.Basics.Moves.{growth_moves, next_moves}
use Rattle.run_law.proofs.Requests.Book.{Book, asked_at, request_in, requests_in, opens_before, opens_beyond, opens_around, more_asked, contexts_there, unused_new}
use Rattle.run_law.proofs.Desks.Fits.{NodeFits, at_host, Fits, hosts_same, asked_fits, set_fits}

-- the key of the next request at a host
abbrev pub key_of : ℕ → List (List (List ℕ)) → Key
key_of h contexts = record { host = h; start = 1; serial = length (contexts_at contexts h) + 1 }

-- no request at any host has the context
abbrev pub IsUnused : List (List (List ℕ)) → List ℕ → Type 0
IsUnused contexts context = list_any (λ cs. list_any (bytes_eq context) cs) contexts ≡ false

-- the request that is asked: the list may be as long as it is
abbrev pub asking : Desk → List ℕ → What → Request
asking d context what = record { context = context; what = what; since = length d.decided }

-- the desk while it is open
abbrev pub opening : Desk → List ℕ → What → Desk
opening d context what = record { decided = d.decided; asked = d.asked ++ asking d context what ∷ []; open_ones = [] ++ asking d context what ∷ d.open_ones }

-- the desk after its end: it was asked, and the open requests are as before
abbrev pub closing : Desk → List ℕ → What → Desk
closing d context what = record d { asked = d.asked ++ asking d context what ∷ [] }

-- the request that has just opened ends
close_move : (d : Desk) (context : List ℕ) (what : What) → EndMove (opening d context what) context what (length d.decided) (closing d context what)
close_move d context what = record { others = d.open_ones; was = record { front = []; back = d.open_ones; whole = refl; rest = refl }; becomes = refl }

module _ (h limit : ℕ) (book : Book) (decided : List Entry) (nodes : List Node) (contexts : List (List (List ℕ))) (d : Desk) (f : Fits limit book decided nodes contexts d)
    (few : h < length contexts) where
  -- the book with a request more
  abbrev pub book_with : List ℕ → What → Book
  book_with context what = more_asked h (asking d context what) book

  -- the book has a place for the host
  room : h < length book
  room = rw (hosts_same limit book decided nodes contexts d f) few

  -- a request under an unused context is asked, and opens anywhere among the open ones
  ask_move : (context : List ℕ) (what : What) (front back : List Request) → IsUnused contexts context → d.open_ones ≡ front ++ back
      → AskMove d context what (record { decided = d.decided; asked = d.asked ++ asking d context what ∷ []; open_ones = front ++ asking d context what ∷ back })
  ask_move context what front back unused o = record {
    since = length d.decided;
    late = omega arith;
    new = unused_new contexts context d.asked unused f.used;
    open_ones = front ++ asking d context what ∷ back;
    with = record { front = front; back = back; whole = refl; rest = o };
    becomes = refl;
  }

  -- the new key names the new request
  count : length (asked_at book h) ≡ length (contexts_at contexts h)
  count = sym (length-map (asked_at book h) (λ (r : Request). r.context)) ∙ ap (λ (l : List (List ℕ)). length l) (contexts_there book contexts h f.contexts)

  -- the new book has the host's requests of before, and then the new one
  there : (context : List ℕ) (what : What) → asked_at (book_with context what) h ≡ asked_at book h ++ asking d context what ∷ []
  there context what = get_or-set_same book h (asked_at book h ++ asking d context what ∷ []) [] room

  -- in the new book the next key is that of a request of this host
  pub next_within : (context : List ℕ) (what : What) → Within h (asked_at (book_with context what) h) (key_of h contexts)
  next_within context what = record { host = refl; start = refl; positive = omega arith; most = rw (there context what, length-append) (omega (arith, count)) }

  -- in the new book the next key names the new request
  pub next_is : (context : List ℕ) (what : What) → request_at (asked_at (book_with context what) h) (key_of h contexts) ≡ asking d context what
  next_is context what = rw (there context what) (request_last (asked_at book h) (asking d context what) (key_of h contexts) (omega (arith, count)))

  -- ---- a request that ends at once

  -- the desk after the request's end fits the book with the request
  pub closing_fits : (context : List ℕ) (what : What) → Fits limit (book_with context what) decided nodes (more_contexts h context contexts) (closing d context what)
  closing_fits context what = asked_fits h limit (asking d context what) context book decided nodes contexts d few refl f

  -- it is dropped, and then the list may grow
  pub dropped_moves : (context : List ℕ) (what : What) (e : Desk) → IsUnused contexts context → Grows (closing d context what) e
      → Moves limit d (marks.Asks context what ∷ marks.Leaves context ∷ []) e
  dropped_moves context what e unused g =
      let d1 = opening d context what in
      let d2 = closing d context what in
      next_moves limit d d1 e (marks.Asks context what) (marks.Leaves context ∷ []) (ask_move context what [] d.open_ones unused refl)
      (next_moves limit d1 d2 e (marks.Leaves context) [] (record { what = what; since = length d.decided; ends = close_move d context what }) (growth_moves limit d2 e g))

  -- ---- a request that opens

  -- a desk to which the ask moves, with the request open, and which fits where the host's node is this one
  pub record Opens (context : List ℕ) (what : What) (n : Node) : Type 0 where
    pub desk : Desk
    pub asks : AskMove d context what desk
    pub fits : Fits limit (book_with context what) decided (slice_set nodes h n) (more_contexts h context contexts) desk

  -- the next request's key comes after those of the open ones
  next_after : (ws : List (Key × Want)) → AllByRecursion (Wanted h (asked_at book h)) ws → AllByRecursion (λ e. key_order (key_of h contexts) e.0 ≡ Greater) ws
  next_after ws p = all_map (Wanted h (asked_at book h)) (λ e. key_order (key_of h contexts) e.0 ≡ Greater) ws
      (λ x n. order_after (key_of h contexts) x.0 (sym n.within.host) (sym n.within.start) (omega (arith, count, n.within.most))) p

  -- the serial of the next request is no open one's
  next_new : (ws : List (Key × Want)) → AllByRecursion (Wanted h (asked_at book h)) ws → AllByRecursion (λ e. (key_of h contexts).serial ≢ e.0.serial) ws
  next_new ws p = all_map (Wanted h (asked_at book h)) (λ e. (key_of h contexts).serial ≢ e.0.serial) ws (λ x n. λ e. omega (arith, e, count, n.within.most)) p

  -- a request under an unused context opens: it joins the open ones of its host
  pub opens : (context : List ℕ) (what : What) (want : Want) → h < length nodes → IsUnused contexts context → IsWanted what want
      → Opens context what (record {
        cell = (at_host nodes h).cell;
        requests = record { wants = insert_entry key_order (at_host nodes h).requests.wants (key_of h contexts) want; waiting = (at_host nodes h).requests.waiting };
      })
  opens context what want within unused q =
      let r = asking d context what in
      let key = key_of h contexts in
      let more = book_with context what in
      let d1 = closing d context what in
      let n = at_host nodes h in
      let old = n.requests.wants in
      let new = insert_entry key_order old key want in
      let node : Node = record { cell = n.cell; requests = record { wants = new; waiting = n.requests.waiting } } in
      let g : Fits limit more decided nodes (more_contexts h context contexts) d1 = closing_fits context what in
      let was = g.nodes h within in
      let w : With key want old new = insert_new key want old (next_new old (f.nodes h within).wants) in
      let both : AllByRecursion (Wanted h (asked_at more h)) (w.front ++ w.back) = subst (λ (l : List (Key × Want)). AllByRecursion (Wanted h (asked_at more h)) l) w.before was.wants in
      let wanted : Wanted h (asked_at more h) (key, want) = record { within = next_within context what; want = rw (next_is context what) q } in
      let wants : AllByRecursion (Wanted h (asked_at more h)) new = rw w.beyond
      (all_append (Wanted h (asked_at more h)) w.front ((key, want) ∷ w.back) (all_left (Wanted h (asked_at more h)) w.front w.back both)
      (wanted, all_right (Wanted h (asked_at more h)) w.front w.back both)) in
      let before = opens_before more h nodes in
      let beyond = opens_beyond more h nodes in
      let front = requests_in more w.front in
      let back = requests_in more w.back in
      let is : request_in more key ≡ r = next_is context what in
      let split : requests_in more new ≡ front ++ r ∷ back = rw (w.beyond, map-append, is) refl in
      let older : requests_in more old ≡ front ++ back = ap (λ (l : List (Key × Want)). requests_in more l) w.before ∙ map-append _ w.front w.back in
      let whole : before ++ (requests_in more new ++ beyond) ≡ (before ++ front) ++ r ∷ (back ++ beyond) =
      ap (λ (l : List Request). before ++ (l ++ beyond)) split ∙ rw (append_assoc front (r ∷ back) beyond, append_assoc before front (r ∷ (back ++ beyond))) refl in
      let rest : d.open_ones ≡ (before ++ front) ++ (back ++ beyond) =
      g.open_ones ∙ opens_around more h nodes (new_node MOST_SESSIONS) within ∙ ap (λ (l : List Request). before ++ (l ++ beyond)) older ∙ rw
      (append_assoc front back beyond, append_assoc before front (back ++ beyond)) refl in
      let becomes : NodeFits h limit (asked_at more h) decided node = record {
        wants = wants;
        ordered = ordered_new key want old (next_after old (f.nodes h within).wants) was.ordered;
        waiting = was.waiting;
        applied = was.applied;
        limit_is = was.limit_is;
        judges = was.judges;
      } in
      let d2 : Desk = record d1 { open_ones = before ++ (requests_in more new ++ beyond) } in
      record {
        desk = d2;
        asks = subst (λ (l : List Request). AskMove d context what (record d1 { open_ones = l })) (sym whole) (ask_move context what (before ++ front) (back ++ beyond) unused rest);
        fits = set_fits h limit node more decided nodes (more_contexts h context contexts) d1 within becomes g;
      }
