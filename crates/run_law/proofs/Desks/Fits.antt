-- A desk that fits a book, a decided list, and the nodes of all hosts: what a run keeps of them, whatever the roster.
use Rattle.std.proofs.Common.{◌≡◌, ℕ, zero, suc, ◌≤◌, ◌<◌, List, [], ◌∷◌, ◌++◌, length, get_or, take, map, replicate, refl, sym, ap, ◌∙◌, length-append, arith, ◌⊎◌, inl, inr}
use Rattle.std.specs.Prelude.{slice_set}
use Rattle.std.specs.List.{AllByRecursion}
use Rattle.std.proofs.lemmas.Bool.{cases_eq}
use Rattle.std.proofs.lemmas.List.{take-append-le, map-append, length-map, length-set, get_or-set_same, get_or-set_other, get_or-replicate, length-replicate}
use Rattle.host_ids.specs.declared.entry.Entry.{Entry}
use Rattle.object_model.specs.declared.mark.What.TheVariants as whats
use Rattle.object_model.specs.Desk.{Request, Desk, empty_desk, Grows}
use Rattle.run_model.specs.World.{Node, new_node}
use Rattle.host_ids.specs.declared.proposal.TheConstants.{MOST_SESSIONS}
use Rattle.run_law.specs.Lawful.{placed}
use Rattle.run_law.proofs.Basics.Lists.{all_append, all_map}
use Rattle.run_law.proofs.Basics.Tables.{AreOrdered}
use Rattle.run_law.proofs.Requests.Serials.{contexts_of, Wanted, Waits, wanted_more, reading_more, more_contexts}
use Rattle.run_law.proofs.Cells.Judging.{Judges, new_judges}
use Rattle.run_law.proofs.Cells.History.{past}
use Rattle.run_law.proofs.Requests.Book.{Book, asked_at, Named, opens_in, requests_in, opens_before, opens_beyond, IsAmong, AreIn, IsUsed, IsOwned, more_asked, all_from, all_or, all_set}
use Rattle.run_law.proofs.Requests.Book.{longer, named_more}
use Rattle.run_law.proofs.Requests.Book.{placed_kept, contexts_more, opens_kept, opens_set, in_more, in_last, all_may, used_more, used_new}

-- what a host keeps: its cell stands for the first places of the decided list, and its open requests were asked at it, and are in the order of their keys
pub record NodeFits (u limit : ℕ) (mine : List Request) (decided : List Entry) (n : Node) : Type 0 where
  pub wants : AllByRecursion (Wanted u mine) n.requests.wants
  pub ordered : AreOrdered n.requests.wants
  pub waiting : AllByRecursion (Waits u mine) n.requests.waiting
  pub applied : n.cell.applied ≤ length decided
  pub limit_is : n.cell.sessions.limit ≡ limit
  pub judges : Judges (past (take n.cell.applied decided)) n.cell.sessions n.cell.pairs

-- a host's node
abbrev pub at_host : List Node → ℕ → Node
at_host ns u = get_or ns u (new_node MOST_SESSIONS)

-- a desk fits: it has the decided list, the book's proposals and all hosts' open requests, and each node fits the list and its host's requests
pub record Fits (limit : ℕ) (book : Book) (list : List Entry) (hosts : List Node) (names : List (List (List ℕ))) (d : Desk) : Type 0 where
  pub decided : d.decided ≡ map (placed names) list
  pub named : AllByRecursion (Named book) list
  pub contexts : map contexts_of book ≡ names
  pub asked : AreIn d.asked book
  pub used : AllByRecursion (λ r. IsUsed names r.context) d.asked
  pub open_ones : d.open_ones ≡ opens_in book hosts
  pub nodes : (u : ℕ) → u < length hosts → NodeFits u limit (asked_at book u) list (at_host hosts u)

-- ---- it begins

-- what holds of an element holds of all of a list of its copies
pub all_replicate : {A : Type 0} (P : A → Type 0) (n : ℕ) (x : A) → P x → AllByRecursion P (replicate n x)
all_replicate P zero x p = tt
all_replicate P (suc n) x p = (p, all_replicate P n x p)

-- new nodes have no open requests
none_open : (book : Book) (limit n : ℕ) → opens_in book (replicate n (new_node limit)) ≡ []
none_open book limit zero = refl
none_open book limit (suc n) = none_open book limit n

-- a book in which nothing was asked has no contexts
none_asked : (n : ℕ) → map contexts_of (replicate n []) ≡ replicate n []
none_asked zero = refl
none_asked (suc n) = ap (λ (l : List (List (List ℕ))). [] ∷ l) (none_asked n)

-- a new node fits before anything is decided
new_fits : (u limit : ℕ) (mine : List Request) → 1 ≤ limit → NodeFits u limit mine [] (new_node limit)
new_fits u limit mine l = record { wants = tt; ordered = tt; waiting = tt; applied = omega arith; limit_is = refl; judges = new_judges limit l }

-- some hosts, before anything is asked
pub begin_fits : (limit hosts : ℕ) → 1 ≤ limit → Fits limit (replicate hosts []) [] (replicate hosts (new_node limit)) (replicate hosts []) empty_desk
begin_fits limit hosts l = record {
  decided = refl;
  named = tt;
  contexts = none_asked hosts;
  asked = all_replicate (λ l. AllByRecursion (IsAmong []) l) hosts [] tt;
  used = tt;
  open_ones = sym (none_open (replicate hosts []) limit hosts);
  nodes = λ u m. rw (get_or-replicate hosts u (new_node limit) (new_node MOST_SESSIONS) (rw (← length_nodes) m)) (new_fits u limit (asked_at (replicate hosts []) u) l);
} where
  length_nodes : length (replicate hosts (new_node limit)) ≡ hosts
  length_nodes = length-replicate hosts (new_node limit)

-- ---- the decided list grows

-- a node that fits a decided list fits a longer one
node_grown : (u limit : ℕ) (mine : List Request) (decided more : List Entry) (n : Node) → NodeFits u limit mine decided n → NodeFits u limit mine (decided ++ more) n
node_grown u limit mine decided more n f = record {
  wants = f.wants;
  ordered = f.ordered;
  waiting = f.waiting;
  applied = rw length-append (omega (arith, f.applied));
  limit_is = f.limit_is;
  judges = rw (take-append-le n.cell.applied decided more f.applied) f.judges;
}

-- where entries that the book names are decided, the desk grows by them, and fits
pub grown_fits : (limit : ℕ) (book : Book) (decided more : List Entry) (nodes : List Node) (contexts : List (List (List ℕ))) (d : Desk) → Fits limit book decided nodes contexts d
    → AllByRecursion (Named book) more
    → (e : Desk) × Grows d e × Fits limit book (decided ++ more) nodes contexts e
grown_fits limit book decided more nodes contexts d f all = (
  record d { decided = d.decided ++ map (placed contexts) more },
  record { more = map (placed contexts) more; may = all_may book contexts d.asked more f.contexts f.asked all; becomes = refl },
  record {
    decided = rw (map-append, f.decided) refl;
    named = all_append (Named book) decided more f.named all;
    contexts = f.contexts;
    asked = f.asked;
    used = f.used;
    open_ones = f.open_ones;
    nodes = λ u l. node_grown u limit (asked_at book u) decided more (at_host nodes u) (f.nodes u l);
  },
)

-- ---- a request more

-- a node that fits what was asked at its host fits with more asked
node_more : (u limit : ℕ) (mine more : List Request) (decided : List Entry) (n : Node) → NodeFits u limit mine decided n → NodeFits u limit (mine ++ more) decided n
node_more u limit mine more decided n f = record {
  wants = all_map (Wanted u mine) (Wanted u (mine ++ more)) n.requests.wants (λ x p. wanted_more u mine more x p) f.wants;
  ordered = f.ordered;
  waiting = all_map (Waits u mine) (Waits u (mine ++ more)) n.requests.waiting (λ x p. reading_more u mine more x.front x.key p) f.waiting;
  applied = f.applied;
  limit_is = f.limit_is;
  judges = f.judges;
}

-- as many hosts
pub hosts_same : (limit : ℕ) (book : Book) (decided : List Entry) (nodes : List Node) (contexts : List (List (List ℕ))) (d : Desk) → Fits limit book decided nodes contexts d
    → length book ≡ length contexts
hosts_same limit book decided nodes contexts d f = sym (length-map book contexts_of) ∙ ap (λ (l : List (List (List ℕ))). length l) f.contexts

-- a request is written down at its host, whichever group it is asked of, where the desk has heard of these
booked_fits : (h limit : ℕ) (r : Request) (context : List ℕ) (book : Book) (decided : List Entry) (nodes : List Node) (contexts : List (List (List ℕ))) (d : Desk) (asked : List Request)
    → h < length contexts → r.context ≡ context → Fits limit book decided nodes contexts d → AreIn asked book → IsAmong asked r
    → AllByRecursion (λ r. IsUsed (more_contexts h context contexts) r.context) asked
    → Fits limit (more_asked h r book) decided nodes (more_contexts h context contexts) (record d { asked = asked })
booked_fits h limit r context book decided nodes contexts d asked few e f older new used =
    let room : h < length book = rw (hosts_same limit book decided nodes contexts d f) few in
    let owned : AllByRecursion (IsOwned book) nodes = all_from (IsOwned book) nodes (new_node MOST_SESSIONS) (λ u l. record { host = u; wants = (f.nodes u l).wants }) in
    let mine : AllByRecursion (IsAmong asked) (asked_at book h) = all_or (λ l. AllByRecursion (IsAmong asked) l) book h [] tt older in
    record {
      decided = f.decided ∙ sym (placed_kept h r context book contexts decided room e f.contexts f.named);
      named = all_map (Named book) (Named (more_asked h r book)) decided (λ x p. record { sort = named_more h r book x.key x.proposal room p.sort }) f.named;
      contexts = contexts_more h r context book contexts e f.contexts;
      asked = all_set (λ l. AllByRecursion (IsAmong asked) l) book h (asked_at book h ++ r ∷ []) (all_append (IsAmong asked) (asked_at book h) (r ∷ []) mine (new, tt)) older;
      used = used;
      open_ones = f.open_ones ∙ sym (opens_kept h r book nodes room owned);
      nodes = λ u l. let g = longer h r book u room in rw g.1 (node_more u limit (asked_at book u) g.0 decided (at_host nodes u) (f.nodes u l));
    }

-- the contexts that the desk has heard of are used still
still_used : (h : ℕ) (context : List ℕ) (contexts : List (List (List ℕ))) (asked : List Request) → AllByRecursion (λ r. IsUsed contexts r.context) asked
    → AllByRecursion (λ r. IsUsed (more_contexts h context contexts) r.context) asked
still_used h context contexts asked p =
    all_map (λ r. IsUsed contexts r.context) (λ r. IsUsed (more_contexts h context contexts) r.context) asked (λ x q. used_more contexts h context x.context q) p

-- a request of the group is asked
pub asked_fits : (h limit : ℕ) (r : Request) (context : List ℕ) (book : Book) (decided : List Entry) (nodes : List Node) (contexts : List (List (List ℕ))) (d : Desk) → h < length contexts
    → r.context ≡ context → Fits limit book decided nodes contexts d
    → Fits limit (more_asked h r book) decided nodes (more_contexts h context contexts) (record d { asked = d.asked ++ r ∷ [] })
asked_fits h limit r context book decided nodes contexts d few e f =
    let asked = d.asked ++ r ∷ [] in
    let older : AreIn asked book = all_map (λ l. AllByRecursion (IsAmong d.asked) l) (λ l. AllByRecursion (IsAmong asked) l) book
    (λ l p. all_map (IsAmong d.asked) (IsAmong asked) l (λ x i q is. in_more d.asked x r (i q is)) p) f.asked in
    booked_fits h limit r context book decided nodes contexts d asked few e f older (λ p is. in_last d.asked r)
    (all_append (λ r. IsUsed (more_contexts h context contexts) r.context) d.asked (r ∷ []) (still_used h context contexts d.asked f.used) (rw e (used_new contexts h context few), tt))

-- what stands in the book for a request of another group: under its context nothing was proposed here
abbrev pub foreign : List ℕ → Request
foreign context = record { context = context; what = whats.Queries []; since = 0 }

-- a request of another group is asked, of which the desk doesn't hear
pub foreign_fits : (h limit : ℕ) (context : List ℕ) (book : Book) (decided : List Entry) (nodes : List Node) (contexts : List (List (List ℕ))) (d : Desk) → h < length contexts
    → Fits limit book decided nodes contexts d → Fits limit (more_asked h (foreign context) book) decided nodes (more_contexts h context contexts) d
foreign_fits h limit context book decided nodes contexts d few f =
    booked_fits h limit (foreign context) context book decided nodes contexts d d.asked few refl f f.asked (λ p is. absurd cc) (still_used h context contexts d.asked f.used)

-- ---- a host's node becomes another

-- where a host's node becomes another one that fits, the desk fits with the open requests of that one
pub set_fits : (h limit : ℕ) (n : Node) (book : Book) (decided : List Entry) (nodes : List Node) (contexts : List (List (List ℕ))) (d : Desk) → h < length nodes
    → NodeFits h limit (asked_at book h) decided n → Fits limit book decided nodes contexts d
    → Fits limit book decided (slice_set nodes h n) contexts (record d { open_ones = opens_before book h nodes ++ (requests_in book n.requests.wants ++ opens_beyond book h nodes) })
set_fits h limit n book decided nodes contexts d room k f = record {
  decided = f.decided;
  named = f.named;
  contexts = f.contexts;
  asked = f.asked;
  used = f.used;
  open_ones = sym (opens_set book h nodes n room);
  nodes = λ u l. by_host u (rw (← length_same) l) (cases_eq u h);
} where
  length_same : length (slice_set nodes h n) ≡ length nodes
  length_same = length-set nodes h n

  by_host : (u : ℕ) → u < length nodes → (u ≡ h) ⊎ (u ≡ h → ⊥) → NodeFits u limit (asked_at book u) decided (at_host (slice_set nodes h n) u)
  by_host u l (inl e) = rw (e, get_or-set_same nodes h n (new_node MOST_SESSIONS) room) k
  by_host u l (inr m) = rw (get_or-set_other nodes h u n (new_node MOST_SESSIONS) m) (f.nodes u l)
