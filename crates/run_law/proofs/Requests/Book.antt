-- What was asked at each host, the entries that name a request of any host, and the open requests of all hosts.
use Rattle.std.proofs.Common.{◌≡◌, ◌≢◌, ℕ, zero, suc, ◌+◌, ◌-◌, ◌<◌, ◌≤◌, List, [], ◌∷◌, ◌++◌, Bool, true, false, length, get_or, take, drop, map, refl, sym, ap, ◌∙◌, subst, append_assoc, append-nil}
use Rattle.std.proofs.Common.{take-append-drop, arith, ◌⊎◌, inl, inr}
use Rattle.std.specs.Prelude.{bytes_eq, slice_set, ◌||◌}
use Rattle.std.specs.List.{AllByRecursion, list_any, flat_map}
use Rattle.std.proofs.lemmas.Bool.{cases_eq, or_left, or_right}
use Rattle.std.proofs.lemmas.List.{take-set, drop-set, map-set, set-get_or, get_or-set_same, get_or-set_other, map-append}
use Rattle.std.proofs.lemmas.List.Folds.{list_any-append}
use Rattle.std.proofs.lemmas.Grind.{flat_map-append}
use Rattle.std.proofs.lemmas.Slice.Eq.{bytes_eq-Decides}
use Rattle.std.proofs.Math.ListN.{get_or-map as at_map}
use Rattle.host_ids.specs.declared.entry.Key.{Key}
use Rattle.host_ids.specs.declared.entry.Entry.{Entry}
use Rattle.host_ids.specs.declared.proposal.Proposal.{Proposal}
use Rattle.object_model.specs.declared.mark.What.TheVariants as whats
use Rattle.object_model.specs.Desk.{Request, MayStand}
use Rattle.run_model.specs.declared.told.Want.{Want}
use Rattle.run_model.specs.World.{Node, contexts_at}
use Rattle.run_model.specs.Run.{context_at}
use Rattle.run_law.specs.Lawful.{placed}
use Rattle.run_law.proofs.Requests.Serials.{none, request_at, contexts_of, Within, IsSort, Wanted, more_contexts, request_same, within_more, sort_more, context_is, request_is}

-- the requests that were asked at each host in order of their serials, a table by host
abbrev pub Book : Type 0
Book = List (List Request)

-- the requests of a host, in order of their serials
abbrev pub asked_at : Book → ℕ → List Request
asked_at book h = get_or book h []

-- the request that a key names, at the key's host
abbrev pub request_in : Book → Key → Request
request_in book key = request_at (asked_at book key.host) key

-- an entry is a blank without a key, or was asked under its key at the key's host
abbrev pub IsNamed : Book → Key → Proposal → Type 0
IsNamed book key p = IsSort key.host (asked_at book key.host) key p

-- the book names an entry: it is a blank without a key, or was asked under its key
pub record Named (book : Book) (e : Entry) : Type 0 where
  pub sort : IsNamed book e.key e.proposal

-- a read with this key was asked, when the decided list had at most this length
pub record IsAsked (book : Book) (key : Key) (least : ℕ) : Type 0 where
  pub within : Within key.host (asked_at book key.host) key
  pub late : (request_in book key).since ≤ least

-- so it is with each key of this table, and with the number that it has there
abbrev pub AreAsked : Book → List (Key × ℕ) → Type 0
AreAsked book asks = AllByRecursion (λ e. IsAsked book e.0 e.1) asks

-- the requests that the keys of a table name, in the order of the table
abbrev pub requests_in : Book → List (Key × Want) → List Request
requests_in book ws = map (λ e. request_in book e.0) ws

-- the open requests of all hosts
abbrev pub opens_in : Book → List Node → List Request
opens_in book ns = flat_map (λ n. requests_in book n.requests.wants) ns

-- one of a list
pub record IsIn (rs : List Request) (r : Request) : Type 0 where
  pub front : List Request
  pub back : List Request
  pub whole : rs ≡ front ++ r ∷ back

-- some host's request has this context
abbrev pub IsUsed : List (List (List ℕ)) → List ℕ → Type 0
IsUsed contexts context = list_any (λ cs. list_any (bytes_eq context) cs) contexts ≡ true

-- one request more at a host
abbrev pub more_asked : ℕ → Request → Book → Book
more_asked h r book = slice_set book h (asked_at book h ++ r ∷ [])

-- ---- lists

-- what holds of all of a list holds at each place of it
pub all_there : {A : Type 0} (P : A → Type 0) (xs : List A) (i : ℕ) (d : A) → i < length xs → AllByRecursion P xs → P (get_or xs i d)
all_there P [] i d l p = absurd (omega (arith, l))
all_there P (x ∷ xs) zero d l p = p.0
all_there P (x ∷ xs) (suc i) d l p = all_there P xs i d (omega (arith, l)) p.1

-- also after its end
pub all_or : {A : Type 0} (P : A → Type 0) (xs : List A) (i : ℕ) (d : A) → P d → AllByRecursion P xs → P (get_or xs i d)
all_or P [] i d q p = q
all_or P (x ∷ xs) zero d q p = p.0
all_or P (x ∷ xs) (suc i) d q p = all_or P xs i d q p.1

-- what holds at each place of a list holds of all of it
pub all_from : {A : Type 0} (P : A → Type 0) (xs : List A) (d : A) → ((i : ℕ) → i < length xs → P (get_or xs i d)) → AllByRecursion P xs
all_from P [] d f = tt
all_from P (x ∷ xs) d f = (f 0 (omega arith), all_from P xs d (λ i l. f (suc i) (omega (arith, l))))

-- what holds of all of a list and of one element holds of all with the element written at a place
pub all_set : {A : Type 0} (P : A → Type 0) (xs : List A) (i : ℕ) (x : A) → P x → AllByRecursion P xs → AllByRecursion P (slice_set xs i x)
all_set P [] i x q p = tt
all_set P (y ∷ ys) zero x q p = (q, p.1)
all_set P (y ∷ ys) (suc i) x q p = (p.0, all_set P ys i x q p.1)

-- ---- one request more

-- what was asked at a host is as before, or one more
pub longer : (h : ℕ) (r : Request) (book : Book) (u : ℕ) → h < length book → (more : List Request) × (asked_at (more_asked h r book) u ≡ asked_at book u ++ more)
longer h r book u room = by_host (cases_eq u h) where
  by_host : (u ≡ h) ⊎ (u ≡ h → ⊥) → (more : List Request) × (asked_at (more_asked h r book) u ≡ asked_at book u ++ more)
  by_host (inl e) = (r ∷ [], rw e (get_or-set_same book h (asked_at book h ++ r ∷ []) [] room))
  by_host (inr n) = ([], get_or-set_other book h u (asked_at book h ++ r ∷ []) [] n ∙ sym (append-nil (asked_at book u)))

-- with one request more at a host, what is a blank without a key, or was asked under its key, is so still
pub named_more : (h : ℕ) (r : Request) (book : Book) (key : Key) (p : Proposal) → h < length book → IsNamed book key p → IsNamed (more_asked h r book) key p
named_more h r book key p room n =
    let l = longer h r book key.host room in
    rw l.1 (sort_more key.host (asked_at book key.host) l.0 key p n)

-- a key's request stays
pub request_kept : (h : ℕ) (r : Request) (book : Book) (key : Key) → h < length book → Within key.host (asked_at book key.host) key → request_in (more_asked h r book) key ≡ request_in book key
request_kept h r book key room w =
    let l = longer h r book key.host room in
    rw l.1 (request_same key.host (asked_at book key.host) l.0 key w)

-- with one request more at a host, the reads that were asked are as before
pub asked_more : (h : ℕ) (r : Request) (book : Book) (asks : List (Key × ℕ)) → h < length book → AreAsked book asks → AreAsked (more_asked h r book) asks
asked_more h r book [] room p = tt
asked_more h r book (e ∷ asks) room p =
    let l = longer h r book e.0.host room in (
      record {
        within = rw l.1 (within_more e.0.host (asked_at book e.0.host) l.0 e.0 p.0.within);
        late = rw (request_kept h r book e.0 room p.0.within) p.0.late;
      },
      asked_more h r book asks room p.1,
    )

-- with one request more at a host, the open requests of any host are as before
pub requests_kept : (h : ℕ) (r : Request) (book : Book) (u : ℕ) (ws : List (Key × Want)) → h < length book → AllByRecursion (Wanted u (asked_at book u)) ws
    → requests_in (more_asked h r book) ws ≡ requests_in book ws
requests_kept h r book u [] room p = refl
requests_kept h r book u (e ∷ ws) room p =
    let w : Within e.0.host (asked_at book e.0.host) e.0 = subst (λ (k : ℕ). Within k (asked_at book k) e.0) (sym p.0.within.host) p.0.within in
    rw (request_kept h r book e.0 room w, requests_kept h r book u ws room p.1) refl

-- a host's open requests are its own
pub record IsOwned (book : Book) (n : Node) : Type 0 where
  pub host : ℕ
  pub wants : AllByRecursion (Wanted host (asked_at book host)) n.requests.wants

-- with one request more at a host, the open requests of all hosts are as before
pub opens_kept : (h : ℕ) (r : Request) (book : Book) (ns : List Node) → h < length book → AllByRecursion (IsOwned book) ns → opens_in (more_asked h r book) ns ≡ opens_in book ns
opens_kept h r book [] room p = refl
opens_kept h r book (n ∷ ns) room p = rw (requests_kept h r book p.0.host n.requests.wants room p.0.wants, opens_kept h r book ns room p.1) refl

-- ---- the open requests around those of a host

-- the open requests of the hosts before one
abbrev pub opens_before : Book → ℕ → List Node → List Request
opens_before book h ns = opens_in book (take h ns)

-- the open requests of the hosts after one
abbrev pub opens_beyond : Book → ℕ → List Node → List Request
opens_beyond book h ns = opens_in book (drop (h + 1) ns)

-- a table with a host's node written is the nodes before it, the node, and the nodes after it
set_split : (ns : List Node) (h : ℕ) (n : Node) → h < length ns → slice_set ns h n ≡ take h ns ++ n ∷ drop (h + 1) ns
set_split ns h n l = sym (take-append-drop h (slice_set ns h n)) ∙ rw (take-set ns h n, drop-set ns h n l) refl

-- with a host's node written, all open requests are those of the hosts before, the node's, and those of the hosts after
pub opens_set : (book : Book) (h : ℕ) (ns : List Node) (n : Node) → h < length ns
    → opens_in book (slice_set ns h n) ≡ opens_before book h ns ++ (requests_in book n.requests.wants ++ opens_beyond book h ns)
opens_set book h ns n l = rw (set_split ns h n l, flat_map-append) refl

-- all open requests are those of the hosts before one, its own, and those of the hosts after it
pub opens_around : (book : Book) (h : ℕ) (ns : List Node) (d : Node) → h < length ns
    → opens_in book ns ≡ opens_before book h ns ++ (requests_in book (get_or ns h d).requests.wants ++ opens_beyond book h ns)
opens_around book h ns d l = ap (λ (l : List Node). opens_in book l) (sym (set-get_or ns h d)) ∙ opens_set book h ns (get_or ns h d) l

-- ---- contexts

-- the contexts of a book
pub contexts_there : (book : Book) (contexts : List (List (List ℕ))) (u : ℕ) → map contexts_of book ≡ contexts → contexts_of (asked_at book u) ≡ contexts_at contexts u
contexts_there book contexts u e = sym (at_map contexts_of book u []) ∙ ap (λ (l : List (List (List ℕ))). contexts_at l u) e

-- the contexts of a book with one request more are the contexts with that of the request
pub contexts_more : (h : ℕ) (r : Request) (context : List ℕ) (book : Book) (contexts : List (List (List ℕ))) → r.context ≡ context → map contexts_of book ≡ contexts
    → map contexts_of (more_asked h r book) ≡ more_contexts h context contexts
contexts_more h r context book contexts e c =
    let more : contexts_of (asked_at book h ++ r ∷ []) ≡ contexts_at contexts h ++ context ∷ [] = rw (map-append, contexts_there book contexts h c, e) refl in
    map-set contexts_of book h (asked_at book h ++ r ∷ []) ∙ rw (more, c) refl

-- the context that a line shows is that of the key's request
pub context_in : (book : Book) (contexts : List (List (List ℕ))) (key : Key) → map contexts_of book ≡ contexts → Within key.host (asked_at book key.host) key
    → context_at contexts key ≡ (request_in book key).context
context_in book contexts key e w = context_is key.host contexts (asked_at book key.host) key (contexts_there book contexts key.host e) w

-- with one request more, the context that a line shows of an entry is as before
context_kept : (h : ℕ) (r : Request) (context : List ℕ) (book : Book) (contexts : List (List (List ℕ))) (key : Key) (p : Proposal) → h < length book → r.context ≡ context
    → map contexts_of book ≡ contexts → IsNamed book key p
    → context_at (more_contexts h context contexts) key ≡ context_at contexts key
context_kept h r context book contexts key p room e c (inl blank) = rw (blank.0) refl
context_kept h r context book contexts key p room e c (inr s) =
    let l = longer h r book key.host room in
    let later : Within key.host (asked_at (more_asked h r book) key.host) key = rw l.1 (within_more key.host (asked_at book key.host) l.0 key s.0) in
    context_in (more_asked h r book) (more_contexts h context contexts) key (contexts_more h r context book contexts e c) later
    ∙ ap (λ (r : Request). r.context) (request_kept h r book key room s.0)
    ∙ sym (context_in book contexts key c s.0)

-- with one request more, entries stand in the decided list under their contexts as before
pub placed_kept : (h : ℕ) (r : Request) (context : List ℕ) (book : Book) (contexts : List (List (List ℕ))) (es : List Entry) → h < length book → r.context ≡ context → map contexts_of book ≡ contexts
    → AllByRecursion (Named book) es
    → map (placed (more_contexts h context contexts)) es ≡ map (placed contexts) es
placed_kept h r context book contexts [] room e c p = refl
placed_kept h r context book contexts (x ∷ es) room e c p = rw (context_kept h r context book contexts x.key x.proposal room e c p.0.sort, placed_kept h r context book contexts es room e c p.1) refl

-- ---- what may stand in the decided list

-- what is one of a list is one of the list with one more
pub in_more : (rs : List Request) (r s : Request) → IsIn rs r → IsIn (rs ++ s ∷ []) r
in_more rs r s i = record { front = i.front; back = i.back ++ s ∷ []; whole = rw i.whole (append_assoc i.front (r ∷ i.back) (s ∷ [])) }

-- the last of a list is one of it
pub in_last : (rs : List Request) (r : Request) → IsIn (rs ++ r ∷ []) r
in_last rs r = record { front = rs; back = []; whole = refl }

-- it is one of these, if it asks for a proposal
abbrev pub IsAmong : List Request → Request → Type 0
IsAmong rs r = (p : Proposal) → r.what ≡ whats.Proposes p → IsIn rs r

-- each of a book that asks for a proposal stands among these. A read of another group is in the book alone
abbrev pub AreIn : List Request → Book → Type 0
AreIn rs book = AllByRecursion (λ l. AllByRecursion (IsAmong rs) l) book

-- what a book names may stand in the decided list, under the context that a line shows
may_by : (book : Book) (contexts : List (List (List ℕ))) (asked : List Request) (key : Key) (p : Proposal) → map contexts_of book ≡ contexts → AreIn asked book → IsNamed book key p
    → MayStand asked (record { context = context_at contexts key; proposal = p })
may_by book contexts asked key p c all (inl blank) = inl blank.1
may_by book contexts asked key p c all (inr s) =
    let mine = asked_at book key.host in
    let r = request_in book key in
    let mine_in : AllByRecursion (IsAmong asked) mine = all_or (λ l. AllByRecursion (IsAmong asked) l) book key.host [] tt all in
    let i : IsIn asked r = all_there (IsAmong asked) mine (key.serial - 1) none (omega (arith, s.0.positive, s.0.most)) mine_in p s.1 in
    let is = request_is key.host contexts mine key (whats.Proposes p) (contexts_there book contexts key.host c) s.0 s.1 in
    inr (r.since, i.front, i.back, i.whole ∙ ap (λ (x : Request). i.front ++ x ∷ i.back) is)

-- entries that a book names may all stand in the decided list
pub all_may : (book : Book) (contexts : List (List (List ℕ))) (asked : List Request) (es : List Entry) → map contexts_of book ≡ contexts → AreIn asked book → AllByRecursion (Named book) es
    → AllByRecursion (MayStand asked) (map (placed contexts) es)
all_may book contexts asked [] c all p = tt
all_may book contexts asked (x ∷ es) c all p = (may_by book contexts asked x.key x.proposal c all p.0.sort, all_may book contexts asked es c all p.1)

-- ---- used contexts

-- where one of two tests passes, one passes with a third put between them
or_more : (a b r : Bool) → (a || r) ≡ true → ((a || b) || r) ≡ true
or_more true b r e = refl
or_more false true r e = refl
or_more false false r e = e

-- where one of two tests passes, one passes with the second replaced by what follows from it
or_tail : (a r s : Bool) → (r ≡ true → s ≡ true) → (a || r) ≡ true → (a || s) ≡ true
or_tail true r s f e = refl
or_tail false r s f e = f e

-- what is used stays so
pub used_more : (contexts : List (List (List ℕ))) (h : ℕ) (context c : List ℕ) → IsUsed contexts c → IsUsed (more_contexts h context contexts) c
used_more [] h context c e = e
used_more (cs ∷ css) zero context c e = rw (list_any-append (bytes_eq c) cs (context ∷ [])) (or_more (list_any (bytes_eq c) cs) _ _ e)
used_more (cs ∷ css) (suc h) context c e = or_tail (list_any (bytes_eq c) cs) _ _ (used_more css h context c) e

-- a context that was given is used
pub used_new : (contexts : List (List (List ℕ))) (h : ℕ) (context : List ℕ) → h < length contexts → IsUsed (more_contexts h context contexts) context
used_new [] h context l = absurd (omega (arith, l))
used_new (cs ∷ css) zero context l =
    let same : bytes_eq context context ≡ true = (bytes_eq-Decides context context).1 refl in
    rw (list_any-append (bytes_eq context) cs (context ∷ [])) (or_left _ _ (or_right (list_any (bytes_eq context) cs) _ (or_left _ false same)))
used_new (cs ∷ css) (suc h) context l = or_right (list_any (bytes_eq context) cs) _ (used_new css h context (omega (arith, l)))

-- one that isn't used is no request's
pub unused_new : (contexts : List (List (List ℕ))) (context : List ℕ) (asked : List Request) → list_any (λ cs. list_any (bytes_eq context) cs) contexts ≡ false
    → AllByRecursion (λ r. IsUsed contexts r.context) asked → AllByRecursion (λ r. r.context ≢ context) asked
unused_new contexts context [] e p = tt
unused_new contexts context (r ∷ rs) e p = (differs r p.0, unused_new contexts context rs e p.1) where
  differs : (r : Request) → IsUsed contexts r.context → r.context ≢ context
  differs r u q = let t : list_any (λ cs. list_any (bytes_eq context) cs) contexts ≡ true = subst (λ (c : List ℕ). IsUsed contexts c) q u in absurd cc
