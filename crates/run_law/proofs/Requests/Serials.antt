-- What was asked at a host under a serial, and the entries, open requests and waiting reads that name it.
use Rattle.std.proofs.Common.{◌≡◌, ℕ, ◌+◌, ◌-◌, ◌<◌, ◌≤◌, ◌==◌, List, [], ◌∷◌, ◌++◌, false, length, get_or, map, refl, sym, ap, ◌∙◌, length-append, arith, ◌⊎◌, inl, inr, ne_eqb}
use Rattle.std.specs.Prelude.{codes, slice_set}
use Rattle.std.proofs.lemmas.Option.{unwrap_or-slice_get}
use Rattle.std.proofs.lemmas.List.{get_or-map, get_or_append_left, get_or_push}
use Rattle.host_ids.specs.declared.entry.Key.{Key}
use Rattle.host_ids.specs.declared.proposal.Proposal.{Proposal}
use Rattle.host_ids.specs.declared.proposal.Proposal.TheVariants as proposals
use Rattle.object_model.specs.declared.mark.What.{What}
use Rattle.object_model.specs.declared.mark.What.TheVariants as whats
use Rattle.object_model.specs.Desk.{Request}
use Rattle.run_model.specs.declared.told.Want.{Want}
use Rattle.run_model.specs.declared.told.Want.TheVariants as wants
use Rattle.run_model.specs.declared.told.Waiting.{Waiting}
use Rattle.run_model.specs.World.{contexts_at}
use Rattle.run_model.specs.Run.{context_at, context_by}

-- what stands for a request where none was asked: an empty query under an empty context
abbrev pub none : Request
none = record { context = []; what = whats.Queries []; since = 0 }

-- the request with a key's serial
abbrev pub request_at : List Request → Key → Request
request_at asked key = get_or asked (key.serial - 1) none

-- the contexts of requests, in their order
abbrev pub contexts_of : List Request → List (List ℕ)
contexts_of asked = map (λ r. r.context) asked

-- a key of a request that was asked at this host, in its one start
pub record Within (h : ℕ) (asked : List Request) (key : Key) : Type 0 where
  pub host : key.host ≡ h
  pub start : key.start ≡ 1
  pub positive : 0 < key.serial
  pub most : key.serial ≤ length asked

-- an entry is a blank without a key, or was asked under its key
abbrev pub IsSort : ℕ → List Request → Key → Proposal → Type 0
IsSort h asked key p = ((key.serial ≡ 0) × (p ≡ proposals.Blank)) ⊎ (Within h asked key × ((request_at asked key).what ≡ whats.Proposes p))

-- an open request waits for what was asked under its key
abbrev pub IsWanted : What → Want → Type 0
IsWanted what wants.Proposal = (p : Proposal) × (what ≡ whats.Proposes p)
IsWanted what (wants.Read query front) = what ≡ whats.Queries query

-- an open request: its key is that of a request of this host, and it waits for what was asked under the key
pub record Wanted (h : ℕ) (asked : List Request) (e : Key × Want) : Type 0 where
  pub within : Within h asked e.0
  pub want : IsWanted (request_at asked e.0).what e.1

-- a read that was asked no later than at a front
pub record Reading (h : ℕ) (asked : List Request) (front : ℕ) (key : Key) : Type 0 where
  pub within : Within h asked key
  pub query : List ℕ
  pub what : (request_at asked key).what ≡ whats.Queries query
  pub late : (request_at asked key).since ≤ front

-- a waiting read was asked under its key, no later than at the front that it waits for
abbrev pub Waits : ℕ → List Request → Waiting → Type 0
Waits h asked r = Reading h asked r.front r.key

-- ---- one request more

-- with more asked, the key of a request names the same request
pub request_same : (h : ℕ) (asked more : List Request) (key : Key) → Within h asked key → request_at (asked ++ more) key ≡ request_at asked key
request_same h asked more key w = get_or_append_left asked more none (key.serial - 1) (omega (arith, w.positive, w.most))

-- the key with the next serial names the request that is asked next
pub request_last : (asked : List Request) (r : Request) (key : Key) → key.serial ≡ length asked + 1 → request_at (asked ++ r ∷ []) key ≡ r
request_last asked r key e = get_or_push asked r none (key.serial - 1) (omega (arith, e))

-- with more asked, the key of a request of this host is still one
pub within_more : (h : ℕ) (asked more : List Request) (key : Key) → Within h asked key → Within h (asked ++ more) key
within_more h asked more key w = record { host = w.host; start = w.start; positive = w.positive; most = rw length-append (omega (arith, w.most)) }

-- with more asked, what is a blank without a key, or was asked under its key, is so still
pub sort_more : (h : ℕ) (asked more : List Request) (key : Key) (p : Proposal) → IsSort h asked key p → IsSort h (asked ++ more) key p
sort_more h asked more key p (inl blank) = inl blank
sort_more h asked more key p (inr s) = inr (within_more h asked more key s.0, rw (request_same h asked more key s.0) s.1)

-- with more asked, an open request still waits for what was asked under its key
pub wanted_more : (h : ℕ) (asked more : List Request) (e : Key × Want) → Wanted h asked e → Wanted h (asked ++ more) e
wanted_more h asked more e n = record { within = within_more h asked more e.0 n.within; want = rw (request_same h asked more e.0 n.within) n.want }

-- with more asked, a read was still asked no later than at a front
pub reading_more : (h : ℕ) (asked more : List Request) (front : ℕ) (key : Key) → Reading h asked front key → Reading h (asked ++ more) front key
reading_more h asked more front key n = record {
  within = within_more h asked more key n.within;
  query = n.query;
  what = rw (request_same h asked more key n.within) n.what;
  late = rw (request_same h asked more key n.within) n.late;
}

-- a read that was asked no later than at a front was asked no later than at a greater one
pub reading_later : (h : ℕ) (asked : List Request) (front later : ℕ) (key : Key) → Reading h asked front key → front ≤ later → Reading h asked later key
reading_later h asked front later key n l = record { within = n.within; query = n.query; what = n.what; late = omega (arith, n.late, l) }

-- ---- contexts

-- the context that a line shows is that of the key's request
pub context_is : (h : ℕ) (contexts : List (List (List ℕ))) (asked : List Request) (key : Key) → contexts_of asked ≡ contexts_at contexts h → Within h asked key
    → context_at contexts key ≡ (request_at asked key).context
context_is h contexts asked key e w =
    let n : (key.serial == 0) ≡ false = ne_eqb key.serial 0 (λ q. omega (arith, q, w.positive)) in
    let l : key.serial - 1 < length asked = omega (arith, w.positive, w.most) in
    let at_host : context_at contexts key ≡ context_by (contexts_at contexts h) key.serial = ap (λ (k : ℕ). context_by (contexts_at contexts k) key.serial) w.host in
    at_host ∙ rw (n, unwrap_or-slice_get, ← e, get_or-map (λ (r : Request). r.context) asked (key.serial - 1) none (codes "?") l) refl

-- a host's contexts with one more
abbrev pub more_contexts : ℕ → List ℕ → List (List (List ℕ)) → List (List (List ℕ))
more_contexts h context contexts = slice_set contexts h (contexts_at contexts h ++ context ∷ [])

-- a request by its parts
request_eta : (r : Request) (context : List ℕ) (what : What) → r.context ≡ context → r.what ≡ what → r ≡ record { context = context; what = what; since = r.since }
request_eta r context what e f = rw (← e, ← f) refl

-- a key's request has the context that a line shows of the key, and asks for what was asked under it
pub request_is : (h : ℕ) (contexts : List (List (List ℕ))) (asked : List Request) (key : Key) (what : What) → contexts_of asked ≡ contexts_at contexts h → Within h asked key
    → (request_at asked key).what ≡ what
    → request_at asked key ≡ record { context = context_at contexts key; what = what; since = (request_at asked key).since }
request_is h contexts asked key what e w q = request_eta (request_at asked key) (context_at contexts key) what (sym (context_is h contexts asked key e w)) q
