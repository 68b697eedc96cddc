-- Each word of the rows keeps a replica in range, and what it holds fit to be given to another one.
use Rattle.std.proofs.Common.{◌≡◌, ◌≤◌, ◌<◌, ◌+◌, ◌-◌, ◌^◌, ℕ, zero, suc, List, [], ◌∷◌, ◌++◌, Bool, true, false, refl, ap, arith, length, drop}
use Rattle.std.proofs.lemmas.Bool.{cond_both, and_parts, or_parts, ltb-true, ltb-false, leb-true, eqb-true}
use Rattle.std.proofs.lemmas.List.{length-append, length-drop, length-take}
use Rattle.std.proofs.lemmas.List.Elements.{All-nil, All-push, All-set, All-replicate}
use Rattle.std.specs.Prelude.{◌==◌, ◌&&◌, not, nat_lt, nat_le, min, max, ⊤, Option, Some, None, IfSome, slice_set}
use Rattle.std.specs.List.{All}
use Rattle.host_ids.specs.declared.entry.Entry.{Entry}
use Rattle.host_ids.specs.declared.entry.Key.{Key}
use Rattle.host_ids.specs.declared.proposal.Proposal.{Proposal}
use Rattle.wire_types.specs.declared.envelope.Body.{Body}
use Rattle.wire_types.specs.declared.envelope.Body.TheVariants as bodies
use Rattle.raft_model.specs.declared.chunk.Chunk.{Chunk}
use Rattle.raft_model.specs.declared.role.Role.{Role}
use Rattle.raft_model.specs.declared.role.Role.TheVariants.{Follower, Candidate, Leader}
use Rattle.raft_model.specs.declared.state.Inbox.{Inbox}
use Rattle.roster.specs.Roster.{Seat, at, all_at}
use Rattle.log_view.specs.Log.{Log, last, term_at, slice, laid, cut_front, reset}
use Rattle.raft_model.specs.Appending.{lacks}
use Rattle.raft_model.specs.Snapping.{Took, belongs, is_next, is_first, counted_in, taken, stays}
use Rattle.raft_model.specs.Fit.{is_fit, are_fit}
use Rattle.raft_entries.specs.Mail.{Following, Carries}
use Rattle.raft_entries.specs.Parts.{Parts}
use Rattle.raft_entries.proofs.Rows.Words.{IsBounded, IsPiece, Words, lowered_by, laid_by, next_entry, pushed}
use Rattle.raft_entries.proofs.Rows.Laying.{Lies, laid_lies}
use Rattle.raft_core.specs.Range.{Numbers, Places, Known, IsReceived, BodyWithin, IsMail, IsSeat}
use Rattle.raft_core.proofs.Fits.{Fit, fit_push, fit_drop, fit_take, fit_laid}

-- entries that are sent end at an index of at most 2^62, and their proposals are fit
abbrev pub Short : Following
Short t prev es = (prev + length es ≤ 2 ^ 62) × (are_fit es ≡ true)

-- a role is that of a candidate
abbrev pub stood : Role → Bool
stood role = elim role as (λ _. Bool) [ Follower ↦ false | Candidate ↦ true | Leader ↦ false ]

-- a replica's parts are in range
abbrev pub AreInRange : Parts → Type 0
AreInRange x = Numbers x.term x.round x.batches × Places (stood x.role) x.log x.commit x.stable x.from × Known x.matched x.pending x.assembly x.inbox × (are_fit x.log.entries ≡ true)

-- and what they hold may be given to another replica
abbrev pub AreRanged : Parts → Type 0
AreRanged x = AreInRange x × (All IsMail x.held × IfSome x.pending (λ p. All IsMail p.envelopes))

-- ---- envelopes

joined : (t : ℕ) (body : Body) → Carries Fit Short t body → IsBounded body → BodyWithin body
joined t (bodies.Vote l lt) c b = tt
joined t (bodies.VoteReply granted) c b = tt
joined t (bodies.Append prev pt commit es) c b = c
joined t (bodies.AppendReply ok i) c b = b
joined t (bodies.Beat commit round) c b = tt
joined t (bodies.BeatReply round) c b = tt
joined t (bodies.SnapChunk index last_term number count size bytes) c b = b
joined t (bodies.SnapReply i want whole) c b = b
joined t (bodies.Propose key p) c b = c
joined t (bodies.ReadAsk key) c b = tt
joined t (bodies.ReadAnswer key i) c b = tt

parted : (t : ℕ) (body : Body) → BodyWithin body → Carries Fit Short t body × IsBounded body
parted t (bodies.Vote l lt) w = (tt, tt)
parted t (bodies.VoteReply granted) w = (tt, tt)
parted t (bodies.Append prev pt commit es) w = (w, tt)
parted t (bodies.AppendReply ok i) w = (tt, w)
parted t (bodies.Beat commit round) w = (tt, tt)
parted t (bodies.BeatReply round) w = (tt, tt)
parted t (bodies.SnapChunk index last_term number count size bytes) w = (tt, w)
parted t (bodies.SnapReply i want whole) w = (tt, w)
parted t (bodies.Propose key p) w = (w, tt)
parted t (bodies.ReadAsk key) w = (tt, tt)
parted t (bodies.ReadAnswer key i) w = (tt, tt)

-- ---- places

-- places, but for what a candidate has
record Spots (log : Log) (commit stable from : ℕ) : Type 0 where
  last_short : last log ≤ 2 ^ 62
  front_committed : log.front ≤ commit
  committed : commit ≤ last log
  front_saved : log.front ≤ stable
  saved : stable < from
  changed : from ≤ last log + 1

-- with that they are places
placed : {candidate : Bool} {log : Log} {commit stable from : ℕ} → Spots log commit stable from → (candidate ≡ true → last log < 2 ^ 62) → Places candidate log commit stable from
placed p may_lead = record {
  last_short = p.last_short;
  may_lead = may_lead;
  front_committed = p.front_committed;
  committed = p.committed;
  front_saved = p.front_saved;
  saved = p.saved;
  changed = p.changed;
}

-- who has another role is no candidate
no_candidate : {role other : Role} {A : Type 0} → role ≡ other → stood other ≡ false → stood role ≡ true → A
no_candidate e f c = let g = ap stood e in absurd (cc (c, f, g))

-- the log becomes another one, with places that fit it
logs : (x : Parts) {l : Log} {commit stable from : ℕ} → AreRanged x → are_fit l.entries ≡ true → Spots l commit stable from → (stood x.role ≡ true → last l < 2 ^ 62)
    → AreRanged (record x { log = l; commit = commit; stable = stable; from = from })
logs x k fit spots may_lead = ((k.0.0, placed spots may_lead, k.0.2, fit), k.1)

-- a replica takes over a term, and a role that may be had
turns : (x : Parts) (t : ℕ) (role : Role) → t ≤ 2 ^ 62 → (stood role ≡ true → last x.log < 2 ^ 62) → AreInRange x → AreInRange (record x { term = t; role = role })
turns x t role short may_lead k = (omega (arith, short, k.0), placed (omega (arith, k.1)) may_lead, k.2, k.3)

pub enters : (x : Parts) (t : ℕ) → t ≤ 2 ^ 62 → AreInRange x → AreInRange (record x { term = t; role = Follower })
enters x t short k = turns x t Follower short (λ c. absurd (cc c)) k

-- what a leader knows of its voters becomes this
pub matched_by : (x : Parts) (matched : List ℕ) → All (λ i. i ≤ 2 ^ 62) matched → AreRanged x → AreRanged (record x { matched = matched })
matched_by x matched short k =
    ((k.0.0, k.0.1, record { matched_short = short; in_place = k.0.2.in_place; hand_short = k.0.2.hand_short; received = k.0.2.received }, k.0.3), k.1)

-- what is known of a voter
at_short : (matched : List ℕ) (v : ℕ) → All (λ i. i ≤ 2 ^ 62) matched → at matched v ≤ 2 ^ 62
at_short [] v a = omega arith
at_short (x ∷ xs) zero a = a 0 0 (omega arith)
at_short (x ∷ xs) (suc v) a = at_short xs v (λ k d b. a (suc k) d (omega (arith, b)))

-- what is saved is short
stable_short : (x : Parts) → AreRanged x → x.stable ≤ 2 ^ 62
stable_short x k = omega (arith, k.0.1)

-- ---- the log

pushes : (x : Parts) (key : Key) (p : Proposal) → x.role ≡ Leader → last x.log < 2 ^ 62 → is_fit p ≡ true → AreRanged x → AreRanged (pushed key p x)
pushes x key p led room own k =
    let e = next_entry key p x in
    logs x k (fit_push x.log.entries e k.0.3 own) (omega (arith, length-append x.log.entries (e ∷ []), room, k.0.1)) (no_candidate led refl)

laid_spots : (x : Parts) (l : Log) (change : Option ℕ) (c end : ℕ) → end ≤ 2 ^ 62 → AreRanged x → Lies x.log x.commit end (record { log = l; changed_from = change })
    → (let y = lowered_by change (record x { log = l }) in Spots l (max y.commit (min c (max x.log.front end))) y.stable y.from)
laid_spots x l None c end short k lies = let same : last l ≡ last x.log = ap last lies.from in omega (arith, same, short, lies.front, lies.committed, lies.ends, lies.short, k.0.1)
laid_spots x l (Some i) c end short k lies = omega (arith, short, lies, k.0.1)

lays : (x : Parts) (t prev pt c : ℕ) (es : List Entry) → x.role ≡ Follower → lacks x.log prev pt ≡ false → Short t prev es → AreRanged x → AreRanged (laid_by c prev es x)
lays x t prev pt c es follows e carried k =
    let up = ltb-false (last x.log) prev (or_parts (nat_lt (last x.log) prev) (nat_le x.log.front prev && not (term_at x.log prev == pt)) e).0 in
    let w = laid x.log x.commit prev es in
    let lies = laid_lies x.log x.commit prev es k.0.1.front_committed k.0.1.committed up in
    logs x k (fit_laid x.log x.commit prev es k.0.3 carried.1) (laid_spots x w.log w.changed_from c (prev + length es) carried.0 k lies) (no_candidate follows refl)

cuts : (x : Parts) (i : ℕ) → x.log.front < i → i ≤ min x.commit x.stable → AreRanged x → AreRanged (record x { log = cut_front x.log i })
cuts x i above ripe k =
    let n = i - x.log.front in
    let d = length-drop n x.log.entries in
    logs x k (fit_drop n x.log.entries k.0.3) (omega (arith, d, above, ripe, k.0.1)) (λ c. let m = k.0.1.may_lead c in omega (arith, d, m, above, ripe, k.0.1.committed))

bases : (x : Parts) (i t : ℕ) → x.role ≡ Follower → x.commit < i → stays x.log i t ≡ true → AreRanged x
    → AreRanged (record x { log = cut_front x.log i; commit = i; stable = max x.stable i; from = max x.from (i + 1) })
bases x i t follows above e k =
    let n = i - x.log.front in
    let within = leb-true i (last x.log) (and_parts (nat_le i (last x.log)) (term_at x.log i == t) e).0 in
    logs x k (fit_drop n x.log.entries k.0.3) (omega (arith, length-drop n x.log.entries, above, within, k.0.1)) (no_candidate follows refl)

resets : (x : Parts) (i t : ℕ) → x.role ≡ Follower → i ≤ 2 ^ 62 → AreRanged x → AreRanged (record x { log = reset i t; commit = i; stable = i; from = i + 1 })
resets x i t follows short k = logs x k refl (omega (arith, short)) (no_candidate follows refl)

stretch : (x : Parts) (next : ℕ) → (nat_lt x.log.front next && nat_le next (last x.log + 1)) ≡ true → AreRanged x → Short x.term (next - 1) (slice x.log next 64)
stretch x next e k =
    let a = and_parts (nat_lt x.log.front next) (nat_le next (last x.log + 1)) e in
    let n = next - x.log.front - 1 in
    let rest = drop n x.log.entries in (
      omega (arith, length-take 64 rest, length-drop n x.log.entries, ltb-true x.log.front next a.0, leb-true next (last x.log + 1) a.1, k.0.1.last_short),
      fit_take 64 rest (fit_drop n x.log.entries k.0.3),
    )

-- ---- pieces of a snapshot

-- the next piece is the one whose number is that of the pieces in hand, it among them
next_number : (hand : List Chunk) (c : Chunk) → is_next hand c ≡ true → c.number ≡ length hand + 1
next_number [] c e = absurd (cc e)
next_number (b ∷ bs) c e = omega (arith, eqb-true c.number (length bs + 2) (and_parts (belongs b c) (c.number == length bs + 2) e).1)

-- after the last one nothing is in hand
counted_short : (hand : List Chunk) (c : Chunk) → length hand + 1 < 2 ^ 32 → length (counted_in hand c).hand + 1 < 2 ^ 32
counted_short hand c few = cond_both (c.number == c.count) _ _ (λ (w : Took). length w.hand + 1 < 2 ^ 32) (λ _. omega arith) (λ _. few)

taken_short : (hand : List Chunk) (c : Chunk) → IsPiece c → length hand + 1 < 2 ^ 32 → length (taken hand c).hand + 1 < 2 ^ 32
taken_short hand c piece few =
    cond_both (is_next hand c) _ _ (λ (w : Took). length w.hand + 1 < 2 ^ 32)
    (λ e. counted_short (hand ++ c ∷ []) c (omega (arith, length-append hand (c ∷ []), next_number hand c e, piece.1)))
    (λ _. cond_both (is_first hand c) _ _ (λ (w : Took). length w.hand + 1 < 2 ^ 32) (λ _. counted_short (c ∷ []) c (omega arith)) (λ _. few))

index_short : (inbox : Option Inbox) → IfSome inbox IsReceived → IfSome inbox (λ b. b.received.index ≤ 2 ^ 62)
index_short None a = tt
index_short (Some b) a = a.1

-- ---- all words

pub words : (s : Seat) → IsSeat s → Words Fit Short ⊤ IsMail s AreRanged
words s q = record {
  carries = λ m mail. (parted m.term m.body mail.3).0;
  bounds = λ m mail l. (mail.2, (parted m.term m.body mail.3).1);
  writes = λ to t body carried bounded. let b = bounded tt in (q.0, q.1, b.0, joined t body carried b.1);
  reaches = λ t prev es of l. of.0;
  limits = λ x k l. record {
    term_short = k.0.0.term_short;
    last_short = k.0.1.last_short;
    may_lead = λ e. k.0.1.may_lead (ap stood e);
    received = index_short x.inbox k.0.2.received;
  };
  stretch = stretch;
  holds = λ x m mail k. (k.0, (All-push IsMail x.held m k.1.0 mail, k.1.1));
  mailed = λ x k. k.1.0;
  empties = λ x k. (k.0, (All-nil IsMail, k.1.1));
  enters = λ x t less short k. (enters x t (short tt) k.0, k.1);
  stands = λ x low room k. (turns x (x.term + 1) Candidate (omega (arith, low)) (λ _. room) k.0, k.1);
  follows = λ x k. (turns x x.term Follower k.0.0.term_short (λ c. absurd (cc c)) k.0, k.1);
  leads = λ x e k.
      let short = All-set (λ i. i ≤ 2 ^ 62) (all_at 0) s.me x.stable (stable_short x k) (All-replicate (λ i. i ≤ 2 ^ 62) 10 0 (omega arith)) in
      let y = matched_by x (slice_set (all_at 0) s.me x.stable) short k in
      let z = turns x x.term Leader k.0.0.term_short (λ c. absurd (cc c)) k.0 in
      ((omega (arith, k.0.0), z.1, y.0.2, k.0.3), k.1);
  rounds = λ x low k. ((omega (arith, low, k.0.0), k.0.1, k.0.2, k.0.3), k.1);
  hears = λ x v i short k.
      let m = at_short x.matched v k.0.2.matched_short in
      matched_by x (slice_set x.matched v (max (at x.matched v) i)) (All-set (λ j. j ≤ 2 ^ 62) x.matched v (max (at x.matched v) i) (omega (arith, m, short tt)) k.0.2.matched_short) k;
  matches = λ x k. matched_by x (slice_set x.matched s.me x.stable) (All-set (λ j. j ≤ 2 ^ 62) x.matched s.me x.stable (stable_short x k) k.0.2.matched_short) k;
  commits = λ x c more within k. logs x k k.0.3 (omega (arith, more, within, k.0.1)) k.0.1.may_lead;
  pushes = λ x key p led room own k. pushes x key p led (room tt) own k;
  lays = λ x t prev pt c es follows new e carried k. lays x t prev pt c es follows e carried k;
  takes = λ x c piece k.
      ((k.0.0, k.0.1, record { matched_short = k.0.2.matched_short; in_place = k.0.2.in_place; hand_short = taken_short x.assembly c (piece tt) k.0.2.hand_short; received = k.0.2.received }, k.0.3), k.1);
  receives = λ x b short k.
      ((k.0.0, k.0.1, record { matched_short = k.0.2.matched_short; in_place = k.0.2.in_place; hand_short = k.0.2.hand_short; received = ((short tt).1, (short tt).0) }, k.0.3), k.1);
  cuts = cuts;
  bases = bases;
  resets = λ x i t follows above short k. resets x i t follows (short tt) k;
}
