-- Each word of the rows keeps a replica numbered over what it has saved.
use Rattle.std.proofs.Common.{◌≡◌, ◌≤◌, ◌<◌, ◌⊎◌, ⊎_elim, inl, inr, ◌+◌, ◌-◌, ℕ, List, [], ◌∷◌, ◌++◌, true, false, refl, sym, ap, arith, drop, length, subst}
use Rattle.std.proofs.lemmas.Bool.{or_parts, and_parts, ltb-true, ltb-false, leb-true}
use Rattle.std.proofs.lemmas.List.{length-append, length-drop}
use Rattle.std.proofs.lemmas.List.Elements.{All-nil, All-push, All-take, All-drop}
use Rattle.std.specs.Prelude.{◌==◌, ◌&&◌, not, nat_lt, nat_le, min, max, ⊤, Option, Some, None, slice_set}
use Rattle.std.specs.List.{All}
use Rattle.host_ids.specs.declared.entry.Entry.{Entry}
use Rattle.host_ids.specs.declared.entry.Key.{Key}
use Rattle.host_ids.specs.declared.proposal.Proposal.{Proposal}
use Rattle.raft_model.specs.declared.saved.SavedState.{SavedState}
use Rattle.raft_model.specs.declared.state.Pending.{Pending}
use Rattle.raft_model.specs.declared.role.Role.{Role}
use Rattle.raft_model.specs.declared.role.Role.TheVariants.{Follower, Candidate, Leader}
use Rattle.log_view.specs.Log.{Log, last, term_at, slice, laid, cut_front, reset}
use Rattle.raft_model.specs.Appending.{lacks}
use Rattle.raft_model.specs.Snapping.{stays, taken}
use Rattle.raft_model.specs.declared.chunk.Chunk.{Chunk}
use Rattle.raft_model.specs.declared.state.Inbox.{Inbox}
use Rattle.roster.specs.Roster.{Seat, at, all_at}
use Rattle.wire_types.specs.declared.envelope.Envelope.{Envelope}
use Rattle.raft_entries.specs.Parts.{Parts}
use Rattle.raft_entries.specs.Numbers.{Numbered, UpTo, IsSent, IsMail, Places, Stands}
use Rattle.raft_entries.proofs.Numbering.Lists.{num_append, num_take, num_drop, up_to}
use Rattle.raft_entries.proofs.Numbering.Laying.{laid_numbered}
use Rattle.raft_entries.proofs.Rows.Laying.{Lies, laid_lies}
use Rattle.raft_entries.proofs.Rows.Words.{Words, lowered_by, laid_by, next_entry, pushed}

module _ {now later : SavedState} where
  -- the entries that are sent to a voter follow the index before them
  stretch : (x : Parts) (next : ℕ) → (nat_lt x.log.front next && nat_le next (last x.log + 1)) ≡ true → Stands now later x
      → IsSent x.term (next - 1) (slice x.log next 64)
  stretch x next e k =
      let f = ltb-true x.log.front next (and_parts (nat_lt x.log.front next) (nat_le next (last x.log + 1)) e).0 in
      let n = next - x.log.front - 1 in
      let rest = drop n x.log.entries in (
        num_take (next - 1 + 1) 64 rest (num_drop (x.log.front + 1) (next - 1 + 1) n x.log.entries (omega (arith, f)) k.entries),
        All-take (λ e. e.term ≤ x.term) 64 rest (All-drop (λ e. e.term ≤ x.term) n x.log.entries k.terms),
      )

  -- a replica takes over a term that isn't less, and a role that may be had in it
  turns : (x : Parts) (t : ℕ) (role : Role) → x.term ≤ t → (role ≡ Follower) ⊎ (1 ≤ t) → Stands now later x → Stands now later (record x { term = t; role = role })
  turns x t role more may k = record {
    entries = k.entries;
    terms = up_to x.term t x.log.entries more k.terms;
    some_term = may;
    places = omega (arith, more, k.places);
    held = k.held;
  }

  -- a candidate that leads has a term of at least 1
  leads : (x : Parts) → x.role ≡ Candidate → Stands now later x → Stands now later (record x { role = Leader })
  leads x e k = turns x x.term Leader (omega arith) (⊎_elim (λ f. absurd (cc (f, e))) (λ l. inr l) k.some_term) k

  -- the log becomes another one that is numbered, with places that fit it
  logs : {x : Parts} {l : Log} {commit stable from : ℕ} → Stands now later x → Numbered (l.front + 1) l.entries → UpTo x.term l.entries
      → Places now later x.term l commit stable from → Stands now later (record x { log = l; commit = commit; stable = stable; from = from })
  logs k entries terms places = record { entries = entries; terms = terms; some_term = k.some_term; places = places; held = k.held }

  -- the commit index rises within the log
  commits : (x : Parts) (c : ℕ) → x.commit ≤ c → c ≤ max x.commit (last x.log) → Stands now later x → Stands now later (record x { commit = c })
  commits x c more within k = logs k k.entries k.terms (omega (arith, more, within, k.places))

  -- a leader appends an entry of its term
  pushes : (x : Parts) (key : Key) (p : Proposal) → x.role ≡ Leader → Stands now later x → Stands now later (pushed key p x)
  pushes x key p led k =
      let e = next_entry key p x in
      let one : 1 ≤ x.term = ⊎_elim (λ f. absurd (cc (f, led))) (λ l. l) k.some_term in
      let n = length-append x.log.entries (e ∷ []) in
      logs k (num_append (x.log.front + 1) (last x.log + 1) x.log.entries (e ∷ []) (omega arith) k.entries (refl, one, tt))
      (All-push (λ e. e.term ≤ x.term) x.log.entries e k.terms (omega arith)) (omega (arith, n, k.places))

  -- the places fit a log that entries were laid into, after the commit index rose
  laid_places : (x : Parts) (l : Log) (change : Option ℕ) (c end : ℕ) → Stands now later x → Lies x.log x.commit end (record { log = l; changed_from = change })
      → (let y = lowered_by change (record x { log = l }) in Places now later y.term l (max y.commit (min c (max x.log.front end))) y.stable y.from)
  laid_places x l None c end k lies = let same : last l ≡ last x.log = ap last lies.from in omega (arith, same, lies.front, lies.committed, lies.ends, k.places)
  laid_places x l (Some i) c end k lies = omega (arith, lies, k.places)

  -- a leader's entries are laid into the log
  lays : (x : Parts) (t prev pt c : ℕ) (es : List Entry) → t ≤ x.term → lacks x.log prev pt ≡ false → IsSent t prev es → Stands now later x
      → Stands now later (laid_by c prev es x)
  lays x t prev pt c es new e carried k =
      let up = ltb-false (last x.log) prev (or_parts (nat_lt (last x.log) prev) (nat_le x.log.front prev && not (term_at x.log prev == pt)) e).0 in
      let w = laid x.log x.commit prev es in
      let lies = laid_lies x.log x.commit prev es k.places.front_committed k.places.committed up in
      let num = laid_numbered x.log x.commit prev x.term es k.places.front_committed k.places.committed up k.entries k.terms carried.0 (up_to t x.term es new carried.1) in
      logs k (subst (λ i. Numbered (i + 1) w.log.entries) (sym lies.front) num.0) num.1 (laid_places x w.log w.changed_from c (prev + length es) k lies)

  -- the log is cut at a place that is committed and saved
  cuts : (x : Parts) (i : ℕ) → x.log.front < i → i ≤ min x.commit x.stable → Stands now later x → Stands now later (record x { log = cut_front x.log i })
  cuts x i above ripe k =
      let n = i - x.log.front in
      logs k (num_drop (x.log.front + 1) (i + 1) n x.log.entries (omega (arith, above)) k.entries) (All-drop (λ e. e.term ≤ x.term) n x.log.entries k.terms)
      (omega (arith, length-drop n x.log.entries, above, ripe, k.places))

  -- the log begins after a snapshot, with the entries that stayed
  bases : (x : Parts) (i t : ℕ) → x.commit < i → stays x.log i t ≡ true → Stands now later x
      → Stands now later (record x { log = cut_front x.log i; commit = i; stable = max x.stable i; from = max x.from (i + 1) })
  bases x i t above e k =
      let n = i - x.log.front in
      let within = leb-true i (last x.log) (and_parts (nat_le i (last x.log)) (term_at x.log i == t) e).0 in
      logs k (num_drop (x.log.front + 1) (i + 1) n x.log.entries (omega (arith, above, k.places.front_committed)) k.entries) (All-drop (λ e. e.term ≤ x.term) n x.log.entries k.terms)
      (omega (arith, length-drop n x.log.entries, above, within, k.places))

  -- the log begins after a snapshot, with no entry
  resets : (x : Parts) (i t : ℕ) → x.commit < i → Stands now later x → Stands now later (record x { log = reset i t; commit = i; stable = i; from = i + 1 })
  resets x i t above k = logs k tt (All-nil (λ (e : Entry). e.term ≤ x.term)) (omega (arith, above, k.places))

  -- once all of a replica is saved that will be, what didn't change since may count as saved
  pub settles : (x : Parts) (i : ℕ) → x.log.front ≤ i → i < x.from → Stands now later x → Stands later later (record x { stable = i })
  settles x i front below k = record { entries = k.entries; terms = k.terms; some_term = k.some_term; places = omega (arith, front, below, k.places); held = k.held }

  -- other envelopes are held, and another batch is pending, or none
  pub holds : (x : Parts) (held : List Envelope) (o : Option Pending) → All IsMail held → Stands now later x → Stands now later (record x { held = held; pending = o })
  holds x held o mail k = record { entries = k.entries; terms = k.terms; some_term = k.some_term; places = k.places; held = mail }

-- what a leader counts is no matter to the numbering, nor are the pieces of a snapshot
counts : {now later : SavedState} (x : Parts) (round : ℕ) (matched : List ℕ) → Stands now later x → Stands now later (record x { round = round; matched = matched })
counts x round matched k = record { entries = k.entries; terms = k.terms; some_term = k.some_term; places = k.places; held = k.held }

gathers : {now later : SavedState} (x : Parts) (assembly : List Chunk) (inbox : Option Inbox) → Stands now later x → Stands now later (record x { assembly = assembly; inbox = inbox })
gathers x assembly inbox k = record { entries = k.entries; terms = k.terms; some_term = k.some_term; places = k.places; held = k.held }

-- all words keep it, with whatever is said of the pending batch, which no word changes
pub numbered_words : (now : SavedState) (Waits : Option Pending → Type 0) (later : Option Pending → SavedState) (s : Seat)
    → Words (λ key p. ⊤) IsSent ⊥ IsMail s (λ x. Waits x.pending × Stands now (later x.pending) x)
numbered_words now Waits later s = record {
  carries = λ m mail. mail;
  bounds = λ m mail l. absurd l;
  writes = λ to t body carried bounded. carried;
  reaches = λ t prev es of l. absurd l;
  limits = λ x k l. absurd l;
  stretch = λ x next e k. stretch x next e k.1;
  holds = λ x m mail k. (k.0, holds x (x.held ++ m ∷ []) x.pending (All-push IsMail x.held m k.1.held mail) k.1);
  mailed = λ x k. k.1.held;
  empties = λ x k. (k.0, holds x [] x.pending (All-nil IsMail) k.1);
  enters = λ x t less short k. (k.0, turns x t Follower (omega (arith, less)) (inl refl) k.1);
  stands = λ x low short k. (k.0, turns x (x.term + 1) Candidate (omega arith) (inr (omega arith)) k.1);
  follows = λ x k. (k.0, turns x x.term Follower (omega arith) (inl refl) k.1);
  leads = λ x e k. let y = leads x e k.1 in (k.0, counts (record x { role = Leader }) 0 (slice_set (all_at 0) s.me x.stable) y);
  rounds = λ x low k. (k.0, counts x (x.round + 1) x.matched k.1);
  hears = λ x v i short k. (k.0, counts x x.round (slice_set x.matched v (max (at x.matched v) i)) k.1);
  matches = λ x k. (k.0, counts x x.round (slice_set x.matched s.me x.stable) k.1);
  commits = λ x c more within k. (k.0, commits x c more within k.1);
  pushes = λ x key p led room own k. (k.0, pushes x key p led k.1);
  lays = λ x t prev pt c es stood new e carried k. (k.0, lays x t prev pt c es new e carried k.1);
  takes = λ x c piece k. (k.0, gathers x (taken x.assembly c).hand x.inbox k.1);
  receives = λ x b short k. (k.0, gathers x x.assembly (Some b) k.1);
  cuts = λ x i above ripe k. (k.0, cuts x i above ripe k.1);
  bases = λ x i t stood above e k. (k.0, bases x i t above e k.1);
  resets = λ x i t stood above short k. (k.0, resets x i t above k.1);
}
