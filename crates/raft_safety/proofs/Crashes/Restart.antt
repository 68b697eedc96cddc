-- A host goes down, and starts again from what its crash left.
use Rattle.std.proofs.Common.{inl, ◌≡◌, ◌≢◌, ⊎_elim, ℕ, ◌^◌, ◌+◌, ◌<◌, ◌≤◌, List, [], ◌++◌, length, Bool, true, false, refl, sym, ap, ◌∙◌, subst, arith, ◌==◌, ◌&&◌, if◌then◌else◌}
use Rattle.std.specs.Prelude.{not, nat_lt, nat_le, slice_set}
use Rattle.std.proofs.lemmas.Bool.{ltb-true, leb-true, le-leb, le-ltb, lt-ltb, eq-eqb, not-true, and_parts, and_from}
use Rattle.std.proofs.lemmas.List.{append-nil, length-set, set_past}
use Rattle.host_ids.specs.declared.entry.Entry.{Entry}
use Rattle.host_ids.specs.declared.batch.Batch.{Batch}
use Rattle.raft_model.specs.declared.saved.SavedState.{SavedState}
use Rattle.wire_types.specs.declared.envelope.Envelope.{Envelope}
use Rattle.log_view.specs.Log.{Log, last, term_at, reset}
use Rattle.raft_model.specs.Snapping.{stays}
use Rattle.raft_model.specs.declared.durable.Durable.{Durable}
use Rattle.raft_model.specs.declared.event.LaneFault.TheVariants as faults
use Rattle.raft_model.specs.declared.state.State.{State as Replica}
use Rattle.raft_model.specs.Replica.{fresh}
use Rattle.raft_model.specs.Restarting.{state_of, log_of, begun_log, begun_commit, restarted, beginning}
use Rattle.raft_model.specs.Group.{Group, Acted, replica_at, saved_at, is_member, is_up, moved, continued, did, refuses, restarts, term_of}
use Rattle.raft_safety.specs.History.{History, Agree, SameFrom, MatchesWithin}
use Rattle.raft_safety.specs.Replicas.{whole}
use Rattle.raft_safety.specs.Invariant.{Common, HasAnswer, IsHost, Secured, Kept}
use Rattle.raft_safety.specs.Events.{IsLeft, IsAllowedStart}
use Rattle.raft_safety.proofs.Argument.Agreement.{agree_sym, agree_less, glue, le_or}
use Rattle.raft_safety.proofs.Argument.Stretches.{from_trans, from_agree}
use Rattle.raft_safety.proofs.Frame.Words.{commit_step}
use Rattle.raft_safety.proofs.Argument.WholeLogs.{whole_length, term_whole, decided_place}
use Rattle.raft_safety.proofs.Frame.Opened.{Open, opened, inv_closed}
use Rattle.raft_safety.proofs.Frame.Settle.{continued_none}
use Rattle.raft_safety.proofs.Crashes.Mark.{mark_step}
use Rattle.raft_safety.proofs.Crashes.Crash.{left_replica}
use Rattle.raft_safety.proofs.Crashes.Left.{Begun, begun}
use Rattle.raft_safety.proofs.Argument.Decided.{same_reign}

-- a host may be called up or down
pub turned_kept : {g : Group} (v : ℕ) (up : Bool) → Kept g → Kept (record g { up = slice_set g.up v up })
turned_kept {g} v up k =
    let i = k.holds in
    record {
      history = k.history;
      holds = record {
        tables = record { replicas = i.tables.replicas; saves = i.tables.saves; up = length-set g.up v up ∙ i.tables.up };
        voters = i.voters;
        common = i.common;
        hosts = i.hosts;
        wire = i.wire;
      };
    }

-- a log whose term at a place is the decided list's there agrees with it up to that
place_fits : {voters : List ℕ} {h : History} {d : List Entry} {Sec : ℕ → ℕ → ℕ → Type 0} → Common voters h d Sec → (most : ℕ) (X : List Entry) → MatchesWithin h d most X → (j : ℕ) → 0 < j
    → j ≤ length X → j ≤ length d → term_of X j ≡ term_of d j → Agree j X d
place_fits {h} i most X matches j some here there same =
    let p = (matches j some here).0 in
    ⊎_elim
    (λ whole. agree_less j whole p.front)
    (λ past.
    let z = p.rest past in
    let y = i.strict j some there in
    let one : z.0 ≡ y.0 = same_reign i z.0 y.0 z.1 y.1 (z.2 ∙ same ∙ sym y.2) in
    glue p.most here p.front
    (from_trans (subst (λ S. SameFrom p.decided j X S.log) one z.3) (from_agree p.decided (agree_sym y.3))))
    (le_or j p.decided)

module _ {g : Group} (v : ℕ) (s : Durable) (k : Kept g) (some : v ≢ 0) (allowed : IsAllowedStart g v s) where
  -- the group with the host up
  abbrev up : Group
  up = record g { up = slice_set g.up v true }

  -- it keeps the invariant
  turned : Kept up
  turned = turned_kept v true k

  -- the saved state
  abbrev c : SavedState
  c = state_of s.batch

  -- the replica stands as that does
  stands : Begun up v c g.decided g.wire
  stands = begun c some refl allowed.left (opened turned.holds v)

  -- the history after the crash
  abbrev h : History
  h = stands.history

  -- the decided list
  abbrev d : List Entry
  d = g.decided

  -- the group, opened at the host
  o : Open h up v c (left_replica c) d g.wire
  o = stands.holds

  -- the whole saved log
  abbrev X : List Entry
  X = whole d c.front c.entries

  -- its front is decided
  front : c.front ≤ length d
  front = let n = o.mine.stands.now in omega (arith, n.front, n.commit.right)

  -- it ends where the log says
  size : length X ≡ last (log_of c)
  size = whole_length d c.front c.entries front

  -- the state is fit: the beginning lies from the front to the last index, and the commit index isn't beyond that
  fits : (nat_le (begun_log s).front (beginning s) ≡ true) × (nat_le (beginning s) (last (begun_log s)) ≡ true) × (nat_le (begun_commit s) (last (begun_log s)) ≡ true)
  fits =
      let l = begun_log s in
      let p = and_parts (nat_le l.front (beginning s) && nat_le (beginning s) (last l) && nat_le (begun_commit s) (last l) && nat_lt c.term (2 ^ 62)) (nat_lt (last l) (2 ^ 62)) allowed.fit in
      let q = and_parts (nat_le l.front (beginning s) && nat_le (beginning s) (last l) && nat_le (begun_commit s) (last l)) (nat_lt c.term (2 ^ 62)) p.0 in
      let t = and_parts (nat_le l.front (beginning s) && nat_le (beginning s) (last l)) (nat_le (begun_commit s) (last l)) q.0 in
      let z = and_parts (nat_le l.front (beginning s)) (nat_le (beginning s) (last l)) t.0 in
      (z.0, z.1, t.1)

  -- the mark is decided
  mark_within : s.mark ≤ length d
  mark_within = (decided_place d s.mark s.mark_term allowed.mark).0

  -- the replica that starts, with any log and commit index
  abbrev with_log : Log → ℕ → Replica
  with_log l n = record fresh {
    term = c.term;
    vote = c.vote;
    log = l;
    commit = n;
    stable = last l;
    from = last l + 1;
    taken = record { term = c.term; vote = c.vote; commit = c.commit; front = c.front };
  }

  -- where the saved log holds the mark, it is the decided list up to the mark and the machine's index
  known : begun_log s ≡ log_of c → Agree (begun_commit s) X d
  known held =
      let a = o.mine in
      let j = beginning s in
      ⊎_elim
      (λ low. let z : c.commit ≡ begun_commit s = omega (arith, low) in subst (λ n. Agree n X d) z a.stands.now.commit)
      (λ past.
      let z : j ≡ begun_commit s = omega (arith, past) in
      let most : j ≤ last (log_of c) = subst (λ l. j ≤ last l) held (leb-true j (last (begun_log s)) fits.1) in
      let above : c.front ≤ j = subst (λ l. l.front ≤ j) held (leb-true (begun_log s).front j fits.0) in
      let term : term_of X j ≡ term_of d j = sym (term_whole d (log_of c) j front a.based.2 above) ∙ subst (λ l. term_at l j ≡ term_of d j) held allowed.begins in
      subst (λ n. Agree n X d) z
      (place_fits o.common c.commit X a.stands.now.matches j (omega (arith, past)) (omega (arith, most, size)) (omega (arith, mark_within, allowed.machine)) term))
      (le_or j c.commit)

  -- then the host starts with the saved log
  held_start : begun_log s ≡ log_of c → Open h up v c (restarted s) d g.wire
  held_start held =
      subst (λ l. Open h up v c (with_log l (begun_commit s)) d g.wire) (sym held)
      (commit_step (omega arith) (known held) o)

  -- where it doesn't, the log is the decided places up to the mark
  marked_start : begun_log s ≡ reset s.mark s.mark_term → c.front < s.mark → stays (log_of c) s.mark s.mark_term ≡ false → Open h up v c (restarted s) d g.wire
  marked_start cut above gone =
      let a = o.mine in
      let term : s.mark_term ≡ term_of d s.mark = (decided_place d s.mark s.mark_term allowed.mark).1 in
      let most : begun_commit s ≤ last (reset s.mark s.mark_term) = subst (λ l. begun_commit s ≤ last l) cut (leb-true (begun_commit s) (last (begun_log s)) fits.2) in
      let commit : begun_commit s ≡ s.mark = omega (arith, most) in
      let apart : s.mark ≤ length X → term_of X s.mark ≡ term_of d s.mark → ⊥ = λ here same.
      let first : nat_le s.mark (last (log_of c)) ≡ true = le-leb s.mark (last (log_of c)) (omega (arith, here, size)) in
      let second : (term_at (log_of c) s.mark == s.mark_term) ≡ true = eq-eqb (term_at (log_of c) s.mark) s.mark_term
      (term_whole d (log_of c) s.mark front a.based.2 (omega (arith, above)) ∙ same ∙ sym term) in
      let no : (true && true) ≡ false = ap (λ x. x && true) (sym first) ∙ ap (λ x. nat_le s.mark (last (log_of c)) && x) (sym second) ∙ gone in
      absurd (cc) in
      subst (λ l. Open h up v c (with_log l (begun_commit s)) d g.wire) (sym cut)
      (subst (λ n. Open h up v c (with_log (reset s.mark s.mark_term) n) d g.wire) (sym commit)
      (mark_step o s.mark s.mark_term above mark_within term (omega (arith, most)) apart))

  -- so the host starts, in either case
  open_started : Open h up v c (restarted s) d g.wire
  open_started =
      let test = nat_lt c.front s.mark && not (stays (log_of c) s.mark s.mark_term) in
      elim test as (λ x. test ≡ x → Open h up v c (restarted s) d g.wire) [
        | true ↦ λ e.
            let p = and_parts (nat_lt c.front s.mark) (not (stays (log_of c) s.mark s.mark_term)) e in
            marked_start (ap (λ x. if x then reset s.mark s.mark_term else log_of c) e) (ltb-true c.front s.mark p.0) (not-true (stays (log_of c) s.mark s.mark_term) p.1)
        | false ↦ λ e. held_start (ap (λ x. if x then reset s.mark s.mark_term else log_of c) e)
      ] refl

  -- the replica that starts
  abbrev q : Replica
  q = restarted s

  -- the decided list stays
  list_same : continued g.decided q ≡ g.decided
  list_same = continued_none g.decided q open_started.mine.stands.now.commit.right

  -- the group with the host up, and its replica and what it has saved put in
  abbrev put : List SavedState → List Replica → List Entry → List Envelope → Group
  put saves replicas d w = record up { saves = saves; replicas = replicas; decided = d; wire = w }

  -- the group with the host started keeps the invariant
  started : Kept (moved (record up { saves = slice_set g.saves v c }) v (restarted s) [])
  started =
      (subst (λ d. Kept (put (slice_set g.saves v c) (slice_set g.replicas v q) d (g.wire ++ []))) (sym list_same)
      (subst (λ w. Kept (put (slice_set g.saves v c) (slice_set g.replicas v q) g.decided w)) (sym (append-nil g.wire))
      (⊎_elim past within (le_or 10 v))))
    where
      past : 10 ≤ v → Kept (put (slice_set g.saves v c) (slice_set g.replicas v q) g.decided g.wire)
      past m =
          let i = k.holds.tables in
          subst (λ x. Kept (put x (slice_set g.replicas v q) g.decided g.wire)) (sym (set_past g.saves v c (omega (arith, m, i.saves))))
          (subst (λ x. Kept (put g.saves x g.decided g.wire)) (sym (set_past g.replicas v q (omega (arith, m, i.replicas)))) turned)

      within : v < 10 → Kept (put (slice_set g.saves v c) (slice_set g.replicas v q) g.decided g.wire)
      within m = record {
        history = stands.history;
        holds = inv_closed turned.holds.tables m turned.holds.voters open_started;
      }

-- a start that is allowed keeps the invariant
pub restart_kept : {g : Group} (v : ℕ) (s : Durable) → Kept g → IsAllowedStart g v s → Kept (restarts g v s).group
restart_kept {g} v s k allowed =
    elim (is_member g v) as (λ x. is_member g v ≡ x → Kept
    (let b : Acted = if not x then refuses g faults.NotMember else
    (if is_up g v then refuses g faults.IsUp else did (moved (record (record g { up = slice_set g.up v true }) { saves = slice_set g.saves v (state_of s.batch) }) v (restarted s) []) []) in b).group) [
      | false ↦ λ e. k
      | true ↦ λ e. elim (is_up g v) as (λ x. Kept
          (let b : Acted = if x then refuses g faults.IsUp else did (moved (record (record g { up = slice_set g.up v true }) { saves = slice_set g.saves v (state_of s.batch) }) v (restarted s) [])
          [] in b).group) [
            | true ↦ k
            | false ↦ started v s k
                (λ z. let t : is_member g 0 ≡ true = subst (λ n. is_member g n ≡ true) z e in let f = k.holds.voters in absurd (cc))
                allowed
          ]
    ] refl

-- a host without a mark, whose machine keeps nothing, may start from what it has saved, whatever number and first index it is told with
pub plain_start : {g : Group} (v : ℕ) (x : Batch) → state_of x ≡ saved_at g v → Kept g → (saved_at g v).term < 2 ^ 62 → last (log_of (saved_at g v)) < 2 ^ 62 → (saved_at g v).front ≡ 0
    → IsAllowedStart g v (record { batch = x; mark = 0; mark_term = 0; machine = 0 })
plain_start {g} v x same k term most front =
    let b = state_of x in
    let a : IsHost k.history g.decided (Secured g) (HasAnswer g.wire) v b (replica_at g v) =
    subst (λ y. IsHost k.history g.decided (Secured g) (HasAnswer g.wire) v y (replica_at g v)) (sym same) (k.holds.hosts v) in
    let low : b.term < 2 ^ 62 = subst (λ (y : SavedState). y.term < 2 ^ 62) (sym same) term in
    let short : last (log_of b) < 2 ^ 62 = subst (λ y. last (log_of y) < 2 ^ 62) (sym same) most in
    let none : b.front ≡ 0 = subst (λ (y : SavedState). y.front ≡ 0) (sym same) front in
    let n = a.stands.saved in
    let s : Durable = record { batch = x; mark = 0; mark_term = 0; machine = 0 } in
    let size = whole_length g.decided b.front b.entries (omega (arith, n.front, n.commit.right)) in
    let held : begun_log s ≡ log_of b = ap (λ x. if x && not (stays (log_of b) 0 0) then reset 0 0 else log_of b) (le-ltb b.front 0 (omega arith)) in
    record {
      left = subst (IsLeft g v) (sym same) (inl refl);
      mark = refl;
      machine = omega arith;
      begins = subst (λ l. term_at l 0 ≡ 0) (sym held) (term_whole g.decided (log_of b) 0 (omega (arith, n.front, n.commit.right)) a.based.0 (omega (arith, none)));
      fit = subst (λ l. (nat_le l.front 0 && nat_le 0 (last l) && nat_le (begun_commit s) (last l) && nat_lt b.term (2 ^ 62) && nat_lt (last l) (2 ^ 62)) ≡ true) (sym held)
          (and_from _ _ (and_from _ _ (and_from _ _ (and_from _ _ (le-leb b.front 0 (omega (arith, none))) (le-leb 0 (last (log_of b)) (omega arith)))
          (le-leb (begun_commit s) (last (log_of b)) (omega (arith, size, n.commit.left)))) (lt-ltb b.term (2 ^ 62) low)) (lt-ltb (last (log_of b)) (2 ^ 62) short));
    }
