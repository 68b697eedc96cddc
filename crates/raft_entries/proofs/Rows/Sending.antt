-- What all rows have in common: a choice of two rows, what is sent, the term that is taken over, and the commit rule.
use Rattle.std.proofs.Common.{◌≡◌, ◌≤◌, ◌<◌, ◌+◌, ◌-◌, ◌^◌, ℕ, zero, suc, List, [], ◌∷◌, Bool, true, false, refl, arith}
use Rattle.std.proofs.lemmas.Bool.{cond_both, or_parts, ltb-true, ltb-false, leb-false}
use Rattle.std.specs.Prelude.{◌==◌, ◌||◌, not, nat_le, if◌then◌else◌}
use Rattle.host_ids.specs.declared.entry.Key.{Key}
use Rattle.host_ids.specs.declared.proposal.Proposal.{Proposal}
use Rattle.wire_types.specs.declared.envelope.Body.{Body}
use Rattle.wire_types.specs.declared.envelope.Body.TheVariants as bodies
use Rattle.wire_types.specs.declared.envelope.Envelope.{Envelope}
use Rattle.raft_model.specs.declared.role.Role.TheVariants.{Leader}
use Rattle.raft_model.specs.declared.state.State.{State as Replica}
use Rattle.roster.specs.Roster.{Seat, at}
use Rattle.log_view.specs.Log.{last, slice, term_at}
use Rattle.raft_model.specs.Replica.{Row, quiet, is_leader, is_full, sent, sent_in, each_other, append_to, appended, appended_to_all, in_term, commit_rule, greatest, may_commit}
use Rattle.raft_model.specs.Appending.{more_to}
use Rattle.raft_entries.specs.Mail.{Property, Following, Carries}
use Rattle.raft_entries.specs.Parts.{Parts, parts}
use Rattle.raft_entries.proofs.Rows.Words.{IsBounded, On, Words}

-- the commit rule doesn't lower the commit index
low_greatest : (p : ℕ → Bool) (low n : ℕ) → low ≤ greatest p low n
low_greatest p low zero = omega arith
low_greatest p low (suc n) = cond_both (p (low + suc n)) _ _ (λ x. low ≤ x) (λ _. omega arith) (λ _. low_greatest p low n)

-- the commit rule doesn't raise the commit index past the numbers that it tries
high_greatest : (p : ℕ → Bool) (low n : ℕ) → greatest p low n ≤ low + n
high_greatest p low zero = omega arith
high_greatest p low (suc n) = cond_both (p (low + suc n)) _ _ (λ x. x ≤ low + suc n) (λ _. omega arith) (λ _. omega (arith, high_greatest p low n))

-- a replica that isn't full has room for one more
pub room : (r : Replica) → is_full r ≡ false → (r.term < 2 ^ 62) × (last r.log < 2 ^ 62) × (r.reads.round < 2 ^ 62)
room r e =
    let a = or_parts (nat_le (2 ^ 62) r.term || nat_le (2 ^ 62) (last r.log)) (nat_le (2 ^ 62) r.reads.round) e in
    let b = or_parts (nat_le (2 ^ 62) r.term) (nat_le (2 ^ 62) (last r.log)) a.0 in
    (leb-false (2 ^ 62) r.term b.0, leb-false (2 ^ 62) (last r.log) b.1, leb-false (2 ^ 62) r.reads.round a.1)

-- a test that doesn't fail to fail fails
pub not_false : (b : Bool) → not b ≡ true → b ≡ false
not_false true e = absurd (cc e)
not_false false e = refl

-- after a replica has looked at an envelope's term, its own isn't below that
pub within : (t : ℕ) (r : Replica) → t ≤ (in_term t r).term
within t r = cond_both _ _ _ (λ (q : Replica). t ≤ q.term) (λ _. omega arith) (λ e. ltb-false r.term t e)

module _ (G : Parts → Type 0) where
  -- what two rows keep, either of them keeps, as a test picks it
  pub pick : (b : Bool) (x y : Row) → (b ≡ true → On G x.replica) → (b ≡ false → On G y.replica) → On G (if b then x else y).replica
  pick b x y h k = cond_both b x y (λ w. On G w.replica) h k

  -- what two replicas have, either of them has, as a test picks it
  pub pick_one : (b : Bool) (x y : Replica) → (b ≡ true → On G x) → (b ≡ false → On G y) → On G (if b then x else y)
  pick_one b x y h k = cond_both b x y (On G) h k

module _ {Own : Property} {Follows : Following} {L : Type 0} {Mail : Envelope → Type 0} {s : Seat} {G : Parts → Type 0} (W : Words Own Follows L Mail s G) where
  -- an envelope of a term is held
  pub sends : (t to : ℕ) (body : Body) (r : Replica) → Carries Own Follows t body → (L → (t ≤ 2 ^ 62) × IsBounded body) → On G r → On G (sent_in t s to body r)
  sends t to body r carried bounded k = W.holds (parts r) (record { from = s.me; to = to; group = s.group; term = t; body = body }) (W.writes to t body carried bounded) k

  -- one of the replica's own term
  pub tells : (to : ℕ) (body : Body) (r : Replica) → Carries Own Follows r.term body → (L → IsBounded body) → On G r → On G (sent s to body r)
  tells to body r carried bounded k = sends r.term to body r carried (λ l. ((W.limits (parts r) k l).term_short, bounded l)) k

  -- what one step keeps, the same step for each other voter keeps
  pub each : (me : ℕ) (f : ℕ → Replica → Replica) → ((v : ℕ) (r : Replica) → On G r → On G (f v r)) → (vs : List ℕ) (r : Replica) → On G r
      → On G (each_other me f vs r)
  each me f next [] r k = k
  each me f next (v ∷ vs) r k = each me f next vs _ (pick_one G (v == me) _ _ (λ _. k) (λ _. next v r k))

  -- a voter is sent the entries from its next index on
  pub appends_to : (v : ℕ) (r : Replica) → On G r → On G (append_to s v r)
  appends_to v r k =
      pick_one G _ _ _
      (λ e. tells v (bodies.Append (at r.next v - 1) (term_at r.log (at r.next v - 1)) r.commit (slice r.log (at r.next v) 64)) r (W.stretch (parts r) (at r.next v) e k) (λ _. tt) k)
      (λ _. k)

  -- a voter that lacks entries is sent more
  pub more : (v : ℕ) (r : Replica) → On G r → On G (more_to s v r)
  more v r k = pick_one G _ _ _ (λ _. appends_to v r k) (λ _. k)

  -- a leader appends an entry and sends it to each other voter
  pub to_all : (key : Key) (p : Proposal) (r : Replica) → r.role ≡ Leader → (L → last r.log < 2 ^ 62) → Own key p → On G r → On G (appended_to_all s key p r)
  to_all key p r led room own k = each s.me (append_to s) appends_to s.voters (appended key p r) (W.pushes (parts r) key p led room own k)

  -- a greater term is taken over
  pub entered : (t : ℕ) (r : Replica) → (L → t ≤ 2 ^ 62) → On G r → On G (in_term t r)
  entered t r short k = pick_one G _ _ _ (λ e. W.enters (parts r) t (ltb-true r.term t e) short k) (λ _. k)

  -- the commit rule raises the commit index within the log
  pub commits : (r : Replica) → On G r → On G (commit_rule s r)
  commits r k =
      let p = may_commit s.voters r.matched r.log r.term in
      let n = last r.log - r.commit in
      W.commits (parts r) (greatest p r.commit n) (low_greatest p r.commit n) (omega (arith, high_greatest p r.commit n)) k

  -- an envelope of an older term is refused, and a leader takes nothing from another one
  pub takes_from : (old : Bool) (refusal : Row) (r : Replica) (w : Row) → On G refusal.replica → On G r → On G w.replica
      → On G (if old then refusal else (if is_leader r then quiet r else w)).replica
  takes_from old refusal r w x k y = pick G old _ _ (λ _. x) (λ _. pick G (is_leader r) _ _ (λ _. k) (λ _. y))
