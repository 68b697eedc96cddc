-- What a leader sends, and what any host sends to each other one.
use Rattle.std.proofs.lemmas.Bool.{cond_both}
use Rattle.std.proofs.Common.{◌≡◌, ℕ, ◌+◌, ◌-◌, ◌≤◌, List, length, take, drop, refl, sym, ap, ◌∙◌, subst, arith, ◌&&◌, min, ◌<◌}
use Rattle.std.specs.Prelude.{nat_lt, nat_le}
use Rattle.std.proofs.lemmas.Bool.{leb-true, ltb-true, and_parts}
use Rattle.std.proofs.lemmas.List.{length-take, length-drop}
use Rattle.host_ids.specs.declared.entry.Entry.{Entry}
use Rattle.raft_model.specs.declared.saved.SavedState.{SavedState}
use Rattle.wire_types.specs.declared.envelope.Envelope.{Envelope}
use Rattle.raft_model.specs.declared.state.State.{State as Replica}
use Rattle.raft_model.specs.declared.role.Role.TheVariants.{Leader}
use Rattle.roster.specs.Roster.{at}
use Rattle.raft_model.specs.Replica.{append_to, each_other}
use Rattle.raft_model.specs.Appending.{more_to}
use Rattle.raft_model.specs.Group.{Group, seat, term_of}
use Rattle.log_view.specs.Log.{last, term_at, slice}
use Rattle.raft_safety.specs.History.{History, Agree}
use Rattle.raft_safety.specs.Replicas.{whole}
use Rattle.raft_safety.specs.Envelopes.{IsOfLeader}
use Rattle.raft_safety.proofs.Frame.Opened.{Open}
use Rattle.raft_safety.proofs.Frame.Words.{holding, each_other_stays}
use Rattle.raft_safety.proofs.Argument.Stretches.{drop_more, take_length}
use Rattle.raft_safety.proofs.Argument.WholeLogs.{whole_length, whole_drop, term_whole}

-- a leader's replica, at work
pub record Leads (h : History) (g : Group) (v : ℕ) (b : SavedState) (r : Replica) (d : List Entry) (w : List Envelope) : Type 0 where
  pub open_group : Open h g v b r d w
  pub role : r.role ≡ Leader

module _ {g : Group} {v : ℕ} {h : History} {b : SavedState} {d : List Entry} {w : List Envelope} where
  -- what a leader sends is a stretch of its reign's log, with a commit index that is decided
  of_leader : {r : Replica} → Leads h g v b r d w → (first : ℕ) → r.log.front < first → first ≤ last r.log + 1
      → IsOfLeader h d v r.term (first - 1) (term_at r.log (first - 1)) r.commit (slice r.log first 64)
  of_leader {r} x first above within =
      let a = x.open_group.mine in
      let l = a.stands.leader x.role in
      let f = r.log.front in
      let X = whole d f r.log.entries in
      let fits : f ≤ length d = omega (arith, a.stands.now.front, a.stands.now.commit.right) in
      let long : length X ≡ f + length r.log.entries = whole_length d f r.log.entries fits in
      let len : length l.reign.log ≡ length X = ap (λ xs. length xs) l.log in
      let es : slice r.log first 64 ≡ take 64 (drop (first - 1) X) =
      (let e : f + (first - f - 1) ≡ first - 1 = omega (arith, above) in ap (λ xs. take 64 (drop (first - f - 1) xs)) (sym (whole_drop d f r.log.entries fits)) ∙ ap (take 64)
      (sym (drop_more f (first - f - 1) X) ∙ ap (λ j. drop j X) e)) in
      let n : length (slice r.log first 64) ≡ min 64 (length X - (first - 1)) = ap (λ xs. length xs) es ∙ length-take 64 (drop (first - 1) X) ∙ ap (min 64) (length-drop (first - 1) X) in
      record {
        reign = l.reign;
        led = l.led;
        term = l.term;
        leader = l.leader;
        reaches = omega (arith, n, len, within, long);
        before = ap (λ xs. term_of xs (first - 1)) l.log ∙ sym (term_whole d r.log (first - 1) fits a.based.2 (omega (arith, above)));
        entries = es ∙ take_length 64 (drop (first - 1) X)
            ∙ ap (λ m. take m (drop (first - 1) X)) (ap (λ xs. length xs) (sym es))
            ∙ ap (λ xs. take (length (slice r.log first 64)) (drop (first - 1) xs)) (sym l.log);
        commit = subst (λ xs. Agree r.commit xs d) (sym l.log) a.stands.now.commit;
      }

  -- a leader sends a voter the stretch that comes next for it
  pub append_to_step : (u : ℕ) {r : Replica} → Leads h g v b r d w → Leads h g v b (append_to (seat g v) u r) d w
  append_to_step u {r} x =
      cond_both (nat_lt r.log.front (at r.next u) && nat_le (at r.next u) (last r.log + 1)) _ r (λ q. Leads h g v b q d w)
      (λ e. let parts = and_parts (nat_lt r.log.front (at r.next u)) (nat_le (at r.next u) (last r.log + 1)) e in
      record {
        open_group = holding _ refl (of_leader x (at r.next u) (ltb-true r.log.front (at r.next u) parts.0) (leb-true (at r.next u) (last r.log + 1) parts.1)) x.open_group;
        role = x.role;
      })
      (λ _. x)

  -- a voter that has not matched all is sent more
  pub more_to_step : (u : ℕ) {r : Replica} → Leads h g v b r d w → Leads h g v b (more_to (seat g v) u r) d w
  more_to_step u {r} x = cond_both (nat_lt (at r.matched u) (last r.log)) _ r (λ q. Leads h g v b q d w) (λ _. append_to_step u x) (λ _. x)

  -- each other voter is sent its stretch
  pub append_all_step : {r : Replica} → Leads h g v b r d w → Leads h g v b (each_other v (append_to (seat g v)) g.voters r) d w
  append_all_step {r} x = each_other_stays (λ q. Leads h g v b q d w) v (append_to (seat g v)) (λ u q other y. append_to_step u y) g.voters r x
