-- One leader a term and one decided list, between any two moments of a run.
use Rattle.std.proofs.Common.{◌≡◌, ℕ, ◌+◌, ◌-◌, ◌≤◌, List, [], ◌∷◌, length, take, drop, refl, sym, ap, ◌∙◌, arith, inl}
use Rattle.std.proofs.lemmas.List.{take-append-le, length-append, drop-take}
use Rattle.host_ids.specs.declared.entry.Entry.{Entry}
use Rattle.raft_model.specs.declared.event.LaneEvent.{LaneEvent}
use Rattle.raft_model.specs.declared.state.State.{State as Replica}
use Rattle.raft_model.specs.Replica.{ripe}
use Rattle.raft_model.specs.Group.{Group, replica_at, run, fresh_group, term_of}
use Rattle.raft_safety.specs.History.{Agree}
use Rattle.raft_safety.specs.Replicas.{whole}
use Rattle.raft_safety.specs.Invariant.{Kept}
use Rattle.raft_safety.specs.Events.{AreAllowed}
use Rattle.raft_safety.specs.Agreed.{StaysKept}
use Rattle.raft_safety.specs.Rounds.{seal}
use Rattle.raft_safety.specs.OneList.{GoesOn, HoldsList, IsOneList, OneList}
use Rattle.raft_safety.proofs.Laws.First.{first_kept}
use Rattle.raft_safety.proofs.Laws.GoesOn.{goes_none, run_goes_on}
use Rattle.raft_safety.proofs.Laws.Seals.{sealed, only_sealed, run_after}
use Rattle.raft_safety.proofs.Argument.WholeLogs.{whole_drop}
use Rattle.raft_safety.proofs.Argument.Agreement.{agree_less, term_agree}

-- from its front to what it holds of a list, a replica holds the list as which that went on
holds_on : {d e : List Entry} {i : ℕ} (r : Replica) → r.log.front_term ≡ term_of d r.log.front → Agree i (whole d r.log.front r.log.entries) d → GoesOn d e → (n : ℕ) → r.log.front ≤ n → n ≤ i
    → HoldsList e n r
holds_on {d} {e} {i} r front_term a more n above less =
    let f = r.log.front in
    let W = whole d f r.log.entries in
    let within : n ≤ length d = omega (arith, a.right, less) in
    let begins : Agree n e d = record {
      left = (let l : length e ≡ length d + length more.more = ap (λ xs. length xs) more.is ∙ length-append d more.more in omega (arith, l, within));
      right = within;
      same = ap (take n) more.is ∙ take-append-le n d more.more within;
    } in
    let same : take n W ≡ take n e = (agree_less n less a).same ∙ sym begins.same in
    let place : f + (n - f) ≡ n = omega (arith, above) in
    record {
      front = above;
      front_term = front_term ∙ sym (term_agree f begins above);
      within = begins.left;
      same = ap (take (n - f)) (sym (whole_drop d f r.log.entries (omega (arith, above, within))))
          ∙ sym (drop-take f (n - f) W) ∙ ap (λ j. drop f (take j W)) place ∙ ap (drop f) same ∙ sym (ap (λ j. drop f (take j e)) place) ∙ drop-take f (n - f) e;
    }

module _ (event_kept : StaysKept) where
  -- between two moments of a group with the invariant there are one leader a term and one list
  between : {before : Group} → Kept before → (more : List LaneEvent) → AreAllowed before more → IsOneList before (run more before).group
  between {before} k more all =
      let now = (run more before).group in
      let q : Kept now = run_after event_kept [] more before all k in
      let goes : GoesOn before.decided now.decided = run_goes_on more before in
      let old = λ (u n : ℕ) (above : (replica_at before u).log.front ≤ n) (less : n ≤ (replica_at before u).commit).
      let s = k.holds.hosts u in holds_on (replica_at before u) s.based.2 s.stands.now.commit goes n above less in
      let new = λ (u n : ℕ) (above : (replica_at now u).log.front ≤ n) (less : n ≤ (replica_at now u).commit).
      let s = q.holds.hosts u in holds_on (replica_at now u) s.based.2 s.stands.now.commit (goes_none now.decided) n above less in
      record {
        leaders = λ u v t a b.
            let ms = seal u t 0 ∷ [] in
            sym (only_sealed ms now (run_after event_kept ms more before all (rw a.term at (sealed u k a.role 0 (omega arith)))) u t 0 v (inl refl) b.role b.term);
        grows = goes;
        committed_before = λ u. old u (replica_at before u).commit (k.holds.hosts u).stands.now.front (omega arith);
        committed_now = λ u. new u (replica_at now u).commit (q.holds.hosts u).stands.now.front (omega arith);
        applied_before = λ u. let s = k.holds.hosts u in old u (ripe (replica_at before u)) (omega (arith, s.stands.now.front, s.covered)) (omega arith);
        applied_now = λ u. let s = q.holds.hosts u in new u (ripe (replica_at now u)) (omega (arith, s.stands.now.front, s.covered)) (omega arith);
      }

  -- so there are between any two moments of a run from a group that has just begun
  pub one_list : OneList
  one_list number voters some first more a b = between (run_after event_kept [] first (fresh_group number voters) a (first_kept number voters some)) more b
