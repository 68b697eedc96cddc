-- What a batch's being saved leads to leaves the pending batch where it is.
use Rattle.std.proofs.Common.{◌≡◌, ◌∙◌, ℕ, List, [], ◌∷◌, ◌-◌, ◌+◌, refl}
use Rattle.std.proofs.lemmas.Bool.{cond_both}
use Rattle.std.specs.Prelude.{◌==◌, ◌&&◌, nat_lt, nat_le, slice_set, if◌then◌else◌}
use Rattle.host_ids.specs.declared.proposal.Proposal.TheVariants as proposals
use Rattle.wire_types.specs.declared.envelope.Body.TheVariants as bodies
use Rattle.raft_model.specs.declared.state.State.{State as Replica}
use Rattle.log_view.specs.Log.{last, term_at, slice}
use Rattle.roster.specs.Roster.{Seat, at}
use Rattle.raft_model.specs.Replica.{each_other, sent, append_to, appended, is_leader, crowned, lead, no_key, commit_rule}
use Rattle.raft_model.specs.Saving.{own_match}

each_stays : (me : ℕ) (f : ℕ → Replica → Replica) → ((v : ℕ) (r : Replica) → (f v r).pending ≡ r.pending) → (vs : List ℕ) (r : Replica) → (each_other me f vs r).pending ≡ r.pending
each_stays me f k [] r = refl
each_stays me f k (v ∷ vs) r = each_stays me f k vs (if v == me then r else f v r) ∙ cond_both (v == me) r (f v r) (λ q. q.pending ≡ r.pending) (λ _. refl) (λ _. k v r)

append_to_stays : (s : Seat) (v : ℕ) (r : Replica) → (append_to s v r).pending ≡ r.pending
append_to_stays s v r =
    cond_both (nat_lt r.log.front (at r.next v) && nat_le (at r.next v) (last r.log + 1)) (sent s v (bodies.Append (at r.next v - 1) (term_at r.log (at r.next v - 1)) r.commit (slice r.log (at r.next v) 64)) r) r (λ q. q.pending ≡ r.pending) (λ _. refl) (λ _. refl)

pub lead_stays : (s : Seat) (r : Replica) → (lead s r).replica.pending ≡ r.pending
lead_stays s r = each_stays s.me (append_to s) (append_to_stays s) s.voters (appended no_key proposals.Blank (crowned s r))

pub own_match_stays : (s : Seat) (r : Replica) → (own_match s r).pending ≡ r.pending
own_match_stays s r = cond_both (is_leader r) (commit_rule s (record r { matched = slice_set r.matched s.me r.stable })) r (λ q. q.pending ≡ r.pending) (λ _. refl) (λ _. refl)
