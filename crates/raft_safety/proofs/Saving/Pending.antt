-- What happens at Saved looks at no pending batch: it may be taken off first.
use Rattle.std.proofs.Common.{◌≡◌, ℕ, ◌+◌, List, [], ◌∷◌, Bool, true, false, refl, sym, ap, ◌∙◌, ◌==◌, ◌&&◌, if◌then◌else◌, Option, None}
use Rattle.std.specs.Prelude.{nat_lt, nat_le, slice_set}
use Rattle.host_ids.specs.declared.batch.Batch.{Batch}
use Rattle.host_ids.specs.declared.proposal.Proposal.TheVariants as proposals
use Rattle.raft_model.specs.declared.state.State.{State as Replica}
use Rattle.raft_model.specs.declared.state.Pending.{Pending}
use Rattle.roster.specs.Roster.{Seat, at, is_set, is_majority}
use Rattle.log_view.specs.Log.{last}
use Rattle.raft_model.specs.Replica.{Row, quiet, is_leader, append_to, each_other, appended, no_key, crowned, lead, commit_rule}
use Rattle.raft_model.specs.Voting.{granted_by}
use Rattle.raft_model.specs.Saving.{counts_own, own_vote, own_match, stabilised, saved_batch}

-- what is done to one of two things is done to either
of_either : {A B : Type 0} (f : A → B) (test : Bool) (x y : A) → (if test then f x else f y) ≡ f (if test then x else y)
of_either f true x y = refl
of_either f false x y = refl

-- nothing of this looks at what is pending
module _ (s : Seat) (x : Option Pending) where
  -- a replica with this pending batch
  abbrev but : Replica → Replica
  but r = record r { pending = x }

  -- to send a voter entries doesn't look at it
  append_to_pending : (u : ℕ) (r : Replica) → append_to s u (but r) ≡ but (append_to s u r)
  append_to_pending u r = of_either but (nat_lt r.log.front (at r.next u) && nat_le (at r.next u) (last r.log + 1)) _ r

  -- to send each other voter entries doesn't look at it
  each_pending : (us : List ℕ) (r : Replica) → each_other s.me (append_to s) us (but r) ≡ but (each_other s.me (append_to s) us r)
  each_pending [] r = refl
  each_pending (u ∷ us) r =
      ap (each_other s.me (append_to s) us) (ap (λ q. if u == s.me then but r else q) (append_to_pending u r) ∙ of_either but (u == s.me) r (append_to s u r))
      ∙ each_pending us (if u == s.me then r else append_to s u r)

  -- to count a grant doesn't look at it
  granted_pending : (u : ℕ) (r : Replica) → (granted_by s u (but r)).replica ≡ but (granted_by s u r).replica
  granted_pending u r =
      let q = record r { granted = slice_set r.granted u true } in
      let test = is_majority s.voters (is_set q.granted) in
      sym (of_either (λ (z : Row). z.replica) test (lead s (but q)) (quiet (but q)))
      ∙ ap (λ y. if test then y else but q) (each_pending s.voters (appended no_key proposals.Blank (crowned s q)))
      ∙ of_either (λ (z : Row). but z.replica) test (lead s q) (quiet q)

  -- a candidate that counts its own vote doesn't look at it
  own_vote_pending : (p : Batch) (r : Replica) → (own_vote s p (but r)).replica ≡ but (own_vote s p r).replica
  own_vote_pending p r =
      let test = counts_own s p r in
      sym (of_either (λ (z : Row). z.replica) test (granted_by s s.me (but r)) (quiet (but r)))
      ∙ ap (λ y. if test then y else but r) (granted_pending s.me r)
      ∙ of_either (λ (z : Row). but z.replica) test (granted_by s s.me r) (quiet r)

  -- a leader that counts what it has saved doesn't look at it
  own_match_pending : (r : Replica) → own_match s (but r) ≡ but (own_match s r)
  own_match_pending r = of_either but (is_leader r) (commit_rule s (record r { matched = slice_set r.matched s.me r.stable })) r

-- Saved is as if the pending batch were taken off first
pub saved_pending : (s : Seat) (p : Batch) (r : Replica) → (saved_batch s p r).replica ≡ own_match s (own_vote s p (record (stabilised p r) { pending = None })).replica
saved_pending s p r =
    let q = stabilised p r in
    sym (own_match_pending s None (own_vote s p q).replica) ∙ ap (own_match s) (sym (own_vote_pending s None p q))
