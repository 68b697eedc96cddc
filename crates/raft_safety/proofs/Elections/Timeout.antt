-- The row of Timeout: a candidate votes for itself and asks for votes with the log of its campaign.
use Rattle.std.proofs.Common.{◌≡◌, ◌≢◌, ℕ, ◌+◌, ◌<◌, List, length, refl, sym, ◌∙◌, subst, arith, ◌||◌}
use Rattle.host_ids.specs.declared.entry.Entry.{Entry}
use Rattle.raft_model.specs.declared.saved.SavedState.{SavedState}
use Rattle.wire_types.specs.declared.envelope.Envelope.{Envelope}
use Rattle.raft_model.specs.declared.role.Role.TheVariants.{Follower}
use Rattle.raft_model.specs.declared.state.State.{State as Replica}
use Rattle.roster.specs.Roster.{none_set}
use Rattle.raft_model.specs.Group.{Group, seat}
use Rattle.raft_model.specs.Replica.{is_full, is_leader}
use Rattle.raft_model.specs.Voting.{campaigned, asked_votes}
use Rattle.raft_safety.specs.History.{Reign, History, IsLed, MatchesWithin}
use Rattle.raft_safety.specs.Replicas.{whole}
use Rattle.raft_safety.specs.Invariant.{IsVote, Saw}
use Rattle.raft_safety.proofs.Argument.Quorums.{in_both}
use Rattle.raft_safety.proofs.Frame.Opened.{SecuredBut, Open}
use Rattle.raft_safety.proofs.Frame.Words.{term_step, rest, rest_step}
use Rattle.raft_safety.proofs.Frame.Settle.{Reached, reached, either_row}
use Rattle.raft_safety.proofs.Laws.Owed.{TimeoutRow}
use Rattle.raft_safety.proofs.Elections.Casting.{casting, vote_step}
use Rattle.raft_safety.proofs.Elections.Standing.{stand_step, asked_step}
use Rattle.raft_safety.proofs.Elections.Campaigns.{campaigning, campaign_step, no_votes}
use Rattle.raft_safety.proofs.Frame.Tables.{at_there}

-- the term rises by one, with a vote for itself
module _ {g : Group} {v : ℕ} {h : History} {b : SavedState} {r : Replica} {d : List Entry} {w : List Envelope} (some : v ≢ 0) (o : Open h g v b r d w) where
  -- the term that is entered
  abbrev t : ℕ
  t = r.term + 1

  -- it is above the host's term
  above : r.term < t
  above = omega arith

  -- the host's whole log: the decided places up to its front, then its entries
  abbrev log : List Entry
  log = whole d r.log.front r.log.entries

  -- the history with the campaign
  abbrev h1 : History
  h1 = campaigning t above some o

  -- the replica in the new term, before its vote
  abbrev q : Replica
  q = record r { term = t; vote = 0; role = Follower; leader = 0; granted = none_set }

  -- the host enters the term
  raised : Open h1 g v b q d w
  raised =
      let a = term_step t above (campaign_step t above some o) in
      rest_step (record (rest q) { reads = r.reads }) a a.mine.held (λ e. absurd (cc)) (λ e. absurd (cc)) a.mine.inbox

  -- the campaign is with the host's own log
  own_log : h1.campaign t v ≡ log
  own_log = at_there t v log h.campaign

  -- the host may vote for itself: its own log holds what it holds
  may : IsVote h1 d (SecuredBut g v b) v t v
  may =
      let n = raised.mine.stands.now in
      record {
        secured = λ other. absurd (other refl);
        matches = subst (λ m. MatchesWithin h1 d m (h1.campaign t v)) (sym (at_there t v (length d) h.floor))
            (subst (MatchesWithin h1 d (length d)) (sym own_log) (λ i place m. let x = (n.matches i place m).0 in (x, x.front.right)));
        saw = λ unled R i k below. let x = n.keeps R i k in
            subst (Saw R i) (sym own_log) (record { there = x.there; last = x.clean (length log) x.there.left (omega arith) });
      }

  -- the history with its vote for itself
  abbrev h2 : History
  h2 = casting v some refl raised

  -- it doesn't lead this term: nobody had voted for it
  unled : (R : Reign) → IsLed h.reigns R → R.term ≡ t → R.leader ≢ v
  unled R led same leader =
      let x = o.common.reigns R led in
      let both = in_both g.voters R.quorum R.quorum x.majority x.majority in
      no_votes t above some o both.0 (subst (λ s. h.vote both.0 s ≡ v) same ((x.votes both.0 both.1).0 ∙ leader))

  -- the host stands for election
  standing : Open h2 g v b (campaigned (seat g v) r) d w
  standing = stand_step some refl (at_there v t v h1.vote) own_log unled (vote_step v some refl raised may)

  -- and asks each other voter for its vote
  timed_out : Reached g v b d w (asked_votes (seat g v) (campaigned (seat g v) r))
  timed_out = reached (asked_step refl standing)

-- the row of Timeout keeps the invariant
pub timeout_row : TimeoutRow
timeout_row g v h b r d w some o = either_row (is_full r || is_leader r) _ _ (λ _. reached o) (λ _. timed_out some o)
