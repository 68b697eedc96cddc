-- A host votes in its term.
use Rattle.std.proofs.Common.{◌≡◌, ◌≢◌, ⊎_elim, ℕ, ◌≤◌, List, [], ◌∷◌, refl, sym, ap, ◌∙◌, subst, arith, inl, inr}
use Rattle.host_ids.specs.declared.entry.Entry.{Entry}
use Rattle.raft_model.specs.declared.saved.SavedState.{SavedState}
use Rattle.wire_types.specs.declared.envelope.Envelope.{Envelope}
use Rattle.wire_types.specs.declared.envelope.Body.{Body}
use Rattle.wire_types.specs.declared.envelope.Body.TheVariants as bodies
use Rattle.raft_model.specs.declared.state.State.{State as Replica}
use Rattle.raft_model.specs.Group.{Group}
use Rattle.raft_safety.specs.History.{History}
use Rattle.raft_safety.specs.Replicas.{Stage, of_batch, of_replica, to_be_saved, IsSound}
use Rattle.raft_safety.specs.Envelopes.{Tells, TellsAll}
use Rattle.raft_safety.specs.Invariant.{IsVote, IsHost, HasAnswer}
use Rattle.raft_safety.proofs.Frame.Extends.{extends_none}
use Rattle.raft_safety.proofs.Frame.Growth.{Grows, within_grown, vote_grown}
use Rattle.raft_safety.proofs.Frame.Common.{Adds}
use Rattle.raft_safety.proofs.Frame.Hosts.{sound_grown, tells_grown, tells_all_grown}
use Rattle.raft_safety.proofs.Frame.Opened.{SecuredBut, Open, frame}
use Rattle.raft_safety.proofs.Frame.Reigns.{later_grown, aligned_same}
use Rattle.raft_safety.proofs.Frame.Tables.{at_pair, at_there, at_elsewhere, pair_cases}

-- what an envelope tells of a host that has voted for nobody, it tells of the host after its vote
pub tells_voted : (h : History) (d : List Entry) (Ans : ℕ → ℕ → ℕ → Type 0) (level : ℕ → ℕ → ℕ) (from to t : ℕ) (body : Body) (x : Stage) (c : ℕ) → x.vote ≡ 0 → Tells h d Ans level from to t body x
    → Tells h d Ans level from to t body (record x { vote = c })
tells_voted h d Ans level from to t (bodies.Vote l lt) x c free q = record {
  some = q.some;
  vote = q.vote;
  secured = ⊎_elim (λ m. inl m) (λ p. absurd (q.some (sym p.1 ∙ free))) q.secured;
  length = q.length;
  last = q.last;
}
tells_voted h d Ans level from to t (bodies.VoteReply granted) x c free q = λ yes. let a = q yes in record {
  some = a.some;
  vote = a.vote;
  secured = ⊎_elim (λ m. inl m) (λ p. absurd (a.some (sym p.1 ∙ free))) a.secured;
}
tells_voted h d Ans level from to t (bodies.Append prev pt n es) x c free q = q
tells_voted h d Ans level from to t (bodies.AppendReply ok n) x c free q = λ yes. let a = q yes in record { since = a.since; present = a.present; counts = a.counts }
tells_voted h d Ans level from to t (bodies.Beat n round) x c free q = q
tells_voted h d Ans level from to t (bodies.BeatReply round) x c free q = tt
tells_voted h d Ans level from to t (bodies.SnapChunk index lt number count size bytes) x c free q = q
tells_voted h d Ans level from to t (bodies.SnapReply n want all) x c free q = λ yes. let a = q yes in record { committed = a.committed; counts = a.counts }
tells_voted h d Ans level from to t (bodies.Propose key p) x c free q = tt
tells_voted h d Ans level from to t (bodies.ReadAsk key) x c free q = tt
tells_voted h d Ans level from to t (bodies.ReadAnswer key n) x c free q = tt

-- so do all envelopes in hand
pub all_voted : (h : History) (d : List Entry) (Ans : ℕ → ℕ → ℕ → Type 0) (level : ℕ → ℕ → ℕ) (v : ℕ) (es : List Envelope) (x : Stage) (c : ℕ) → x.vote ≡ 0 → TellsAll h d Ans level v es x
    → TellsAll h d Ans level v es (record x { vote = c })
all_voted h d Ans level v [] x c free q = tt
all_voted h d Ans level v (m ∷ ms) x c free q = (q.0, tells_voted h d Ans level v m.to m.term m.body x c free q.1, all_voted h d Ans level v ms x c free q.2)

-- a host that has voted for nobody in its term votes for a campaign that holds what it holds
module _ {g : Group} {v : ℕ} {h : History} {b : SavedState} {r : Replica} {d : List Entry} {w : List Envelope} (c : ℕ) (some : c ≢ 0) (free : r.vote ≡ 0) (o : Open h g v b r d w) where
  -- the history with this vote
  abbrev pub casting : History
  casting = record h { vote = at_pair v r.term c h.vote }

  -- which saved states secure which votes, from what the host has saved
  abbrev S : ℕ → ℕ → ℕ → Type 0
  S = SecuredBut g v b

  -- who has answered on the wire, in which term, for which place
  abbrev A : ℕ → ℕ → ℕ → Type 0
  A = HasAnswer w

  -- no other vote is touched: the host had none in this term
  kept : (u t x : ℕ) → x ≢ 0 → h.vote u t ≡ x → casting.vote u t ≡ x
  kept u t x some old =
      ⊎_elim
      (λ p. absurd (some (sym old ∙ ap (h.vote u) p.second ∙ ap (λ y. h.vote y r.term) p.first ∙ o.mine.stands.later r.term (inr (refl, free)))))
      (λ n. at_elsewhere v r.term c h.vote u t n ∙ old)
      (pair_cases v r.term u t)

  -- each other host keeps its part, and nothing that counts is lost
  grows : Grows v h casting d d S S A A
  grows = record {
    decided = record { left = omega arith; right = omega arith; same = refl };
    votes = λ u t x some s e. kept u t x some e;
    new_votes = λ u t x some e. ⊎_elim
        (λ p. inr (p.first, λ s l. ap (λ y. h.vote y s) p.first ∙ o.mine.stands.later s (inl (omega (arith, l, p.second)))))
        (λ n. inl (sym (at_elsewhere v r.term c h.vote u t n) ∙ e))
        (pair_cases v r.term u t);
    campaigns = λ u t x some e. (refl, refl);
    forward = λ R led. record { reign = R; led = led; extends = extends_none R };
    back = λ R led. inl (record { reign = R; led = led; extends = extends_none R });
    others = λ R led other. led;
    told = λ u t other. refl;
    saving = λ u t other. refl;
    answer = λ u t other. refl;
    new_told = λ n t m. inl m;
    new_answer = λ t. omega arith;
    decided_in = λ n m. omega arith;
    secured = λ u t x some s. s;
    heard = λ u t n a. a;
  }

  -- what made the vote right still does once it is written down
  vote_now : IsVote h d S v r.term c → IsVote casting d S v r.term c
  vote_now q = record {
    secured = q.secured;
    matches = within_grown o.common grows (h.campaign r.term c) (h.floor r.term c) q.matches;
    saw = λ unled R n k below. q.saw unled R n (record { led = k.led; own = k.own; most = k.most; safe = k.safe }) below;
  }

  -- what the event adds to the sentences that name no replica holds
  adds : IsVote h d S v r.term c → Adds g.voters v h casting d d S
  adds q = record {
    reigns = λ R led new. absurd (new.unled R led refl);
    later = later_grown o.common grows h.reigns h.reigns (aligned_same h.reigns) (λ R led. led) o.common.later;
    decided = λ n a b. absurd (omega (arith, a, b));
    lowered = λ n a b. inl (refl, refl);
    strict = λ n a b. absurd (omega (arith, a, b));
    votes = λ t x some voted last. ⊎_elim
        (λ p.
        let e : c ≡ x = sym (at_there v r.term c h.vote) ∙ ap (casting.vote v) (sym p.second) ∙ voted in
        subst (λ y. IsVote casting d S v t y) e (subst (λ s. IsVote casting d S v s c) (sym p.second) (vote_now q)))
        (λ n. let old : h.vote v t ≡ x = sym (at_elsewhere v r.term c h.vote v t n) ∙ voted in
        vote_grown o.common grows some old (o.common.votes v t x some old))
        (pair_cases v r.term v t);
    campaigns = λ t x. inl (refl, refl);
    levels = λ t. let l = o.common.levels v t in record { answer = l.answer; saving = l.saving };
    bounded = λ t. ⊎_elim (λ z. inl z) (λ x. inr (record { reign = x.reign; led = x.led; term = x.term; most = x.most })) (o.common.bounded v t);
  }

  -- what any envelope told, it still tells
  tells : (level : ℕ → ℕ → ℕ) (from to t : ℕ) (body : Body) (x : Stage) → Tells h d A level from to t body x → Tells casting d A level from to t body x
  tells level from to t body x = tells_grown o.common grows level level from (kept from) (λ t. omega arith) to t body x

  -- what all envelopes in hand told, they still tell
  all : (level : ℕ → ℕ → ℕ) (es : List Envelope) (x : Stage) → TellsAll h d A level v es x → TellsAll casting d A level v es x
  all level es x = tells_all_grown o.common grows level level v (kept v) (λ t. omega arith) es x

  -- a stage that was sound is so still
  sound : {level : ℕ → ℕ → ℕ} → ((t : ℕ) → level v t ≤ h.told v t) → {x : Stage} → IsSound h d level v x → IsSound casting d level v x
  sound {level} below {x} = sound_grown o.common grows level (kept v) (λ t. refl) below x

  -- the host's part holds, with its vote
  host : IsHost casting d S A v b (record r { vote = c })
  host =
      let a = o.mine in
      let s = a.stands in
      let k = s.taken in
      let n = sound (λ t. omega arith) s.now in
      record {
        stands = record {
          saved = sound (λ t. let l = o.common.levels v t in omega (arith, l.answer, l.saving)) s.saved;
          saving = sound (λ t. (o.common.levels v t).saving) s.saving;
          now = record { front = n.front; commit = n.commit; vote = λ some. at_there v r.term c h.vote; matches = n.matches; terms = n.terms; keeps = n.keeps; ahead = n.ahead };
          first = s.first;
          second = record { term = s.second.term; vote = λ e x. absurd (x (sym (s.second.vote e x) ∙ free)); commit = s.second.commit; front = s.second.front };
          later = λ t f. ⊎_elim
              (λ l. at_elsewhere v r.term c h.vote v t (λ p. omega (arith, l, p.second)) ∙ s.later t (inl l))
              (λ p. absurd (some p.1)) f;
          taken = k;
          stable = s.stable;
          ends = s.ends;
          from = s.from;
          on_disk = s.on_disk;
          candidate = λ e. let x = s.candidate e in absurd (x.some (sym x.vote ∙ free));
          leader = λ e. let l = s.leader e in record {
            reign = l.reign;
            led = l.led;
            term = l.term;
            leader = l.leader;
            log = l.log;
            told = l.told;
            saving = l.saving;
            mine = l.mine;
            own = l.own;
            matched = l.matched;
          };
        };
        held = all h.told r.held (of_replica d (record r { vote = c })) (all_voted h d A h.told v r.held (of_replica d r) c free a.held);
        waiting = λ p e. let x = a.waiting p e in (
          all h.saving p.envelopes (of_batch d (to_be_saved b r)) x.0,
          all h.saving p.envelopes (of_replica d (record r { vote = c })) (all_voted h d A h.saving v p.envelopes (of_replica d r) c free x.1),
        );
        inbox = a.inbox;
        covered = a.covered;
        based = a.based;
      }

  -- a vote is cast
  pub vote_step : IsVote h d S v r.term c → Open casting g v b (record r { vote = c }) d w
  vote_step q =
      frame o (record {
        grows = grows;
        adds = adds q;
        mine = host;
        told = λ m on from t. record {
          saved = tells h.answer m.from m.to m.term m.body (of_batch d b) t.saved;
          saving = tells h.answer m.from m.to m.term m.body (of_batch d (to_be_saved b r)) t.saving;
          now = tells h.answer m.from m.to m.term m.body (of_replica d (record r { vote = c })) (tells_voted h d A h.answer m.from m.to m.term m.body (of_replica d r) c free t.now);
        };
        sent = λ m on. inl on;
      })
