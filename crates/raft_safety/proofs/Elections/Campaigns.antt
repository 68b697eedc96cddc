-- A campaign is recorded before its candidate votes for it.
use Rattle.std.proofs.Common.{◌≡◌, ◌≢◌, ◌⊎◌, ⊎_elim, ℕ, zero, suc, ◌+◌, ◌<◌, ◌≤◌, List, length, refl, sym, ◌∙◌, subst, arith, inl, inr}
use Rattle.std.proofs.lemmas.Bool.{cases_eq}
use Rattle.host_ids.specs.declared.entry.Entry.{Entry}
use Rattle.raft_model.specs.declared.saved.SavedState.{SavedState}
use Rattle.wire_types.specs.declared.envelope.Envelope.{Envelope}
use Rattle.raft_model.specs.declared.state.State.{State as Replica}
use Rattle.raft_model.specs.Group.{Group, term_of}
use Rattle.raft_safety.specs.History.{History}
use Rattle.raft_safety.specs.Replicas.{whole}
use Rattle.raft_safety.specs.Invariant.{IsLost, IsDecided, IsHost, HasAnswer}
use Rattle.raft_safety.proofs.Frame.Extends.{extends_none}
use Rattle.raft_safety.proofs.Frame.Growth.{Grows, vote_grown}
use Rattle.raft_safety.proofs.Frame.Common.{Adds, IsBegun}
use Rattle.raft_safety.proofs.Frame.Hosts.{host_grown, told_grown}
use Rattle.raft_safety.proofs.Frame.Opened.{SecuredBut, Open, frame}
use Rattle.raft_safety.proofs.Frame.Reigns.{later_grown, aligned_same}
use Rattle.raft_safety.proofs.Argument.Agreement.{term_agree, le_or}
use Rattle.raft_safety.proofs.Frame.Tables.{at_pair, IsPair, at_there, at_elsewhere, pair_cases}

module _ {g : Group} {v : ℕ} {h : History} {b : SavedState} {r : Replica} {d : List Entry} {w : List Envelope} (t : ℕ) (above : r.term < t) (some : v ≢ 0) (o : Open h g v b r d w) where
  -- which saved states secure which votes, from what the host has saved
  abbrev S : ℕ → ℕ → ℕ → Type 0
  S = SecuredBut g v b

  -- who has answered on the wire, in which term, for which place
  abbrev A : ℕ → ℕ → ℕ → Type 0
  A = HasAnswer w

  -- the host's whole log: the decided places up to its front, then its entries
  abbrev log : List Entry
  log = whole d r.log.front r.log.entries

  -- the whole log at the timeout, and how many places were decided then
  abbrev pub campaigning : History
  campaigning = record h { campaign = at_pair t v log h.campaign; floor = at_pair t v (length d) h.floor }

  -- a host has saved no term above its own
  saved_below : (s c : ℕ) → r.term < s → S v s c → ⊥
  saved_below s c more sec =
      let f = o.mine.stands.first.term in
      let n = o.mine.stands.second.term in
      ⊎_elim
      (λ m. ⊎_elim (λ l. omega (arith, l, f, n, more)) (λ p. omega (arith, p.0, f, n, more)) m.1)
      (λ m. m.0 refl)
      sec

  -- nobody has voted for it in a term above its own
  pub no_votes : (u : ℕ) → h.vote u t ≡ v → ⊥
  no_votes u voted =
      ⊎_elim
      (λ e. some (sym (subst (λ y. h.vote y t ≡ v) e voted) ∙ o.mine.stands.later t (inl above)))
      (λ n. saved_below t v above ((o.common.votes u t v some voted).secured (λ e. n (sym e))))
      (cases_eq u v)

  -- every other campaign keeps its log and its floor
  same_campaign : (s c : ℕ) → (IsPair t v s c → ⊥) → (campaigning.campaign s c ≡ h.campaign s c) × (campaigning.floor s c ≡ h.floor s c)
  same_campaign s c n = (at_elsewhere t v log h.campaign s c n, at_elsewhere t v (length d) h.floor s c n)

  -- each other host keeps its part, and nothing that counts is lost
  grows : (x : ℕ) → Grows x h campaigning d d S S A A
  grows x = record {
    decided = record { left = omega arith; right = omega arith; same = refl };
    votes = λ u s c some x e. e;
    new_votes = λ u s c some e. inl e;
    campaigns = λ u s c some e. same_campaign s c (λ p. no_votes u (subst (λ y. h.vote u y ≡ v) p.first (e ∙ p.second)));
    forward = λ R led. record { reign = R; led = led; extends = extends_none R };
    back = λ R led. inl (record { reign = R; led = led; extends = extends_none R });
    others = λ R led other. led;
    told = λ u s other. refl;
    saving = λ u s other. refl;
    answer = λ u s other. refl;
    new_told = λ n s m. inl m;
    new_answer = λ s. omega arith;
    decided_in = λ n m. omega arith;
    secured = λ u s c some x. x;
    heard = λ u s n a. a;
  }

  -- a place that a term above decided: then a term above was led, without its votes
  lost : (k : ℕ) → 0 < k → k ≤ length d → (term_of d k ≤ t) × (h.decided_in k ≤ t) ⊎ IsLost campaigning t v
  lost k place within =
      let q : IsDecided g.voters h d k = o.common.decided k place within in
      ⊎_elim
      (λ low.
      let e : term_of d k ≡ term_of q.reign.log k = term_agree k q.same (omega arith) in
      inl (omega (arith, e, low, (o.common.reigns q.reign q.led).terms k q.same.right), omega (arith, low, q.term)))
      (λ high. inr (record { reign = q.reign; led = q.led; later = high; outside = λ c u voted. absurd (no_votes u voted) }))
      (le_or q.reign.term t)

  -- the campaign's log is of terms up to its own, and what it holds of the decided list was decided by then, or it has lost
  begun : IsBegun campaigning d t v
  begun =
      let C : campaigning.campaign t v ≡ log = at_there t v log h.campaign in
      let F : campaigning.floor t v ≡ length d = at_there t v (length d) h.floor in
      record {
        terms = λ n m. subst (λ X. n ≤ length X → (term_of X n ≤ t) ⊎ IsLost campaigning t v) (sym C) (terms n) m;
        floored = omega (arith, F);
        floor = λ n place m a. ⊎_elim (λ l. inl l.1) (λ l. inr l) (lost n place a.right);
      }
    where
      terms : (n : ℕ) → n ≤ length log → (term_of log n ≤ t) ⊎ IsLost campaigning t v
      terms zero m = inl (omega arith)
      terms (suc n) m =
          ⊎_elim
          (λ l. inl (omega (arith, l, above)))
          (λ a. let e : term_of log (suc n) ≡ term_of d (suc n) = term_agree (suc n) a (omega arith) in
          ⊎_elim (λ l. inl (omega (arith, e, l.0))) (λ l. inr l) (lost (suc n) (omega arith) a.right))
          (o.mine.stands.now.terms (suc n) (omega arith) m)

  -- what the event adds to the sentences that name no replica holds
  adds : Adds g.voters v h campaigning d d S
  adds = record {
    reigns = λ R led new. absurd (new.unled R led refl);
    later = later_grown o.common (grows v) h.reigns h.reigns (aligned_same h.reigns) (λ R led. led) o.common.later;
    decided = λ n x y. absurd (omega (arith, x, y));
    lowered = λ n x y. inl (refl, refl);
    strict = λ n x y. absurd (omega (arith, x, y));
    votes = λ s c some voted last. vote_grown o.common (grows v) some voted (o.common.votes v s c some voted);
    campaigns = λ s c. ⊎_elim
        (λ p. inr (subst (λ y. IsBegun campaigning d s y) (sym p.second) (subst (λ y. IsBegun campaigning d y v) (sym p.first) begun)))
        (λ n. inl (same_campaign s c n))
        (pair_cases t v s c);
    levels = λ s. let l = o.common.levels v s in record { answer = l.answer; saving = l.saving };
    bounded = λ s. ⊎_elim (λ z. inl z) (λ x. inr (record { reign = x.reign; led = x.led; term = x.term; most = x.most })) (o.common.bounded v s);
  }

  -- what a campaign is to ask with may be written down, before its host enters the term
  pub campaign_step : Open campaigning g v b r d w
  campaign_step =
      frame o (record {
        grows = grows v;
        adds = adds;
        mine = host_grown o.common (grows (v + 1)) (λ e. omega (arith, e)) o.mine;
        told = λ m on from x. told_grown o.common (grows (v + 1)) (λ e. omega (arith, e, from)) (subst (λ y. IsHost h d S A y b r) (sym from) o.mine) x;
        sent = λ m on. inl on;
      })
