-- A crash at one host: what it holds gives way to what it has saved, and what it told and voted above that is taken back.
use Rattle.std.proofs.Common.{◌≡◌, ◌≢◌, ⊎_elim, ℕ, ◌+◌, ◌-◌, ◌<◌, ◌≤◌, List, refl, sym, ap, ◌∙◌, subst, arith, inl, inr, ◌==◌, if◌then◌else◌, None, Some}
use Rattle.std.specs.Prelude.{nat_lt}
use Rattle.std.proofs.lemmas.Bool.{cases_eq, cases_order, eq-eqb, ne_eqb, lt-ltb, le-ltb}
use Rattle.host_ids.specs.declared.entry.Entry.{Entry}
use Rattle.raft_model.specs.declared.saved.SavedState.{SavedState}
use Rattle.wire_types.specs.declared.envelope.Envelope.{Envelope}
use Rattle.wire_types.specs.declared.envelope.Body.{Body}
use Rattle.wire_types.specs.declared.envelope.Body.TheVariants as bodies
use Rattle.log_view.specs.Log.{last}
use Rattle.raft_model.specs.declared.state.State.{State as Replica}
use Rattle.raft_model.specs.Replica.{fresh}
use Rattle.raft_model.specs.Restarting.{log_of}
use Rattle.raft_model.specs.Group.{Group}
use Rattle.raft_safety.specs.History.{History}
use Rattle.raft_safety.specs.Replicas.{of_batch, of_replica, IsSecured, IsSound, IsSavedTo}
use Rattle.raft_safety.specs.Envelopes.{Tells}
use Rattle.raft_safety.specs.Invariant.{HasAnswer}
use Rattle.raft_safety.proofs.Frame.Extends.{extends_none}
use Rattle.raft_safety.proofs.Frame.Growth.{Grows, within_grown, holds_grown, vote_grown}
use Rattle.raft_safety.proofs.Frame.Common.{Adds}
use Rattle.raft_safety.proofs.Frame.Hosts.{of_leader_grown}
use Rattle.raft_safety.proofs.Frame.Opened.{SecuredBut, Open, frame}
use Rattle.raft_safety.proofs.Frame.Reigns.{later_grown, aligned_same}
use Rattle.raft_safety.proofs.Argument.WholeLogs.{whole_length, from_saved}
use Rattle.raft_safety.proofs.Frame.Tables.{at_host, at_mine, at_other}

-- of a host's votes a crash leaves those of terms below the saved one, and the saved one
abbrev pub left_votes : ℕ → ℕ → (ℕ → ℕ) → ℕ → ℕ
left_votes term vote votes t = if nat_lt term t then 0 else (if t == term then vote else votes t)

-- above the saved term no vote is left
votes_above : (term vote : ℕ) (votes : ℕ → ℕ) (t : ℕ) → term < t → left_votes term vote votes t ≡ 0
votes_above term vote votes t m = ap (λ x. if x then 0 else (if t == term then vote else votes t)) (lt-ltb term t m)

-- in the saved term the saved vote is left
votes_there : (term vote : ℕ) (votes : ℕ → ℕ) (t : ℕ) → t ≡ term → left_votes term vote votes t ≡ vote
votes_there term vote votes t e =
    ap (λ x. if x then 0 else (if t == term then vote else votes t)) (le-ltb term t (omega (arith, e)))
    ∙ ap (λ x. if x then vote else votes t) (eq-eqb t term e)

-- below the saved term all votes are left
votes_below : (term vote : ℕ) (votes : ℕ → ℕ) (t : ℕ) → t < term → left_votes term vote votes t ≡ votes t
votes_below term vote votes t m =
    ap (λ x. if x then 0 else (if t == term then vote else votes t)) (le-ltb term t (omega (arith, m)))
    ∙ ap (λ x. if x then vote else votes t) (ne_eqb t term (λ e. omega (arith, e, m)))

-- the replica that starts from what it has saved alone
abbrev pub left_replica : SavedState → Replica
left_replica b = record fresh {
  term = b.term;
  vote = b.vote;
  log = log_of b;
  commit = b.commit;
  stable = last (log_of b);
  from = last (log_of b) + 1;
  taken = record { term = b.term; vote = b.vote; commit = b.commit; front = b.front };
}

module _ {g : Group} {v : ℕ} {h : History} {b : SavedState} {r : Replica} {d : List Entry} {w : List Envelope} (o : Open h g v b r d w) where
  -- the history after the crash: what the host told and voted without saving is forgotten
  abbrev pub crashed : History
  crashed = record h { vote = at_host v (left_votes b.term b.vote (h.vote v)) h.vote; told = at_host v (h.answer v) h.told; saving = at_host v (h.answer v) h.saving }

  -- the replica that starts
  abbrev q : Replica
  q = left_replica b

  -- the history after the crash
  abbrev k : History
  k = crashed

  -- which saved states secure which votes, from what the host has saved
  abbrev S : ℕ → ℕ → ℕ → Type 0
  S = SecuredBut g v b

  -- who has answered on the wire, in which term, for which place
  abbrev A : ℕ → ℕ → ℕ → Type 0
  A = HasAnswer w

  -- what is known of the saved stage
  s : IsSound h d h.answer v (of_batch d b)
  s = o.mine.stands.saved

  -- what is answered for was told
  less : (t : ℕ) → h.answer v t ≤ h.told v t
  less t = let l = o.common.levels v t in omega (arith, l.answer, l.saving)

  -- after the crash the host told what it has answered for
  told_is : (t : ℕ) → k.told v t ≡ h.answer v t
  told_is t = at_mine v (h.answer v) h.told t

  -- and that is all that is being saved
  saving_is : (t : ℕ) → k.saving v t ≡ h.answer v t
  saving_is t = at_mine v (h.answer v) h.saving t

  -- its votes are those that the crash leaves
  mine_is : (t : ℕ) → k.vote v t ≡ left_votes b.term b.vote (h.vote v) t
  mine_is t = at_mine v (left_votes b.term b.vote (h.vote v)) h.vote t

  -- a vote that the saved state secures is left
  kept_mine : (t x : ℕ) → IsSecured b.term b.vote t x → h.vote v t ≡ x → k.vote v t ≡ x
  kept_mine t x sec old =
      mine_is t ∙ ⊎_elim
      (λ m. votes_below b.term b.vote (h.vote v) t m ∙ old)
      (λ p. votes_there b.term b.vote (h.vote v) t (sym p.0) ∙ p.1)
      sec

  -- a vote that is left was one before
  from_mine : (t x : ℕ) → x ≢ 0 → k.vote v t ≡ x → h.vote v t ≡ x
  from_mine t x some now =
      let is : left_votes b.term b.vote (h.vote v) t ≡ x = sym (mine_is t) ∙ now in
      ⊎_elim
      (λ e.
      let y : b.vote ≡ x = sym (votes_there b.term b.vote (h.vote v) t e) ∙ is in
      ap (h.vote v) e ∙ s.vote (λ z. some (sym y ∙ z)) ∙ y)
      (λ off. ⊎_elim
      (λ m. sym (votes_below b.term b.vote (h.vote v) t m) ∙ is)
      (λ m. absurd (some (sym is ∙ votes_above b.term b.vote (h.vote v) t m)))
      off)
      (cases_order t b.term)

  -- each other host keeps its part, and nothing that counts is lost
  grows : Grows v h k d d S S A A
  grows = record {
    decided = record { left = omega arith; right = omega arith; same = refl };
    votes = λ u t x some guard old. ⊎_elim
        (λ e. subst (λ y. h.vote y t ≡ x → k.vote y t ≡ x) (sym e)
        (kept_mine t x (⊎_elim (λ n. absurd (n e)) (λ sec. ⊎_elim (λ m. m.1) (λ m. absurd (m.0 e)) sec) guard)) old)
        (λ n. at_other v (left_votes b.term b.vote (h.vote v)) h.vote u t n ∙ old)
        (cases_eq u v);
    new_votes = λ u t x guard now. inl (⊎_elim
        (λ e. subst (λ y. k.vote y t ≡ x → h.vote y t ≡ x) (sym e) (from_mine t x (⊎_elim (λ some. some) (λ n. absurd (n e)) guard)) now)
        (λ n. sym (at_other v (left_votes b.term b.vote (h.vote v)) h.vote u t n) ∙ now)
        (cases_eq u v));
    campaigns = λ u t x some e. (refl, refl);
    forward = λ R led. record { reign = R; led = led; extends = extends_none R };
    back = λ R led. inl (record { reign = R; led = led; extends = extends_none R });
    others = λ R led other. led;
    told = λ u t other. at_other v (h.answer v) h.told u t other;
    saving = λ u t other. at_other v (h.answer v) h.saving u t other;
    answer = λ u t other. refl;
    new_told = λ n t m. inl (omega (arith, m, told_is t, less t));
    new_answer = λ t. omega arith;
    decided_in = λ n m. omega arith;
    secured = λ u t x some y. y;
    heard = λ u t n a. a;
  }

  -- what the event adds to the sentences that name no replica holds
  adds : Adds g.voters v h k d d S
  adds = record {
    reigns = λ R led new. absurd (new.unled R led refl);
    later = later_grown o.common grows h.reigns h.reigns (aligned_same h.reigns) (λ R led. led) o.common.later;
    decided = λ n x y. absurd (omega (arith, x, y));
    lowered = λ n x y. inl (refl, refl);
    strict = λ n x y. absurd (omega (arith, x, y));
    votes = λ t x some voted last. let old = from_mine t x some voted in vote_grown o.common grows some old (o.common.votes v t x some old);
    campaigns = λ t x. inl (refl, refl);
    levels = λ t. record { answer = omega (arith, saving_is t); saving = omega (arith, saving_is t, told_is t) };
    bounded = λ t. ⊎_elim
        (λ z. inl (omega (arith, z, told_is t, less t)))
        (λ x. inr (record { reign = x.reign; led = x.led; term = x.term; most = omega (arith, x.most, told_is t, less t) }))
        (o.common.bounded v t);
  }

  -- the saved stage is sound at each of the three levels, which are one now
  sound : (now : ℕ → ℕ → ℕ) → ((t : ℕ) → now v t ≡ h.answer v t) → IsSound k d now v (of_batch d b)
  sound now same = record {
    front = s.front;
    commit = s.commit;
    vote = λ some. mine_is b.term ∙ votes_there b.term b.vote (h.vote v) b.term refl;
    matches = within_grown o.common grows (of_batch d b).log b.commit s.matches;
    terms = s.terms;
    keeps = λ R n x. s.keeps R n (record { led = x.led; own = x.own; most = omega (arith, x.most, same R.term); safe = x.safe });
    ahead = λ t m. same t ∙ s.ahead t m;
  }

  -- what is on the wire tells of what was saved, and so it does still
  tells : (from to t : ℕ) (body : Body) → from ≡ v → Tells h d A h.answer from to t body (of_batch d b) → Tells k d A k.answer from to t body (of_batch d b)
  tells from to t (bodies.Vote l lt) e x = record {
    some = x.some;
    vote = subst (λ y. h.vote y t ≡ from → k.vote y t ≡ from) (sym e) (kept_mine t from x.secured) x.vote;
    secured = x.secured;
    length = x.length;
    last = x.last;
  }
  tells from to t (bodies.VoteReply granted) e x = λ yes. let a = x yes in record {
    some = a.some;
    vote = subst (λ y. h.vote y t ≡ to → k.vote y t ≡ to) (sym e) (kept_mine t to a.secured) a.vote;
    secured = a.secured;
  }
  tells from to t (bodies.Append prev pt n es) e x = of_leader_grown o.common grows x
  tells from to t (bodies.AppendReply ok n) e x = λ yes. let a = x yes in record {
    since = a.since;
    present = λ same. holds_grown o.common grows (a.present same);
    counts = a.counts;
  }
  tells from to t (bodies.Beat n round) e x = (of_leader_grown o.common grows x.0, x.1)
  tells from to t (bodies.BeatReply round) e x = tt
  tells from to t (bodies.SnapChunk index lt number count size bytes) e x = x
  tells from to t (bodies.SnapReply n want all) e x = λ yes. let a = x yes in record { committed = a.committed; counts = a.counts }
  tells from to t (bodies.Propose key p) e x = tt
  tells from to t (bodies.ReadAsk key) e x = tt
  tells from to t (bodies.ReadAnswer key n) e x = tt

  -- a host crashes, and stands as its saved state does
  pub crash_step : Open k g v b q d w
  crash_step =
      let same : IsSavedTo (last (log_of b)) (of_batch d b) (of_replica d q) = all_saved in
      frame o (record {
        grows = grows;
        adds = adds;
        mine = record {
          stands = record {
            saved = sound k.answer (λ t. refl);
            saving = sound k.saving saving_is;
            now = sound k.told told_is;
            first = record { term = omega arith; vote = λ e some. refl; commit = omega arith; front = omega arith };
            second = record { term = omega arith; vote = λ e some. refl; commit = omega arith; front = omega arith };
            later = λ t free. mine_is t ∙ ⊎_elim
                (λ m. votes_above b.term b.vote (h.vote v) t m)
                (λ p. votes_there b.term b.vote (h.vote v) t (sym p.0) ∙ p.1)
                free;
            taken = record { term = refl; vote = refl; commit = refl; front = refl; tail = inr (inl (omega arith)) };
            stable = omega arith;
            ends = omega arith;
            from = (let n : last (log_of b) + 1 - 1 ≡ last (log_of b) = omega arith in subst (λ i. IsSavedTo i (of_batch d b) (of_replica d q)) (sym n) same);
            on_disk = same;
            candidate = λ e. absurd (cc);
            leader = λ e. absurd (cc);
          };
          held = tt;
          waiting = λ p e. absurd (cc);
          inbox = λ y is. absurd (let z : None ≡ Some y = is in (cc));
          covered = omega arith;
          based = (o.mine.based.0, o.mine.based.0, o.mine.based.0);
        };
        told = λ m on from t.
            let x = tells m.from m.to m.term m.body from t.saved in
            record { saved = x; saving = x; now = x };
        sent = λ m on. inl on;
      })
    where
      all_saved : IsSavedTo (last (log_of b)) (of_batch d b) (of_replica d q)
      all_saved =
          let s = o.mine.stands.saved in
          let l = whole_length d b.front b.entries (omega (arith, s.front, s.commit.right)) in
          from_saved (omega (arith, l)) (inr (omega (arith, l), record { reaches = omega (arith, l); same = refl }))
