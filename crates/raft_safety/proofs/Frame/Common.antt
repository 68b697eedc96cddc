-- The sentences that name no host's replica, after an event at one host.
use Rattle.std.proofs.Common.{◌≡◌, ◌≢◌, ◌⊎◌, ⊎_elim, ℕ, ◌<◌, ◌≤◌, List, length, true, refl, sym, ap, ◌∙◌, subst, arith, inl, inr}
use Rattle.std.proofs.lemmas.Bool.{cases_eq}
use Rattle.host_ids.specs.declared.entry.Entry.{Entry}
use Rattle.roster.specs.Roster.{is_majority}
use Rattle.raft_model.specs.Group.{term_of}
use Rattle.raft_safety.specs.History.{Reign, History, IsLed, Agree, IsChosen}
use Rattle.raft_safety.specs.Invariant.{Common, IsReign, LaterKeep, IsDecided, IsVote, IsLost, IsBounded, IsLevel}
use Rattle.raft_safety.proofs.Argument.Agreement.{agree_sym, agree_trans, agree_less, term_agree, le_or}
use Rattle.raft_safety.proofs.Argument.Quorums.{in_both}
use Rattle.raft_safety.proofs.Frame.Extends.{Extends, extends_term}
use Rattle.raft_safety.proofs.Frame.Chosen.{chosen_grown}
use Rattle.raft_safety.proofs.Frame.Growth.{IsNew, IsLast, Grows, extends_agree, vote_grown, lost_grown}

-- a campaign that begins with this event
pub record IsBegun (k : History) (e : List Entry) (t c : ℕ) : Type 0 where
  pub terms : (n : ℕ) → n ≤ length (k.campaign t c) → (term_of (k.campaign t c) n ≤ t) ⊎ IsLost k t c
  pub floored : k.floor t c ≤ length e
  pub floor : (n : ℕ) → 0 < n → n ≤ k.floor t c → Agree n (k.campaign t c) e → (k.decided_in n ≤ t) ⊎ IsLost k t c

-- what an event adds to the sentences that name no replica
pub record Adds (voters : List ℕ) (v : ℕ) (h k : History) (d e : List Entry) (SecuredNow : ℕ → ℕ → ℕ → Type 0) : Type 0 where
  pub reigns : (S : Reign) → IsLed k.reigns S → IsNew v h S → IsReign voters k SecuredNow S
  pub later : LaterKeep k k.reigns
  pub decided : (n : ℕ) → length d < n → n ≤ length e → IsDecided voters k e n
  pub lowered : (n : ℕ) → 0 < n → n ≤ length d → ((k.decided_in n ≡ h.decided_in n) × (k.reach n ≡ h.reach n)) ⊎ IsDecided voters k e n
  pub strict : (n : ℕ) → length d < n → n ≤ length e → (R : Reign) × IsLed k.reigns R × (R.term ≡ term_of e n) × Agree n e R.log
  pub votes : (t c : ℕ) → c ≢ 0 → k.vote v t ≡ c → IsLast h v t → IsVote k e SecuredNow v t c
  pub campaigns : (t c : ℕ) → ((k.campaign t c ≡ h.campaign t c) × (k.floor t c ≡ h.floor t c)) ⊎ IsBegun k e t c
  pub levels : (t : ℕ) → IsLevel k v t
  pub bounded : (t : ℕ) → (k.told v t ≡ 0) ⊎ IsBounded k v t

module _ {voters : List ℕ} {v : ℕ} {h k : History} {d e : List Entry} {Secured SecuredNow Answers AnswersNow : ℕ → ℕ → ℕ → Type 0}
    (i : Common voters h d Secured) (g : Grows v h k d e Secured SecuredNow Answers AnswersNow) where
  -- a decided place stays decided, by the same reign
  decided_grown : {n : ℕ} → n ≤ length d → (k.decided_in n ≡ h.decided_in n) × (k.reach n ≡ h.reach n) → IsDecided voters h d n → IsDecided voters k e n
  decided_grown {n} m same q =
      let f = g.forward q.reign q.led in
      record {
        reign = f.reign;
        led = f.led;
        term = f.extends.term ∙ q.term ∙ sym same.0;
        reach = omega (arith, q.reach, same.1);
        chosen = subst (λ r. IsChosen voters k f.reign r) (sym same.1) (chosen_grown i g f.extends q.chosen);
        same = extends_agree f.extends (agree_trans (agree_less n m g.decided) q.same);
      }

  -- what holds of a reign holds of it later
  reign_grown : {R S : Reign} → IsLed k.reigns S → Extends R S → IsReign voters h Secured R → IsReign voters k SecuredNow S
  reign_grown {R} {S} led x q =
      let member = in_both voters R.quorum R.quorum q.majority q.majority in
      let campaign : k.campaign S.term S.leader ≡ h.campaign R.term R.leader =
      ap (λ t. k.campaign t S.leader) x.term ∙ ap (k.campaign R.term) x.leader ∙ (g.campaigns member.0 R.term R.leader q.some (q.votes member.0 member.1).0).0 in
      record {
        some = λ z. q.some (sym x.leader ∙ z);
        majority = subst (λ p. is_majority voters p ≡ true) (sym x.quorum) q.majority;
        votes = λ u t.
            let was : R.quorum u ≡ true = ap (λ p. p u) (sym x.quorum) ∙ t in
            let old = q.votes u was in
            subst (λ s. (k.vote u s ≡ S.leader) × SecuredNow u s S.leader) (sym x.term)
            (subst (λ c. (k.vote u R.term ≡ c) × SecuredNow u R.term c) (sym x.leader)
            (g.votes u R.term R.leader q.some (inr old.1) old.0, g.secured u R.term R.leader q.some old.1));
        begins = subst (λ C. Agree (length C) S.log C) (sym campaign)
            (let C = h.campaign R.term R.leader in agree_sym (extends_agree x (agree_sym q.begins)));
        strict = λ n a b. ⊎_elim
            (λ l.
            let r = q.strict n a l in
            let f = g.forward r.0 r.1 in (
              f.reign,
              f.led,
              f.extends.term ∙ r.2 ∙ sym (extends_term n x l),
              extends_agree f.extends (agree_trans (agree_less n l x.log) r.3),
            ))
            (λ past. (S, led, x.term ∙ sym (x.new n past b), record { left = b; right = b; same = refl }))
            (le_or n (length R.log));
        monotone = λ a b m within. ⊎_elim
            (λ l. omega (arith, q.monotone a b m l, extends_term a x (omega (arith, m, l)), extends_term b x l))
            (λ past. ⊎_elim
            (λ l. omega (arith, q.terms a l, extends_term a x l, x.new b past within))
            (λ both. omega (arith, x.new a both (omega (arith, m, within)), x.new b past within))
            (le_or a (length R.log)))
            (le_or b (length R.log));
        terms = λ n within. ⊎_elim
            (λ l. omega (arith, q.terms n l, extends_term n x l, x.term))
            (λ past. omega (arith, x.new n past within, x.term))
            (le_or n (length R.log));
      }

  -- the floor and the log of a campaign of before
  floor_grown : (t c : ℕ) {n : ℕ} → k.campaign t c ≡ h.campaign t c → k.floor t c ≡ h.floor t c → 0 < n → n ≤ k.floor t c → Agree n (k.campaign t c) e → (k.decided_in n ≤ t) ⊎ IsLost k t c
  floor_grown t c {n} same floor place m a =
      let within : n ≤ length d = omega (arith, m, floor, i.floored t c) in
      let b : Agree n (h.campaign t c) e = subst (λ C. Agree n C e) same a in
      ⊎_elim
      (λ l. inl (omega (arith, l, g.decided_in n within)))
      (λ l. inr (lost_grown i g l))
      (i.floors t c n place (omega (arith, m, floor)) (agree_trans b (agree_less n within g.decided)))

  -- the sentences that name no replica hold after an event that adds what it owes
  pub common_grown : Adds voters v h k d e SecuredNow → Common voters k e SecuredNow
  common_grown a = record {
    reigns = λ S led. ⊎_elim (λ x. reign_grown led x.extends (i.reigns x.reign x.led)) (λ new. a.reigns S led new) (g.back S led);
    later = a.later;
    decided = λ n p m. ⊎_elim (λ l. ⊎_elim (λ same. decided_grown l same (i.decided n p l)) (λ new. new) (a.lowered n p l)) (λ past. a.decided n past m) (le_or n (length d));
    strict = λ n p m. ⊎_elim
        (λ l. let r = i.strict n p l in let f = g.forward r.0 r.1 in
        let same : Agree n e d = agree_less n l g.decided in
        (f.reign, f.led, f.extends.term ∙ r.2 ∙ sym (term_agree n same (omega arith)), extends_agree f.extends (agree_trans same r.3)))
        (λ past. a.strict n past m)
        (le_or n (length d));
    votes = λ u t c some voted. ⊎_elim
        (λ old. vote_grown i g some old (i.votes u t c some old))
        (λ new. subst (λ w. k.vote w t ≡ c → IsLast h w t → IsVote k e SecuredNow w t c) (sym new.0) (a.votes t c some) voted new.1)
        (g.new_votes u t c (inl some) voted);
    campaigns = λ t c n. ⊎_elim
        (λ same. subst (λ C. n ≤ length C → (term_of C n ≤ t) ⊎ IsLost k t c) (sym same.0)
        (λ m. ⊎_elim (λ l. inl l) (λ l. inr (lost_grown i g l)) (i.campaigns t c n m)))
        (λ begun m. begun.terms n m)
        (a.campaigns t c);
    floored = λ t c. ⊎_elim (λ same. omega (arith, same.1, i.floored t c, g.decided.left)) (λ begun. begun.floored) (a.campaigns t c);
    floors = λ t c n p m x. ⊎_elim (λ same. floor_grown t c same.0 same.1 p m x) (λ begun. begun.floor n p m x) (a.campaigns t c);
    levels = λ u t. ⊎_elim (λ e. subst (λ w. IsLevel k w t) (sym e) (a.levels t))
        (λ o. let l = i.levels u t in record { answer = omega (arith, l.answer, g.answer u t o, g.saving u t o); saving = omega (arith, l.saving, g.told u t o, g.saving u t o) }) (cases_eq u v);
    bounded = λ u t. ⊎_elim (λ e. subst (λ w. (k.told w t ≡ 0) ⊎ IsBounded k w t) (sym e) (a.bounded t))
        (λ o. ⊎_elim
        (λ z. inl (g.told u t o ∙ z))
        (λ b. let f = g.forward b.reign b.led in inr (record { reign = f.reign; led = f.led; term = f.extends.term ∙ b.term; most = omega (arith, b.most, g.told u t o, f.extends.log.left) }))
        (i.bounded u t)) (cases_eq u v);
  }
