-- How the sentences stay true while the history, the decided list and the wire grow by an event at one host.
use Rattle.std.proofs.Common.{◌≡◌, ◌≢◌, ◌⊎◌, ⊎_elim, ℕ, ◌<◌, ◌≤◌, List, length, drop, Bool, true, false, refl, sym, ap, ◌∙◌, subst, arith, inl, inr}
use Rattle.std.proofs.lemmas.Bool.{cases_eq}
use Rattle.host_ids.specs.declared.entry.Entry.{Entry}
use Rattle.raft_model.specs.Group.{term_of}
use Rattle.raft_safety.specs.History.{Reign, History, IsLed, Agree, SameFrom, IsOwn, IsSafe, IsStrict, Matches, MatchesAt, MatchesWithin, Keeps, Counts, HoldsUpTo, IsLate, IsOld}
use Rattle.raft_safety.specs.Invariant.{Common, IsVote, Saw, IsLost}
use Rattle.raft_safety.proofs.Argument.Agreement.{agree_sym, agree_trans, agree_less, term_agree, le_or}
use Rattle.raft_safety.proofs.Argument.Decided.{same_reign}
use Rattle.raft_safety.proofs.Frame.Extends.{Extends, extends_term}

-- among these reigns a reign stands, perhaps longer
pub record Later (reigns : List Reign) (R : Reign) : Type 0 where
  pub reign : Reign
  pub led : IsLed reigns reign
  pub extends : Extends R reign

-- among these reigns a reign stood, perhaps shorter
pub record Earlier (reigns : List Reign) (S : Reign) : Type 0 where
  pub reign : Reign
  pub led : IsLed reigns reign
  pub extends : Extends reign S

-- a reign of a host that was just elected: nobody led its term, and its order is the greatest
pub record IsNew (v : ℕ) (h : History) (S : Reign) : Type 0 where
  pub leader : S.leader ≡ v
  pub unled : (R : Reign) → IsLed h.reigns R → R.term ≢ S.term
  pub order : (R : Reign) → IsLed h.reigns R → R.order < S.order

-- a term is led by nobody
abbrev pub IsUnled : History → ℕ → Type 0
IsUnled h t = (R : Reign) → IsLed h.reigns R → R.term ≢ t

-- a host has voted in no term above
abbrev pub IsLast : History → ℕ → ℕ → Type 0
IsLast h u t = (s : ℕ) → t < s → h.vote u s ≡ 0

-- what an event at host v may do to the history, the decided list, what is secured and what is answered
pub record Grows (v : ℕ) (h k : History) (d e : List Entry) (Secured SecuredNow Answers AnswersNow : ℕ → ℕ → ℕ → Type 0) : Type 0 where
  pub decided : Agree (length d) e d
  pub votes : (u t c : ℕ) → c ≢ 0 → (u ≢ v) ⊎ Secured u t c → h.vote u t ≡ c → k.vote u t ≡ c
  pub new_votes : (u t c : ℕ) → (c ≢ 0) ⊎ (u ≢ v) → k.vote u t ≡ c → (h.vote u t ≡ c) ⊎ ((u ≡ v) × IsLast h u t)
  pub campaigns : (u t c : ℕ) → c ≢ 0 → h.vote u t ≡ c → (k.campaign t c ≡ h.campaign t c) × (k.floor t c ≡ h.floor t c)
  pub forward : (R : Reign) → IsLed h.reigns R → Later k.reigns R
  pub back : (S : Reign) → IsLed k.reigns S → Earlier h.reigns S ⊎ IsNew v h S
  pub others : (R : Reign) → IsLed h.reigns R → R.leader ≢ v → IsLed k.reigns R
  pub told : (u t : ℕ) → u ≢ v → k.told u t ≡ h.told u t
  pub saving : (u t : ℕ) → u ≢ v → k.saving u t ≡ h.saving u t
  pub answer : (u t : ℕ) → u ≢ v → k.answer u t ≡ h.answer u t
  pub new_told : (n t : ℕ) → n ≤ k.told v t → (n ≤ h.told v t) ⊎ IsLast h v t
  pub new_answer : (t : ℕ) → h.answer v t ≤ k.answer v t
  pub decided_in : (n : ℕ) → n ≤ length d → k.decided_in n ≤ h.decided_in n
  pub secured : (u t c : ℕ) → c ≢ 0 → Secured u t c → SecuredNow u t c
  pub heard : (u t i : ℕ) → Answers u t i → AnswersNow u t i

-- a test that can't be passed is failed
pub never_true : (b : Bool) → (b ≡ true → ⊥) → b ≡ false
never_true true wrong = absurd (wrong refl)
never_true false wrong = refl

-- a list that agrees with a reign's log agrees with it later
pub extends_agree : {R S : Reign} {n : ℕ} {X : List Entry} → Extends R S → Agree n X R.log → Agree n X S.log
extends_agree {R} {S} {n} {X} x a = agree_trans a (agree_sym (agree_less n a.right x.log))

-- a place of the reign's own term that was within its log was of its own term before
pub extends_own : {R S : Reign} {n : ℕ} → Extends R S → IsOwn S n → n ≤ length R.log → IsOwn R n
extends_own {R} {S} {n} x own m = record { place = own.place; within = m; term = sym (extends_term n x m) ∙ own.term ∙ x.term }

-- a place of the reign's own term stays one
pub own_extends : {R S : Reign} {n : ℕ} → Extends R S → IsOwn R n → IsOwn S n
own_extends {R} {S} {n} x own = record { place = own.place; within = omega (arith, own.within, x.log.left); term = extends_term n x own.within ∙ own.term ∙ sym x.term }

-- a place that is safe among later reigns was safe before, if it was there
pub safe_back : (rs ss : List Reign) {R S : Reign} {n : ℕ} → ((Q : Reign) → IsLed rs Q → Later ss Q) → Extends R S → IsOwn S n → n ≤ length R.log → IsSafe ss S n → IsSafe rs R n
safe_back rs ss {R} {S} {n} forward x own m safe Q led above =
    let f = forward Q led in
    let g : Agree n f.reign.log S.log = safe f.reign f.led (omega (arith, above, x.term, f.extends.term)) in
    ⊎_elim
    (λ l. agree_trans (agree_trans (agree_sym (agree_less n l f.extends.log)) g) (agree_less n m x.log))
    (λ past.
    let a : term_of f.reign.log n ≡ Q.term = f.extends.new n past g.left in
    let b : term_of f.reign.log n ≡ term_of S.log n = term_agree n g (omega arith) in
    absurd (omega (arith, a, b, own.term, x.term, above)))
    (le_or n (length Q.log))

-- what a host counts as held it counted before
pub record CountedBefore (h : History) (level : ℕ → ℕ → ℕ) (u n : ℕ) (S : Reign) : Type 0 where
  pub reign : Reign
  pub counts : Counts h level u reign n
  pub extends : Extends reign S

-- an old answer is one for fewer places too
pub old_less : (h : History) (d : List Entry) (v t n i : ℕ) → n ≤ i → IsOld h d v t i → IsOld h d v t n
old_less h d v t n i m y = ⊎_elim
    (λ x. inl (record { reign = x.reign; led = x.led; above = x.above; decided = agree_less n m x.decided; outside = x.outside }))
    (λ x. inr (record { place = x.place; most = omega (arith, m, x.most); some = x.some; within = x.within; below = x.below }))
    y

module _ {voters : List ℕ} {v : ℕ} {h k : History} {d e : List Entry} {Secured SecuredNow Answers AnswersNow : ℕ → ℕ → ℕ → Type 0}
    (i : Common voters h d Secured) (g : Grows v h k d e Secured SecuredNow Answers AnswersNow) where
  -- what agreed with the decided list agrees with the longer one
  pub agree_decided : {n : ℕ} {X : List Entry} → Agree n X d → Agree n X e
  agree_decided {n} {X} a = agree_trans a (agree_sym (agree_less n a.right g.decided))

  -- a stretch shared with a reign's log is shared with it later
  pub same_from_longer : {j n : ℕ} {X : List Entry} {R S : Reign} → Extends R S → SameFrom j n X R.log → SameFrom j n X S.log
  same_from_longer {j} {n} {R} {S} x s = record {
    reaches = omega (arith, s.reaches, x.log.left);
    same = s.same ∙ ap (drop j) (sym (agree_less n s.reaches x.log).same);
  }

  -- a log still matches at a place
  pub matches_at_grown : {X : List Entry} {n : ℕ} → MatchesAt h d X n → MatchesAt k e X n
  matches_at_grown {X} {n} m = record {
    decided = m.decided;
    most = m.most;
    front = agree_decided m.front;
    rest = λ l. let r = m.rest l in let f = g.forward r.0 r.1 in (f.reign, f.led, f.extends.term ∙ r.2, same_from_longer f.extends r.3);
  }

  -- a log still matches at each place
  pub matches_grown : (X : List Entry) → Matches h d X → Matches k e X
  matches_grown X m n a b = matches_at_grown (m n a b)

  -- and needs no more decided places than before
  pub within_grown : (X : List Entry) (most : ℕ) → MatchesWithin h d most X → MatchesWithin k e most X
  unfolding matches_at_grown
  within_grown X most m n a b = let w = m n a b in (matches_at_grown w.0, w.1)

  -- what was answered is held still
  pub holds_grown : {limit : ℕ} {X : List Entry} {t n : ℕ} → HoldsUpTo h d limit X t n → HoldsUpTo k e limit X t n
  holds_grown {X} {n} m = record {
    within = m.within;
    decided = m.decided;
    most = m.most;
    limited = m.limited;
    front = agree_decided m.front;
    rest = λ l. let r = m.rest l in let f = g.forward r.0 r.1 in (f.reign, f.led, f.extends.term ∙ r.2, same_from_longer f.extends r.3);
  }

  -- a strict list stays strict
  pub strict_grown : (L : List Entry) → IsStrict h L → IsStrict k L
  strict_grown L s n a b = let r = s n a b in let f = g.forward r.0 r.1 in (f.reign, f.led, f.extends.term ∙ r.2, extends_agree f.extends r.3)

  -- what was told reaches only into a log of before
  pub told_in : (u n : ℕ) (R : Reign) → IsLed h.reigns R → 0 < n → n ≤ h.told u R.term → n ≤ length R.log
  told_in u n R led place most =
      ⊎_elim
      (λ z. absurd (omega (arith, z, place, most)))
      (λ b. let same : b.reign ≡ R = same_reign i b.reign R b.led led b.term in
      let l : length b.reign.log ≡ length R.log = ap (λ (S : Reign). length S.log) same in
      omega (arith, l, b.most, most))
      (i.bounded u R.term)

  -- nothing was told of a reign that is new
  pub told_new : (u n : ℕ) {S : Reign} → IsNew v h S → 0 < n → n ≤ h.told u S.term → ⊥
  told_new u n {S} new place most = ⊎_elim (λ z. omega (arith, z, place, most)) (λ b. new.unled b.reign b.led b.term) (i.bounded u S.term)

  -- what counts now counted before, at the level of before
  pub counted_at : {before : ℕ → ℕ → ℕ} {u : ℕ} → ((t : ℕ) → before u t ≤ h.told u t) → {S : Reign} {n : ℕ} → Counts k before u S n → CountedBefore h before u n S
  counted_at {before} {u} below {S} {n} c =
      ⊎_elim
      (λ x.
      let most : n ≤ before u x.reign.term = (let q : before u S.term ≡ before u x.reign.term = ap (before u) x.extends.term in omega (arith, q, c.most)) in
      let m : n ≤ length x.reign.log = told_in u n x.reign x.led c.own.place (omega (arith, most, below x.reign.term)) in
      record {
        reign = x.reign;
        extends = x.extends;
        counts = record { led = x.led; own = extends_own x.extends c.own m; most = most; safe = safe_back h.reigns k.reigns g.forward x.extends c.own m c.safe };
      })
      (λ new. absurd (told_new u n new c.own.place (omega (arith, c.most, below S.term))))
      (g.back S c.led)

  -- so too where the level is another one with the same numbers
  pub counted_back : {now : ℕ → ℕ → ℕ} (before : ℕ → ℕ → ℕ) {u : ℕ} → ((t : ℕ) → now u t ≡ before u t) → ((t : ℕ) → before u t ≤ h.told u t) → {S : Reign} {n : ℕ} → Counts k now u S n
      → CountedBefore h before u n S
  counted_back before {u} same below {S} {n} c =
      counted_at below (record { led = c.led; own = c.own; most = omega (arith, c.most, same S.term); safe = c.safe })

  -- what is told now was told before, or the host has voted in no term above
  pub told_back : (u n t : ℕ) → n ≤ k.told u t → (n ≤ h.told u t) ⊎ IsLast h u t
  told_back u n t m = ⊎_elim (λ e. subst (λ w. n ≤ k.told w t → (n ≤ h.told w t) ⊎ IsLast h w t) (sym e) (g.new_told n t) m) (λ o. inl (omega (arith, m, g.told u t o))) (cases_eq u v)

  -- no answer is taken back
  pub answer_more : (u t : ℕ) → h.answer u t ≤ k.answer u t
  answer_more u t = ⊎_elim (λ e. subst (λ w. h.answer w t ≤ k.answer w t) (sym e) (g.new_answer t)) (λ o. omega (arith, g.answer u t o)) (cases_eq u v)

  -- a host that has voted in no term above is in no quorum above
  pub outside : (u t : ℕ) → IsLast h u t → (R : Reign) → IsLed h.reigns R → t < R.term → R.quorum u ≡ true → ⊥
  outside u t last R led above in_quorum = let r = i.reigns R led in r.some (sym (r.votes u in_quorum).0 ∙ last R.term above)

  -- a log that keeps what a reign holds keeps it later
  pub keeps_extended : {R S : Reign} {n : ℕ} {X : List Entry} → Extends R S → Keeps R n X → Keeps S n X
  keeps_extended {R} {S} {n} {X} x q = record { there = extends_agree x q.there; clean = λ j a b. omega (arith, q.clean j a b, x.term) }

  -- what was seen of a reign is seen later
  pub saw_extended : {R S : Reign} {n : ℕ} {C : List Entry} → Extends R S → Saw R n C → Saw S n C
  saw_extended {R} {S} {n} {C} x q = record { there = extends_agree x q.there; last = omega (arith, q.last, x.term) }

  -- a vote of before stays as it was
  pub vote_grown : {u t c : ℕ} → c ≢ 0 → h.vote u t ≡ c → IsVote h d Secured u t c → IsVote k e SecuredNow u t c
  vote_grown {u} {t} {c} some voted q =
      let same = g.campaigns u t c some voted in
      record {
        secured = λ o. g.secured c t c some (q.secured o);
        matches = subst (λ m. MatchesWithin k e m (k.campaign t c)) (sym same.1) (subst (λ C. MatchesWithin k e (h.floor t c) C) (sym same.0) (within_grown (h.campaign t c) (h.floor t c) q.matches));
        saw = λ unled S n counts below.
            let before : IsUnled h t = λ R led e. (let f = g.forward R led in unled f.reign f.led (f.extends.term ∙ e)) in
            ⊎_elim
            (λ most.
            let b = counted_at (λ t. omega arith) (record { led = counts.led; own = counts.own; most = most; safe = counts.safe }) in
            subst (λ C. Saw S n C) (sym same.0) (saw_extended b.extends (q.saw before b.reign n b.counts (omega (arith, below, b.extends.term)))))
            (λ last. absurd (some (sym voted ∙ last t below)))
            (told_back u n S.term counts.most);
      }

  -- a lost campaign stays lost
  pub lost_grown : {t c : ℕ} → IsLost h t c → IsLost k t c
  lost_grown {t} {c} q =
      let f = g.forward q.reign q.led in
      record {
        reign = f.reign;
        led = f.led;
        later = omega (arith, q.later, f.extends.term);
        outside = λ some u voted.
            let same : f.reign.quorum u ≡ q.reign.quorum u = ap (λ p. p u) f.extends.quorum in
            same ∙ ⊎_elim (λ old. q.outside some u old) (λ new. never_true (q.reign.quorum u) (outside u t new.1 q.reign q.led q.later)) (g.new_votes u t c (inl some) voted);
      }

  -- a late answer stays one
  pub late_grown : {u t n : ℕ} → IsLate h.reigns d u t n → IsLate k.reigns e u t n
  late_grown {u} {n} q =
      let f = g.forward q.reign q.led in
      let R = q.reign in
      record {
        reign = f.reign;
        led = f.led;
        above = omega (arith, q.above, f.extends.term);
        decided = extends_agree f.extends (agree_sym (agree_decided (agree_sym q.decided)));
        outside = λ S led above order. ⊎_elim
            (λ x.
            let same : S.quorum u ≡ x.reign.quorum u = ap (λ p. p u) x.extends.quorum in
            same ∙ q.outside x.reign x.led (omega (arith, above, x.extends.term)) (omega (arith, order, x.extends.order, f.extends.order)))
            (λ new. absurd (omega (arith, order, f.extends.order, new.order R q.led)))
            (g.back S led);
      }

  -- an old answer stays one
  pub old_grown : (u t n : ℕ) → IsOld h d u t n → IsOld k e u t n
  old_grown u t n q = ⊎_elim
      (λ x. inl (late_grown x))
      (λ x. inr (record { place = x.place; most = x.most; some = x.some; within = omega (arith, x.within, g.decided.left); below = omega (arith, x.below, g.decided_in x.place x.within) }))
      q
