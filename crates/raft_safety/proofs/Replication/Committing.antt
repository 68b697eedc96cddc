-- A leader commits: the decided list grows, each place remembers the least term whose leader committed it, and then the commit index rises.
use Rattle.std.proofs.Common.{◌≡◌, ◌≢◌, ◌⊎◌, ⊎_elim, ℕ, zero, suc, ◌+◌, ◌-◌, ◌<◌, ◌≤◌, List, ◌++◌, length, take, drop, Bool, true, false, refl, sym, ap, ◌∙◌, subst, arith, inl, inr}
use Rattle.std.proofs.Common.{if◌then◌else◌, ◌==◌, ◌&&◌, ◌||◌}
use Rattle.std.specs.Prelude.{nat_lt, nat_le}
use Rattle.std.proofs.lemmas.Bool.{cases_Bool, ltb-true, leb-true, lt-ltb, le-leb, eqb-true, and_parts, and_from, or_cases, or_left}
use Rattle.std.proofs.lemmas.List.{length-take-le, take-take}
use Rattle.host_ids.specs.declared.entry.Entry.{Entry}
use Rattle.raft_model.specs.declared.saved.SavedState.{SavedState}
use Rattle.wire_types.specs.declared.envelope.Envelope.{Envelope}
use Rattle.raft_model.specs.declared.state.State.{State as Replica}
use Rattle.raft_model.specs.declared.role.Role.TheVariants.{Leader}
use Rattle.log_view.specs.Log.{last, term_at}
use Rattle.roster.specs.Roster.{at, is_majority}
use Rattle.raft_model.specs.Replica.{greatest, may_commit, commit_rule}
use Rattle.raft_model.specs.Group.{Group, seat, continued, term_of}
use Rattle.raft_safety.specs.History.{Reign, History, Agree, IsOwn, IsChosen, has_answered}
use Rattle.raft_safety.specs.Replicas.{whole, IsLeader}
use Rattle.raft_safety.specs.Invariant.{IsDecided, IsHost, HasAnswer}
use Rattle.raft_safety.proofs.Argument.Agreement.{agree_sym, agree_trans, agree_less, agree_none, term_agree, le_or}
use Rattle.raft_safety.proofs.Argument.Decided.{decided_fits}
use Rattle.raft_safety.proofs.Argument.Quorums.{missing}
use Rattle.raft_safety.proofs.Frame.Extends.{extends_none}
use Rattle.raft_safety.proofs.Frame.Growth.{Grows, vote_grown}
use Rattle.raft_safety.proofs.Frame.Reigns.{later_grown, aligned_same}
use Rattle.raft_safety.proofs.Frame.Common.{Adds}
use Rattle.raft_safety.proofs.Frame.Hosts.{host_grown, told_grown, whole_same}
use Rattle.raft_safety.proofs.Argument.Stretches.{take_whole, drop_more}
use Rattle.raft_safety.proofs.Argument.WholeLogs.{whole_length, whole_drop, term_whole}
use Rattle.raft_safety.proofs.Frame.Opened.{SecuredBut, Open, frame}
use Rattle.raft_safety.proofs.Frame.Words.{commit_step}
use Rattle.raft_safety.proofs.Frame.Settle.{Reached, reached, continued_none}
use Rattle.raft_safety.proofs.Replication.Laying.{take_more}
use Rattle.raft_safety.proofs.Replication.Matched.{hears, by_late, by_early, among}

module _ {g : Group} {v : ℕ} {h : History} {b : SavedState} {r : Replica} {d : List Entry} {w : List Envelope} (o : Open h g v b r d w) where
  module _ (leads : r.role ≡ Leader) where
    -- what is known of a leader
    abbrev l : IsLeader h d (HasAnswer w) v r
    l = o.mine.stands.leader leads

    -- its reign
    abbrev R : Reign
    R = l.reign

    -- which saved states secure which votes, from what the host has saved
    abbrev Sec : ℕ → ℕ → ℕ → Type 0
    Sec = SecuredBut g v b

    -- the front is decided
    fits_front : r.log.front ≤ length d
    fits_front = let n = o.mine.stands.now in omega (arith, n.front, n.commit.right)

    -- the reign's log ends where the log says
    long : length R.log ≡ last r.log
    long = ap (λ xs. length xs) l.log ∙ whole_length d r.log.front r.log.entries fits_front

    -- a place after the commit index with the leader's term is an own entry of its reign
    own_of : (n : ℕ) → r.commit < n → n ≤ last r.log → term_at r.log n ≡ r.term → IsOwn R n
    own_of n past within term =
        record {
          place = omega (arith, past);
          within = omega (arith, within, long);
          term = ap (λ xs. term_of xs n) l.log ∙ sym (term_whole d r.log n fits_front o.mine.based.2 (omega (arith, past, o.mine.stands.now.front))) ∙ term ∙ sym l.term;
        }

    -- what a majority has matched, of the leader's own: where the saved answers alone are no majority, the place was decided before
    decided_already : {n : ℕ} → IsOwn R n → is_majority g.voters (λ u. nat_le n (at r.matched u)) ≡ true → is_majority g.voters (has_answered h R n) ≡ false → Agree n R.log d
    decided_already {n} own matched few =
        let x = missing g.voters (λ u. nat_le n (at r.matched u)) (has_answered h R n) matched few in
        ⊎_elim
        (λ c. let passed : nat_le n (h.answer x.0 R.term) ≡ true = le-leb n (h.answer x.0 R.term) c in let no = x.2 in absurd (cc))
        (λ old. ⊎_elim
        (λ late. ⊎_elim
        (λ kept. by_late o leads own matched late (λ up. kept late.reign late.led up))
        (λ done. done)
        (among o leads own matched h.reigns o.common.later (λ Q q. q) (λ Q q. inl q)))
        (by_early o leads own matched)
        old)
        (hears o leads own matched x.0 x.1)

    -- the decided list, which goes on by the leader's log up to a chosen entry
    module _ {n : ℕ} (c : IsChosen g.voters h R n) {e : List Entry} (goes_on : Agree (length d) e d) (fits : (p : ℕ) → length d < p → p ≤ length e → (p ≤ n) × Agree p e R.log) where
      -- a place that the leader decides now: up to the chosen entry, and not decided before, or only by a later term
      abbrev is_new : ℕ → Bool
      is_new p = nat_le p n && (nat_lt (length d) p || nat_lt r.term (h.decided_in p))

      -- the history with the places decided now
      abbrev pub k : History
      k = record h { decided_in = λ p. if is_new p then r.term else h.decided_in p; reach = λ p. if is_new p then n else h.reach p }

      -- a place decided now is decided in the leader's term
      in_new : (p : ℕ) → is_new p ≡ true → k.decided_in p ≡ r.term
      in_new p y = ap (λ x. if x then r.term else h.decided_in p) y

      -- a place decided now is covered by the chosen entry
      reach_new : (p : ℕ) → is_new p ≡ true → k.reach p ≡ n
      reach_new p y = ap (λ x. if x then n else h.reach p) y

      -- any other place keeps its term
      in_old : (p : ℕ) → is_new p ≡ false → k.decided_in p ≡ h.decided_in p
      in_old p y = ap (λ x. if x then r.term else h.decided_in p) y

      -- any other place keeps the entry that covers it
      reach_old : (p : ℕ) → is_new p ≡ false → k.reach p ≡ h.reach p
      reach_old p y = ap (λ x. if x then n else h.reach p) y

      -- the places that were decided before are the leader's, up to what is chosen
      old_fits : (p : ℕ) → 0 < p → p ≤ length d → p ≤ n → Agree p e R.log
      old_fits p some within most = agree_trans (agree_less p within goes_on) (decided_fits o.common p l.led c some within most)

      -- a place decided now is decided by the leader
      decided_new : {p : ℕ} → is_new p ≡ true → Agree p e R.log → IsDecided g.voters k e p
      decided_new {p} new same = record {
        reign = R;
        led = l.led;
        term = l.term ∙ sym (in_new p new);
        reach = (let m = leb-true p n (and_parts (nat_le p n) (nat_lt (length d) p || nat_lt r.term (h.decided_in p)) new).0 in omega (arith, m, reach_new p new));
        chosen = subst (λ x. IsChosen g.voters k R x) (sym (reach_new p new)) (record { own = c.own; answered = c.answered });
        same = same;
      }

      -- the term that decided a place only falls
      is_lower : (p : ℕ) → p ≤ length d → k.decided_in p ≤ h.decided_in p
      is_lower p within = ⊎_elim
          (λ new.
          let y = (and_parts (nat_le p n) (nat_lt (length d) p || nat_lt r.term (h.decided_in p)) new).1 in
          ⊎_elim
          (λ past. absurd (let m = ltb-true (length d) p past in omega (arith, m, within)))
          (λ less. let m = ltb-true r.term (h.decided_in p) less in omega (arith, m, in_new p new))
          (or_cases (nat_lt (length d) p) (nat_lt r.term (h.decided_in p)) y))
          (λ old. omega (arith, in_old p old))
          (cases_Bool (is_new p))

      -- each other host keeps its part, and nothing that counts is lost
      grows : (x : ℕ) → Grows x h k d e Sec Sec (HasAnswer w) (HasAnswer w)
      grows x = record {
        decided = goes_on;
        votes = λ u t c some s voted. voted;
        new_votes = λ u t c some voted. inl voted;
        campaigns = λ u t c some voted. (refl, refl);
        forward = λ P led. record { reign = P; led = led; extends = extends_none P };
        back = λ S led. inl (record { reign = S; led = led; extends = extends_none S });
        others = λ P led other. led;
        told = λ u t other. refl;
        saving = λ u t other. refl;
        answer = λ u t other. refl;
        new_told = λ n t m. inl m;
        new_answer = λ t. omega arith;
        decided_in = is_lower;
        secured = λ u t c some s. s;
        heard = λ u t n a. a;
      }

      -- what the event adds to the sentences that name no replica holds
      adds : Adds g.voters v h k d e Sec
      adds = record {
        reigns = λ S led new. absurd (new.unled S led refl);
        later = later_grown o.common (grows v) h.reigns h.reigns (aligned_same h.reigns) (λ P led. led) o.common.later;
        decided = λ p past within.
            let f = fits p past within in
            decided_new (and_from (nat_le p n) (nat_lt (length d) p || nat_lt r.term (h.decided_in p)) (le-leb p n f.0)
            (or_left (nat_lt (length d) p) (nat_lt r.term (h.decided_in p)) (lt-ltb (length d) p past))) f.1;
        lowered = λ p some within. ⊎_elim
            (λ new. inr (decided_new new (old_fits p some within (leb-true p n (and_parts (nat_le p n) (nat_lt (length d) p || nat_lt r.term (h.decided_in p)) new).0))))
            (λ old. inl (in_old p old, reach_old p old))
            (cases_Bool (is_new p));
        strict = λ p past within.
            let f = fits p past within in
            let s = (o.common.reigns R l.led).strict p (omega (arith, past)) f.1.right in
            (s.0, s.1, s.2 ∙ sym (term_agree p f.1 (omega arith)), agree_trans f.1 s.3);
        votes = λ t c some voted last. vote_grown o.common (grows v) some voted (o.common.votes v t c some voted);
        campaigns = λ t c. inl (refl, refl);
        levels = λ t. let y = o.common.levels v t in record { answer = y.answer; saving = y.saving };
        bounded = λ t. ⊎_elim (λ z. inl z) (λ y. inr (record { reign = y.reign; led = y.led; term = y.term; most = y.most })) (o.common.bounded v t);
      }

      -- the decided list goes on, and no host changes
      pub decide_step : Open k g v b r e w
      decide_step =
          let off : v ≢ v + 1 = λ z. omega (arith, z) in
          let mine = λ (u : ℕ) (at_u : u ≡ v). subst (λ u. IsHost h d Sec (HasAnswer w) u b r) (sym at_u) o.mine in
          frame o (record {
            grows = grows v;
            adds = adds;
            mine = host_grown o.common (grows (v + 1)) off o.mine;
            told = λ m on from t. told_grown o.common (grows (v + 1)) (λ z. omega (arith, z, from)) (mine m.from from) t;
            sent = λ m on. inl on;
          })

      -- then the commit index rises to the chosen entry
      pub raise_step : r.commit ≤ n → 0 < n → n ≤ length e → Open k g v b (record r { commit = n }) e w
      raise_step more some within =
          let X = whole e r.log.front r.log.entries in
          let same : R.log ≡ X = l.log ∙ whole_same o.common (grows v) r.log.front r.log.entries fits_front in
          let agree : Agree n e R.log = ⊎_elim (λ old. old_fits n some old (omega arith)) (λ past. (fits n past within).1) (le_or n (length d)) in
          commit_step more (subst (λ xs. Agree n xs e) same (agree_sym agree))
          decide_step

    -- the leader with a new commit index
    abbrev raised : ℕ → Replica
    raised n = record r { commit = n }

    -- what is decided is in the leader's log, where a later place of it is chosen
    list_fits : {n : ℕ} → IsChosen g.voters h R n → length d < n → Agree (length d) d R.log
    list_fits c past = ⊎_elim
        (λ none. let z : 0 ≡ length d = omega (arith, none) in subst (λ m. Agree m d R.log) z (agree_none d R.log))
        (λ some. decided_fits o.common (length d) l.led c some (omega arith) (omega (arith, past)))
        (le_or (length d) 0)

    -- the list goes on by the leader's log itself
    list_on : {n : ℕ} → IsChosen g.voters h R n → length d < n → n ≤ length R.log → continued d (raised n) ≡ take n R.log
    list_on {n} c past within =
        let begins = list_fits c past in
        let test : (nat_lt (length d) n && nat_le r.log.front (length d)) ≡ true = and_from (nat_lt (length d) n) (nat_le r.log.front (length d)) (lt-ltb (length d) n past)
        (le-leb r.log.front (length d) fits_front) in
        let place : r.log.front + (length d - r.log.front) ≡ length d = omega (arith, fits_front) in
        let all : length d + (n - length d) ≡ n = omega (arith, past) in
        ap (λ x. (let es : List Entry = if x then d ++ take (n - length d) (drop (length d - r.log.front) r.log.entries) else d in es)) test
        ∙ ap (λ xs. d ++ take (n - length d) (drop (length d - r.log.front) xs)) (sym (whole_drop d r.log.front r.log.entries fits_front))
        ∙ ap (λ xs. d ++ take (n - length d) xs)
        (sym (drop_more r.log.front (length d - r.log.front) (whole d r.log.front r.log.entries)) ∙ ap (λ j. drop j (whole d r.log.front r.log.entries)) place)
        ∙ ap (λ xs. d ++ take (n - length d) (drop (length d) xs)) (sym l.log)
        ∙ ap (λ xs. xs ++ take (n - length d) (drop (length d) R.log)) (sym (take_whole (length d) d (omega arith)) ∙ begins.same)
        ∙ take_more (length d) (n - length d) R.log
        ∙ ap (λ m. take m R.log) all

    -- the commit index rises to a chosen entry
    pub rise_step : {n : ℕ} → r.commit ≤ n → IsChosen g.voters h R n → Reached g v b d w (raised n)
    rise_step {n} more c =
        let some = c.own.place in
        ⊎_elim
        (λ old. record {
          history = k c (record { left = omega arith; right = omega arith; same = refl }) (λ p past within. absurd (omega (arith, past, within)));
          holds = subst (λ e. Open (k c (record { left = omega arith; right = omega arith; same = refl }) (λ p past within. absurd (omega (arith, past, within)))) g v b (raised n) e w)
              (sym (continued_none d (raised n) old))
              (raise_step c (record { left = omega arith; right = omega arith; same = refl }) (λ p past within. absurd (omega (arith, past, within))) more some old);
        })
        (λ past.
        let e = take n R.log in
        let len : length e ≡ n = length-take-le n R.log c.own.within in
        let goes_on : Agree (length d) e d = record {
          left = omega (arith, len, past);
          right = omega arith;
          same = take-take (length d) n R.log (omega (arith, past)) ∙ sym (list_fits c past).same;
        } in
        let fits : (p : ℕ) → length d < p → p ≤ length e → (p ≤ n) × Agree p e R.log = λ p _ within.
        (omega (arith, within, len), record { left = within; right = omega (arith, within, len, c.own.within); same = take-take p n R.log (omega (arith, within, len)) }) in
        record {
          history = k c goes_on fits;
          holds = subst (λ xs. Open (k c goes_on fits) g v b (raised n) xs w) (sym (list_on c past c.own.within)) (raise_step c goes_on fits more some (omega (arith, len)));
        })
        (le_or n (length d))

    -- the greatest that passes is the lowest, or passes
    greatest_or : (p : ℕ → Bool) (low m : ℕ) → (greatest p low m ≡ low) ⊎ ((p (greatest p low m) ≡ true) × (low < greatest p low m) × (greatest p low m ≤ low + m))
    greatest_or p low zero = inl refl
    greatest_or p low (suc m) =
        let ih = greatest_or p low m in
        elim (p (low + suc m)) as (λ x. p (low + suc m) ≡ x → (let n : ℕ = if x then low + suc m else greatest p low m in (n ≡ low) ⊎ ((p n ≡ true) × (low < n) × (n ≤ low + suc m)))) [
          | true ↦ λ y. inr (y, omega arith, omega arith)
          | false ↦ λ y. ⊎_elim (λ z. inl z) (λ z. inr (z.0, z.1, omega (arith, z.2))) ih
        ] refl

    -- the commit rule, wherever a leader meets it
    pub commit_rule_step : Reached g v b d w (commit_rule (seat g v) r)
    commit_rule_step =
        let p = may_commit g.voters r.matched r.log r.term in
        let m = last r.log - r.commit in
        ⊎_elim
        (λ same. subst (λ n. Reached g v b d w (raised n)) (sym same) (reached o))
        (λ rises.
        let n = greatest p r.commit m in
        let parts = and_parts (is_majority g.voters (λ u. nat_le n (at r.matched u))) (term_at r.log n == r.term) rises.0 in
        let own : IsOwn R n = own_of n rises.1 (omega (arith, rises.1, rises.2)) (eqb-true (term_at r.log n) r.term parts.1) in
        elim (is_majority g.voters (has_answered h R n)) as (λ x. is_majority g.voters (has_answered h R n) ≡ x → Reached g v b d w (raised n)) [
          | true ↦ λ e. rise_step (omega (arith, rises.1)) (record { own = own; answered = e })
          | false ↦ λ e. reached (commit_step (omega (arith, rises.1)) (subst (λ xs. Agree n xs d) l.log (decided_already own parts.0 e)) o)
        ] refl)
        (greatest_or p r.commit m)
