-- The log with which a term comes to be led is strict: each of its entries is of a term that was led, and up to it the log is that leader's.
use Rattle.std.proofs.Common.{Bool, ◌≡◌, ◌≢◌, ⊎_elim, ℕ, zero, suc, ◌<◌, ◌≤◌, List, length, true, false, sym, ◌∙◌, subst, arith}
use Rattle.std.proofs.lemmas.Bool.{cases_order, leb-true}
use Rattle.host_ids.specs.declared.entry.Entry.{Entry}
use Rattle.roster.specs.Roster.{is_set, is_majority}
use Rattle.raft_model.specs.Group.{term_of}
use Rattle.raft_safety.specs.History.{Reign, History, IsLed, Agree, has_answered, IsSafe, IsStrict, Counts}
use Rattle.raft_safety.specs.Replicas.{IsCampaigning}
use Rattle.raft_safety.specs.Invariant.{Common, IsVote, IsDecided, IsLost, Saw}
use Rattle.raft_safety.proofs.Argument.Quorums.{in_both}
use Rattle.raft_safety.proofs.Argument.Chosen.{safe_among}
use Rattle.raft_safety.proofs.Argument.Agreement.{agree_sym, agree_trans, agree_less, agree_none, term_agree, glue, less_or_same}
use Rattle.raft_safety.proofs.Argument.Decided.{same_reign}

-- a list is strict where it agrees with a strict one in all its places
pub strict_along : (h : History) {a b : List Entry} → Agree (length a) a b → IsStrict h b → IsStrict h a
strict_along h {a} {b} g s k some within =
    let m : k ≤ length b = omega (arith, within, g.right) in
    let r = s k some m in
    (r.0, r.1, r.2 ∙ sym (term_agree k g within), agree_trans (agree_less k within g) r.3)

module _ {voters : List ℕ} {h : History} {d : List Entry} {Secured : ℕ → ℕ → ℕ → Type 0} (i : Common voters h d Secured) {c t vote : ℕ} {counted : List Bool} {es : List Entry} (some : c ≢ 0)
    (cand : IsCampaigning h Secured c t vote counted es)
    (majority : is_majority voters (is_set counted) ≡ true) (new : (R : Reign) → IsLed h.reigns R → R.term ≢ t) where
  -- the log of the campaign
  abbrev log : List Entry
  log = h.campaign t c

  -- a campaign that has a majority isn't lost: a later quorum would share a voter with it
  not_lost : IsLost h t c → ⊥
  not_lost lost =
      let both = in_both voters (is_set counted) lost.reign.quorum majority (i.reigns lost.reign lost.led).majority in
      let no : lost.reign.quorum both.0 ≡ false = lost.outside some both.0 (cand.granted both.0 both.1).0 in
      absurd (cc)

  -- decided places at its beginning were decided by a reign of a lower term, and are in the log of the reign of its last entry
  front_in : (k : ℕ) (R : Reign) → k ≤ h.floor t c → Agree k log d → IsLed h.reigns R → R.term ≡ term_of log (length log) → Agree k log R.log
  front_in zero R within a led e = agree_none log R.log
  front_in (suc k) R within a led e =
      let q : IsDecided voters h d (suc k) = i.decided (suc k) (omega arith) a.right in
      let n = h.reach (suc k) in
      let low : h.decided_in (suc k) ≤ t = ⊎_elim (λ l. l) (λ l. absurd (not_lost l)) (i.floors t c (suc k) (omega arith) within a) in
      let apart : q.reign.term ≢ t = new q.reign q.led in
      let below : q.reign.term < t = ⊎_elim (λ x. absurd (apart x)) (λ o. ⊎_elim (λ l. l) (λ m. absurd (omega (arith, m, low, q.term))) o) (cases_order q.reign.term t) in
      let safe : IsSafe h.reigns q.reign n = safe_among i.levels q.led q.chosen h.reigns i.later (λ S s. (i.reigns S s).majority) in
      let both = in_both voters (is_set counted) (has_answered h q.reign n) majority q.chosen.answered in
      let levels = i.levels both.0 q.reign.term in
      let counts : Counts h h.told both.0 q.reign n = record {
        led = q.led;
        own = q.chosen.own;
        most = omega (arith, leb-true n (h.answer both.0 q.reign.term) both.2, levels.answer, levels.saving);
        safe = safe;
      } in
      let vote : IsVote h d Secured both.0 t c = i.votes both.0 t c some (cand.granted both.0 both.1).0 in
      let saw : Saw q.reign n log = vote.saw new q.reign n counts below in
      ⊎_elim
      (λ same. subst (λ S. Agree (suc k) log S.log) (same_reign i q.reign R q.led led same) (agree_less (suc k) q.reach saw.there))
      (λ o. ⊎_elim
      (λ less. agree_less (suc k) q.reach (agree_trans saw.there (agree_sym (safe R led less))))
      (λ more. absurd (omega (arith, more, saw.last, e)))
      o)
      (cases_order q.reign.term R.term)

  -- the log with which a term comes to be led is strict
  pub elected_strict : (v : ℕ) → h.vote v t ≡ c → IsStrict h log
  elected_strict v voted k positive within =
      let vote : IsVote h d Secured v t c = i.votes v t c some voted in
      let m = vote.matches (length log) (omega (arith, positive, within)) (omega arith) in
      ⊎_elim
      (λ part. let q = m.0.rest part in
      strict_along h (glue m.0.most (omega arith) (front_in m.0.decided q.0 m.1 m.0.front q.1 q.2) q.3) (i.reigns q.0 q.1).strict k positive within)
      (λ e. strict_along h (subst (λ n. Agree n log d) e m.0.front) i.strict k positive within)
      (less_or_same m.0.decided (length log) m.0.most)
