-- A host counts more of what it holds as being saved, and as saved.
use Rattle.std.proofs.Common.{◌≡◌, ◌≢◌, ⊎_elim, ℕ, ◌≤◌, List, refl, arith, inl, inr}
use Rattle.host_ids.specs.declared.entry.Entry.{Entry}
use Rattle.raft_safety.specs.History.{History}
use Rattle.raft_safety.specs.Invariant.{Common}
use Rattle.raft_safety.proofs.Frame.Extends.{extends_none}
use Rattle.raft_safety.proofs.Frame.Growth.{Grows, vote_grown}
use Rattle.raft_safety.proofs.Frame.Reigns.{later_grown, aligned_same}
use Rattle.raft_safety.proofs.Frame.Common.{Adds}
use Rattle.raft_safety.proofs.Frame.Tables.{at_host, at_mine, at_other}

-- a history in which host v counts as saving and as answers what these tables say
abbrev pub with_levels : ℕ → (ℕ → ℕ) → (ℕ → ℕ) → History → History
with_levels v saving answer h = record h { saving = at_host v saving h.saving; answer = at_host v answer h.answer }

module _ (voters : List ℕ) (v : ℕ) (h : History) (d : List Entry) (saving answer : ℕ → ℕ) (Sec SecNow Ans AnsNow : ℕ → ℕ → ℕ → Type 0) where
  -- the history grows so where no answer is taken back
  pub levels_grow : ((t : ℕ) → h.answer v t ≤ answer t) → ((u t c : ℕ) → c ≢ 0 → Sec u t c → SecNow u t c) → ((u t n : ℕ) → Ans u t n → AnsNow u t n)
      → Grows v h (with_levels v saving answer h) d d Sec SecNow Ans AnsNow
  levels_grow more secured heard = record {
    decided = record { left = omega arith; right = omega arith; same = refl };
    votes = λ u t c some s e. e;
    new_votes = λ u t c some e. inl e;
    campaigns = λ u t c some e. (refl, refl);
    forward = λ R led. record { reign = R; led = led; extends = extends_none R };
    back = λ S led. inl (record { reign = S; led = led; extends = extends_none S });
    others = λ R led o. led;
    told = λ u t o. refl;
    saving = λ u t o. at_other v saving h.saving u t o;
    answer = λ u t o. at_other v answer h.answer u t o;
    new_told = λ n t m. inl m;
    new_answer = λ t. (let e : at_host v answer h.answer v t ≡ answer t = at_mine v answer h.answer t in omega (arith, e, more t));
    decided_in = λ n m. omega arith;
    secured = secured;
    heard = heard;
  }

  -- and keeps the common sentences where answers are at most what is being saved, and that at most what is told
  pub levels_add : (i : Common voters h d Sec) → Grows v h (with_levels v saving answer h) d d Sec SecNow Ans AnsNow → ((t : ℕ) → answer t ≤ saving t) → ((t : ℕ) → saving t ≤ h.told v t)
      → Adds voters v h (with_levels v saving answer h) d d SecNow
  levels_add i g first second = record {
    reigns = λ S led new. absurd (new.unled S led refl);
    later = later_grown i g h.reigns h.reigns (aligned_same h.reigns) (λ R led. led) i.later;
    decided = λ n a b. absurd (omega (arith, a, b));
    lowered = λ n a b. inl (refl, refl);
    strict = λ n a b. absurd (omega (arith, a, b));
    votes = λ t c some voted last. vote_grown i g some voted (i.votes v t c some voted);
    campaigns = λ t c. inl (refl, refl);
    levels = λ t.
        let s : at_host v saving h.saving v t ≡ saving t = at_mine v saving h.saving t in
        let a : at_host v answer h.answer v t ≡ answer t = at_mine v answer h.answer t in
        record { answer = omega (arith, s, a, first t); saving = omega (arith, s, second t) };
    bounded = λ t. ⊎_elim (λ z. inl z) (λ b. inr (record { reign = b.reign; led = b.led; term = b.term; most = b.most })) (i.bounded v t);
  }
