-- Reigns that grew, in the order of their elections, keep what voters of later quorums held.
use Rattle.std.proofs.Common.{◌≡◌, ⊎_elim, ℕ, ◌+◌, ◌<◌, ◌≤◌, List, [], ◌∷◌, length, true, refl, sym, ap, ◌∙◌, subst, arith, inl, inr}
use Rattle.host_ids.specs.declared.entry.Entry.{Entry}
use Rattle.raft_safety.specs.History.{Reign, History, IsLed, Agree, IsOwn, IsSafe}
use Rattle.raft_safety.specs.Invariant.{Common, LaterKeep}
use Rattle.raft_safety.proofs.Argument.Agreement.{agree_sym}
use Rattle.raft_safety.proofs.Frame.Extends.{Extends, extends_none}
use Rattle.raft_safety.proofs.Frame.Growth.{Later, Earlier, Grows, extends_agree, extends_own, safe_back, told_in, told_new, told_back, outside}

-- the same reigns in the same order, some of them longer
abbrev pub Aligned : List Reign → List Reign → Type 0
Aligned [] [] = Unit {0}
Aligned [] (S ∷ Ss) = ⊥
Aligned (R ∷ Rs) [] = ⊥
Aligned (R ∷ Rs) (S ∷ Ss) = Extends R S × Aligned Rs Ss

-- reigns are aligned with themselves
pub aligned_same : (rs : List Reign) → Aligned rs rs
aligned_same [] = tt
aligned_same (R ∷ rs) = (extends_none R, aligned_same rs)

-- each reign of the first list stands later in the second
pub aligned_forward : (rs ss : List Reign) → Aligned rs ss → (R : Reign) → IsLed rs R → Later ss R
aligned_forward [] [] a R led = absurd led
aligned_forward [] (S ∷ ss) a R led = absurd led
aligned_forward (P ∷ rs) [] a R led = absurd a
aligned_forward (P ∷ rs) (S ∷ ss) a R led =
    ⊎_elim
    (λ e. record { reign = S; led = inl refl; extends = subst (λ x. Extends x S) (sym e) a.0 })
    (λ l. let f = aligned_forward rs ss a.1 R l in record { reign = f.reign; led = inr f.led; extends = f.extends })
    led

-- and each of the second stood in the first
pub aligned_back : (rs ss : List Reign) → Aligned rs ss → (S : Reign) → IsLed ss S → Earlier rs S
aligned_back [] [] a S led = absurd led
aligned_back [] (T ∷ ss) a S led = absurd a
aligned_back (P ∷ rs) [] a S led = absurd led
aligned_back (P ∷ rs) (T ∷ ss) a S led =
    ⊎_elim
    (λ e. record { reign = P; led = inl refl; extends = subst (λ x. Extends P x) (sym e) a.0 })
    (λ l. let f = aligned_back rs ss a.1 S l in record { reign = f.reign; led = inr f.led; extends = f.extends })
    led

-- an order greater than that of each of these reigns
abbrev pub next_order : List Reign → ℕ
next_order [] = 0
next_order (R ∷ rs) = R.order + 1

-- each reign is before the next order
pub before_next : (h : History) (rs : List Reign) → LaterKeep h rs → (R : Reign) → IsLed rs R → R.order < next_order rs
before_next h [] keep R led = absurd led
before_next h (P ∷ rs) keep R led =
    ⊎_elim
    (λ e. let same : R.order ≡ P.order = ap (λ (S : Reign). S.order) e in omega (arith, same))
    (λ l. let below = (keep.1 R l).1 in omega (arith, below))
    led

module _ {voters : List ℕ} {v : ℕ} {h k : History} {d e : List Entry} {Secured SecuredNow Answers AnswersNow : ℕ → ℕ → ℕ → Type 0}
    (i : Common voters h d Secured) (g : Grows v h k d e Secured SecuredNow Answers AnswersNow) where
  -- a reign still keeps what a voter of its quorum held, where the reigns before it do
  keeps_grown : {R S : Reign} (rs ss : List Reign) → IsLed h.reigns R → Extends R S → Aligned rs ss
      → ((Q : Reign) (n w : ℕ) → IsLed h.reigns Q → Q.term < R.term → IsOwn Q n → IsSafe rs Q n → R.quorum w ≡ true → n ≤ h.told w Q.term → Agree n R.log Q.log)
      → (Q : Reign) (n w : ℕ) → IsLed k.reigns Q → Q.term < S.term → IsOwn Q n → IsSafe ss Q n → S.quorum w ≡ true → n ≤ k.told w Q.term → Agree n S.log Q.log
  keeps_grown {R} {S} rs ss led x al keep Q n w now below own safe quorum told =
      let was : R.quorum w ≡ true = ap (λ p. p w) (sym x.quorum) ∙ quorum in
      ⊎_elim
      (λ most. ⊎_elim
      (λ q.
      let t : h.told w Q.term ≡ h.told w q.reign.term = ap (h.told w) q.extends.term in
      let before : n ≤ h.told w q.reign.term = omega (arith, t, most) in
      let m : n ≤ length q.reign.log = told_in i g w n q.reign q.led own.place before in
      let a : Agree n R.log q.reign.log = keep q.reign n w q.led (omega (arith, below, x.term, q.extends.term)) (extends_own q.extends own m)
      (safe_back rs ss (aligned_forward rs ss al) q.extends own m safe) was before in
      agree_sym (extends_agree x (agree_sym (extends_agree q.extends a))))
      (λ new. absurd (told_new i g w n new own.place most))
      (g.back Q now))
      (λ last. absurd (outside i g w Q.term last R led (omega (arith, below, x.term)) was))
      (told_back i g w n Q.term told)

  -- so each of aligned reigns keeps what its voters held, and no term is led twice
  pub later_grown : (rs ss : List Reign) → Aligned rs ss → ((R : Reign) → IsLed rs R → IsLed h.reigns R) → LaterKeep h rs → LaterKeep k ss
  later_grown [] [] al led keep = tt
  later_grown [] (S ∷ ss) al led keep = absurd al
  later_grown (R ∷ rs) [] al led keep = absurd al
  later_grown (R ∷ rs) (S ∷ ss) al led keep = (
    keeps_grown rs ss (led R (inl refl)) al.0 al.1 keep.0,
    λ Q q. (let b = aligned_back rs ss al.1 Q q in let was = keep.1 b.reign b.led in (λ same. was.0 (sym b.extends.term ∙ same ∙ al.0.term), omega (arith, was.1, b.extends.order, al.0.order))),
    later_grown rs ss al.1 (λ P p. led P (inr p)) keep.2,
  )
