-- A chosen place stays chosen: what a voter has saved of its answers is never taken back.
use Rattle.std.proofs.Common.{◌≡◌, ℕ, List, ap, arith}
use Rattle.std.proofs.lemmas.Bool.{leb-true, le-leb}
use Rattle.host_ids.specs.declared.entry.Entry.{Entry}
use Rattle.raft_safety.specs.History.{Reign, History, has_answered, IsChosen}
use Rattle.raft_safety.specs.Invariant.{Common}
use Rattle.raft_safety.proofs.Argument.Quorums.{majority_more}
use Rattle.raft_safety.proofs.Frame.Extends.{Extends}
use Rattle.raft_safety.proofs.Frame.Growth.{Grows, own_extends, answer_more}

module _ {voters : List ℕ} {v : ℕ} {h k : History} {d e : List Entry} {Secured SecuredNow Answers AnswersNow : ℕ → ℕ → ℕ → Type 0}
    (i : Common voters h d Secured) (g : Grows v h k d e Secured SecuredNow Answers AnswersNow) where
  -- a chosen place stays chosen
  pub chosen_grown : {R S : Reign} {n : ℕ} → Extends R S → IsChosen voters h R n → IsChosen voters k S n
  chosen_grown {R} {S} {n} x c = record {
    own = own_extends x c.own;
    answered = majority_more voters (has_answered h R n) (has_answered k S n)
        (λ u t. le-leb n (k.answer u S.term) (let q : k.answer u S.term ≡ k.answer u R.term = ap (k.answer u) x.term in
        omega (arith, q, leb-true n (h.answer u R.term) t, answer_more i g u R.term))) c.answered;
  }
