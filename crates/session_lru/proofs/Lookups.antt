-- Clients in lists, and entries by their client.
use Rattle.std.proofs.Common.{◌≡◌, ℕ, zero, suc, ◌==◌, List, [], ◌∷◌, ◌++◌, Bool, true, false, cond, Some, None, take, map, reverse, refl, sym, ap, subst, eqb-true, eq-eqb, nat_eq, append-nil, arith}
use Rattle.std.specs.Prelude.{◌||◌, not}
use Rattle.std.specs.List.{AllByRecursion}
use Rattle.std.specs.Option.{is_some}
use Rattle.std.specs.Map.{lookup, remove_entry}
use Rattle.std.proofs.lemmas.Bool.Decides.{nat_tests}
use Rattle.std.proofs.lemmas.List.{reverse-append}
use Rattle.std.proofs.lemmas.List.Elements.{filter-append}
use Rattle.std.proofs.lemmas.List.Folds.{list_any-append}
use Rattle.std.proofs.lemmas.List.Sorted.{list_any-IsPermutation, IsPermutation-reverse}
use Rattle.object_model.specs.Sequence.{has, without}

-- ---- tests

pub or_both : (a b : Bool) → a ≡ false → b ≡ false → (a || b) ≡ false
or_both true b e f = absurd cc
or_both false b e f = f

pub or_left : (a b : Bool) → (a || b) ≡ false → a ≡ false
or_left true b e = e
or_left false b e = refl

pub or_right : (a b : Bool) → (a || b) ≡ false → b ≡ false
or_right true b e = absurd cc
or_right false b e = e

-- the test of a key finds the same as the test of a client
pub turned : (a b : ℕ) (v : Bool) → (a == b) ≡ v → nat_eq b a ≡ v
turned a b true e = grind (arith, nat_tests)
turned a b false e = grind (arith, nat_tests)

pub same_client : (c : ℕ) → (c == c) ≡ true
same_client c = eq-eqb c c refl

-- ---- clients

-- no client comes twice
abbrev pub Apart : List ℕ → Type 0
Apart [] = Unit {0}
Apart (c ∷ cs) = (has c cs ≡ false) × Apart cs

pub has_last : (client other : ℕ) (cs : List ℕ) → has client cs ≡ false → (other == client) ≡ false → has client (cs ++ other ∷ []) ≡ false
has_last client other cs e f = rw list_any-append (or_both (has client cs) (has client (other ∷ [])) e (or_both (other == client) false f refl))

-- what is not among clients is not among them from the back
pub has_reverse : (client : ℕ) (cs : List ℕ) → has client (reverse cs) ≡ has client cs
has_reverse client cs = sym (list_any-IsPermutation (λ c. c == client) cs (reverse cs) (IsPermutation-reverse cs))

pub reverse_cons : {A : Type 0} (x : A) (xs : List A) → reverse (x ∷ xs) ≡ reverse xs ++ x ∷ []
reverse_cons x xs = reverse-append (x ∷ []) xs

-- ---- without a client

-- where it is not among them, they stay
without_by : (client c : ℕ) (cs : List ℕ) → (c == client) ≡ false → without client cs ≡ cs → without client (c ∷ cs) ≡ c ∷ cs
without_by client c cs q e = rw (q, e) refl

pub without_none : (client : ℕ) (cs : List ℕ) → has client cs ≡ false → without client cs ≡ cs
without_none client [] e = refl
without_none client (c ∷ cs) e = without_by client c cs (or_left (c == client) (has client cs) e) (without_none client cs (or_right (c == client) (has client cs) e))

-- it is not among the rest
gone_by : (client c : ℕ) (rest : List ℕ) (b : Bool) → (c == client) ≡ b → has client rest ≡ false → has client (cond (not b) (c ∷ rest) rest) ≡ false
gone_by client c rest true q e = e
gone_by client c rest false q e = or_both (c == client) (has client rest) q e

pub has_without : (client : ℕ) (cs : List ℕ) → has client (without client cs) ≡ false
has_without client [] = refl
has_without client (c ∷ cs) = gone_by client c (without client cs) (c == client) refl (has_without client cs)

-- what is not among them is not among the rest
other_by : (client c : ℕ) (rest : List ℕ) (b : Bool) → (c == client) ≡ false → has client rest ≡ false → has client (cond b (c ∷ rest) rest) ≡ false
other_by client c rest true q e = or_both (c == client) (has client rest) q e
other_by client c rest false q e = e

pub has_without_other : (client other : ℕ) (cs : List ℕ) → has client cs ≡ false → has client (without other cs) ≡ false
has_without_other client other [] e = refl
has_without_other client other (c ∷ cs) e =
    other_by client c (without other cs) (not (c == other)) (or_left (c == client) (has client cs) e) (has_without_other client other cs (or_right (c == client) (has client cs) e))

-- from the back it is the same
pub reverse_without : (client : ℕ) (cs : List ℕ) → reverse (without client cs) ≡ without client (reverse cs)
reverse_without client [] = refl
reverse_without client (c ∷ cs) =
    elim (c == client) as (λ b. (c == client) ≡ b → reverse (cond (not b) (c ∷ without client cs) (without client cs)) ≡ without client (reverse (c ∷ cs))) [
      | true ↦ λ q. rw (reverse_cons c cs, filter-append (λ x. not (x == client)) (reverse cs) (c ∷ []), reverse_without client cs, q) (sym (append-nil (without client (reverse cs))))
      | false ↦ λ q. rw (reverse_cons c cs, reverse_cons c (without client cs), filter-append (λ x. not (x == client)) (reverse cs) (c ∷ []), reverse_without client cs, q) refl
    ] refl

-- ---- entries

module _ {V : Type 0} where
  abbrev pub clients : List (ℕ × V) → List ℕ
  clients es = map (λ e. e.0) es

  -- a client is among them where it has an entry
  pub has_found : (client : ℕ) (es : List (ℕ × V)) → has client (clients es) ≡ is_some (lookup (nat_eq client) es)
  has_found client [] = refl
  has_found client (e ∷ es) = elim (e.0 == client) as (λ b. (e.0 == client) ≡ b → (b || has client (clients es)) ≡ is_some (lookup (nat_eq client) (e ∷ es))) [
    | true ↦ λ q. rw (turned e.0 client true q) refl
    | false ↦ λ q. rw (turned e.0 client false q) (has_found client es)
  ] refl

  -- the clients after a removal
  pub removed : (client : ℕ) (es : List (ℕ × V)) → Apart (clients es) → clients (remove_entry (nat_eq client) es) ≡ without client (clients es)
  removed client [] a = refl
  removed client (e ∷ es) a = elim (e.0 == client) as (λ b. (e.0 == client) ≡ b → clients (remove_entry (nat_eq client) (e ∷ es)) ≡ cond (not b) (e.0 ∷ without client (clients es)) (without client (clients es))) [
    | true ↦ λ q. (let same : e.0 ≡ client = eqb-true e.0 client q in let none : has client (clients es) ≡ false = subst (λ (c : ℕ). has c (clients es) ≡ false) same a.0 in
        rw (turned e.0 client true q) (sym (without_none client (clients es) none)))
    | false ↦ λ q. rw (turned e.0 client false q) (ap (λ l. e.0 ∷ l) (removed client es a.1))
  ] refl

  pub gone_removed : (client : ℕ) (es : List (ℕ × V)) → Apart (clients es) → has client (clients (remove_entry (nat_eq client) es)) ≡ false
  gone_removed client es a = rw (removed client es a) (has_without client (clients es))

  -- where it has none, the entries stay
  pub remove_none : (client : ℕ) (es : List (ℕ × V)) → lookup (nat_eq client) es ≡ None → remove_entry (nat_eq client) es ≡ es
  remove_none client [] h = refl
  remove_none client (e ∷ es) h = elim (nat_eq client e.0) as (λ b. cond b (Some e.1) (lookup (nat_eq client) es) ≡ None → cond b es (e ∷ remove_entry (nat_eq client) es) ≡ e ∷ es)
      [ true ↦ λ h. absurd cc | false ↦ λ h. ap (λ l. e ∷ l) (remove_none client es h) ] h

  pub all_removed : (P : ℕ × V → Type 0) (test : ℕ → Bool) (es : List (ℕ × V)) → AllByRecursion P es → AllByRecursion P (remove_entry test es)
  all_removed P test [] p = tt
  all_removed P test (e ∷ es) p = elim (test e.0) as (λ b. AllByRecursion P (cond b es (e ∷ remove_entry test es))) [ true ↦ p.1 | false ↦ (p.0, all_removed P test es p.1) ]

  pub all_take : (P : ℕ × V → Type 0) (n : ℕ) (es : List (ℕ × V)) → AllByRecursion P es → AllByRecursion P (take n es)
  all_take P zero es p = tt
  all_take P (suc n) [] p = tt
  all_take P (suc n) (e ∷ es) p = (p.0, all_take P n es p.1)

  pub has_take : (client n : ℕ) (es : List (ℕ × V)) → has client (clients es) ≡ false → has client (clients (take n es)) ≡ false
  has_take client zero es e = refl
  has_take client (suc n) [] e = refl
  has_take client (suc n) (f ∷ es) e = or_both (f.0 == client) (has client (clients (take n es))) (or_left (f.0 == client) (has client (clients es)) e) (has_take client n es (or_right (f.0 == client) (has client (clients es)) e))
