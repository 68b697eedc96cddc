-- Tables of the history, by voter and by two numbers, and the tables that a group begins with.
use Rattle.std.specs.Prelude.{replicate, slice_index_or}
use Rattle.std.proofs.Common.{◌≡◌, ◌≢◌, ℕ, refl, ap, ◌∙◌, if◌then◌else◌, ◌==◌, suc, zero, ⊎_elim, false, ◌⊎◌, inl, inr}
use Rattle.roster.specs.Roster.{at, all_at, is_set, none_set}
use Rattle.std.proofs.lemmas.Bool.{eq-eqb, ne_eqb, cases_eq}

-- each place of a table of one value has that value
pub of_replicate : {A : Type 0} (n i : ℕ) (a : A) → slice_index_or (replicate n a) i a ≡ a
of_replicate zero i a = refl
of_replicate (suc n) zero a = refl
of_replicate (suc n) (suc i) a = of_replicate n i a

-- a table by host and number, with another row for one host
abbrev pub at_host : ℕ → (ℕ → ℕ) → (ℕ → ℕ → ℕ) → ℕ → ℕ → ℕ
at_host v f a u = if u == v then f else a u

-- that host's row is the new one
pub at_mine : (v : ℕ) (f : ℕ → ℕ) (a : ℕ → ℕ → ℕ) (t : ℕ) → at_host v f a v t ≡ f t
at_mine v f a t = ap (λ b. (if b then f else a v) t) (eq-eqb v v refl)

-- another host's row stays
pub at_other : (v : ℕ) (f : ℕ → ℕ) (a : ℕ → ℕ → ℕ) (u t : ℕ) → u ≢ v → at_host v f a u t ≡ a u t
at_other v f a u t o = ap (λ b. (if b then f else a u) t) (ne_eqb u v o)

-- a table by two numbers, with another value at one place
abbrev pub at_pair : {A : Type 0} → ℕ → ℕ → A → (ℕ → ℕ → A) → ℕ → ℕ → A
at_pair v t x a u s = if u == v then (if s == t then x else a u s) else a u s

-- two numbers are those of the place
pub record IsPair (v t u s : ℕ) : Type 0 where
  pub first : u ≡ v
  pub second : s ≡ t

-- at the place stands the new value
pub at_there : {A : Type 0} (v t : ℕ) (x : A) (a : ℕ → ℕ → A) → at_pair v t x a v t ≡ x
at_there v t x a = ap (λ b. if b then (if t == t then x else a v t) else a v t) (eq-eqb v v refl) ∙ ap (λ b. if b then x else a v t) (eq-eqb t t refl)

-- elsewhere the old one
pub at_elsewhere : {A : Type 0} (v t : ℕ) (x : A) (a : ℕ → ℕ → A) (u s : ℕ) → (IsPair v t u s → ⊥) → at_pair v t x a u s ≡ a u s
at_elsewhere v t x a u s apart =
    ⊎_elim
    (λ e. ⊎_elim
    (λ f. absurd (apart (record { first = e; second = f })))
    (λ n. ap (λ b. if b then (if s == t then x else a u s) else a u s) (eq-eqb u v e) ∙ ap (λ b. if b then x else a u s) (ne_eqb s t n))
    (cases_eq s t))
    (λ n. ap (λ b. if b then (if s == t then x else a u s) else a u s) (ne_eqb u v n))
    (cases_eq u v)

-- two numbers are those of the place, or not
pub pair_cases : (v t u s : ℕ) → IsPair v t u s ⊎ (IsPair v t u s → ⊥)
pair_cases v t u s =
    ⊎_elim
    (λ e. ⊎_elim (λ f. inl (record { first = e; second = f })) (λ n. inr (λ p. n p.second)) (cases_eq s t))
    (λ n. inr (λ p. n p.first))
    (cases_eq u v)

-- in the table without grants no host is set
pub none_is_set : (u : ℕ) → is_set none_set u ≡ false
none_is_set u = of_replicate 10 u false

-- in a table of zeros each place is 0
pub none_matched : (u : ℕ) → at (all_at 0) u ≡ 0
none_matched u = of_replicate 10 u 0
