-- Numbered lists of entries: joined, cut, and with a higher bound on their terms.
use Rattle.std.proofs.Common.{◌≡◌, ◌≤◌, ◌+◌, ℕ, zero, suc, List, [], ◌∷◌, ◌++◌, arith, take, drop, length, subst}
use Rattle.std.proofs.lemmas.List.Elements.{All-weaker}
use Rattle.host_ids.specs.declared.entry.Entry.{Entry}
use Rattle.raft_entries.specs.Numbers.{Numbered, UpTo}

-- entries that go on where others end are numbered with them
pub num_append : (n m : ℕ) (xs ys : List Entry) → m ≡ n + length xs → Numbered n xs → Numbered m ys → Numbered n (xs ++ ys)
num_append n m [] ys e h k = subst (λ i. Numbered i ys) (omega (arith, e)) k
num_append n m (x ∷ xs) ys e h k = (h.0, h.1, num_append (n + 1) m xs ys (omega (arith, e)) h.2 k)

-- the first of numbered entries are numbered
pub num_take : (n k : ℕ) (xs : List Entry) → Numbered n xs → Numbered n (take k xs)
num_take n zero xs h = tt
num_take n (suc k) [] h = tt
num_take n (suc k) (x ∷ xs) h = (h.0, h.1, num_take (n + 1) k xs h.2)

-- numbered entries after the first k of them are numbered from k further on
pub num_drop : (n m k : ℕ) (xs : List Entry) → m ≡ n + k → Numbered n xs → Numbered m (drop k xs)
num_drop n m zero xs e h = subst (λ i. Numbered i xs) (omega (arith, e)) h
num_drop n m (suc k) [] e h = tt
num_drop n m (suc k) (x ∷ xs) e h = num_drop (n + 1) m k xs (omega (arith, e)) h.2

-- terms of at most one term are at most a greater one
pub up_to : (s t : ℕ) (es : List Entry) → s ≤ t → UpTo s es → UpTo t es
up_to s t es le h = All-weaker (λ (e : Entry). e.term ≤ s) (λ e. e.term ≤ t) (λ e k. omega (arith, le, k)) es h
