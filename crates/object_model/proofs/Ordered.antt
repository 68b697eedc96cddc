-- An insertion and a removal keep pairs in ascending order, and keep what holds of each.
use Rattle.std.proofs.Common.{◌≡◌, ◌≤◌, ℕ, ◌+◌, List, [], ◌∷◌, Bool, true, false, length, refl, ap, ◌∙◌, arith}
use Rattle.std.specs.Prelude.{◌&&◌, is_some}
use Rattle.std.specs.List.{list_all}
use Rattle.std.specs.Ordering.{is_lt, match_ordering, ordering_reverse}
use Rattle.std.specs.declared.cmp.Ordering.{Ordering}
use Rattle.std.specs.declared.cmp.Ordering.TheVariants.{Less, Equal, Greater}
use Rattle.std.specs.BTreeMap.{insert_entry}
use Rattle.std.specs.Map.{remove_entry}
use Rattle.std.proofs.lemmas.Cmp.{nat_list_cmp_total}
use Rattle.std.proofs.lemmas.Bool.{and_parts, and_from, cond_both}
use Rattle.object_model.specs.Words.{is_key, is_value}
use Rattle.object_model.specs.Object.{Pairs, key_order, value_at}
use Rattle.object_model.specs.Image.{is_ascending, is_pair}

-- ---- order

-- the first of these keys, if there is one, is above this one
abbrev pub is_below : List ℕ → Pairs → Bool
is_below key [] = true
is_below key (e ∷ rest) = is_lt (key_order key e.0)

-- the first of ascending pairs is below the others, which ascend
pub ascending_parts : (e : List ℕ × List ℕ) (rest : Pairs) → is_ascending (e ∷ rest) ≡ true → (is_below e.0 rest ≡ true) × (is_ascending rest ≡ true)
ascending_parts e [] h = (refl, refl)
ascending_parts e (f ∷ rest) h = and_parts (is_lt (key_order e.0 f.0)) (is_ascending (f ∷ rest)) h

-- ascending pairs ascend after a pair whose key is below theirs
pub ascending_from : (e : List ℕ × List ℕ) (rest : Pairs) → is_below e.0 rest ≡ true → is_ascending rest ≡ true → is_ascending (e ∷ rest) ≡ true
ascending_from e [] h k = refl
ascending_from e (f ∷ rest) h k = and_from (is_lt (key_order e.0 f.0)) (is_ascending (f ∷ rest)) h k

-- the one order that `is_lt` tells
pub less : (o : Ordering) → is_lt o ≡ true → o ≡ Less
less Less h = refl
less Equal h = absurd cc
less Greater h = absurd cc

-- where a key is above another one, that one is below it
flipped : (a b : List ℕ) → key_order a b ≡ Greater → is_lt (key_order b a) ≡ true
flipped a b h = ap is_lt (nat_list_cmp_total.antisymm b a ∙ ap ordering_reverse h)

-- what is below a key is below those above it
pub below_through : (a b c : List ℕ) → is_lt (key_order a b) ≡ true → is_lt (key_order b c) ≡ true → is_lt (key_order a c) ≡ true
below_through a b c h k = ap is_lt (nat_list_cmp_total.trans a b c (less (key_order a b) h) (less (key_order b c) k))

-- what is below the first key is below the next one
below_next : (low : List ℕ) (e : List ℕ × List ℕ) (rest : Pairs) → is_lt (key_order low e.0) ≡ true → is_below e.0 rest ≡ true → is_below low rest ≡ true
below_next low e [] h k = refl
below_next low e (f ∷ rest) h k = below_through low e.0 f.0 h k

-- ---- insertion

-- what the order of two keys leaves of an insertion
inserted_by : (P : Pairs → Type 0) (key value : List ℕ) (e : List ℕ × List ℕ) (rest : Pairs) (o : Ordering) → key_order key e.0 ≡ o
    → (key_order key e.0 ≡ Less → P ((key, value) ∷ e ∷ rest)) → (key_order key e.0 ≡ Equal → P ((e.0, value) ∷ rest)) → (key_order key e.0 ≡ Greater → P (e ∷ insert_entry key_order rest key value))
    → P (match_ordering o ((key, value) ∷ e ∷ rest) ((e.0, value) ∷ rest) (e ∷ insert_entry key_order rest key value))
inserted_by P key value e rest Less q l m g = l q
inserted_by P key value e rest Equal q l m g = m q
inserted_by P key value e rest Greater q l m g = g q

-- what holds in front of the first pair, at it and after it holds of an insertion
insert_cases : (P : Pairs → Type 0) (key value : List ℕ) (e : List ℕ × List ℕ) (rest : Pairs)
    → (key_order key e.0 ≡ Less → P ((key, value) ∷ e ∷ rest)) → (key_order key e.0 ≡ Equal → P ((e.0, value) ∷ rest)) → (key_order key e.0 ≡ Greater → P (e ∷ insert_entry key_order rest key value))
    → P (insert_entry key_order (e ∷ rest) key value)
insert_cases P key value e rest l m g = inserted_by P key value e rest (key_order key e.0) refl l m g

-- a key below the first stays so where a greater one is inserted
below_inserted : (low key value : List ℕ) (pairs : Pairs) → is_lt (key_order low key) ≡ true → is_below low pairs ≡ true → is_below low (insert_entry key_order pairs key value) ≡ true
below_inserted low key value [] h k = h
below_inserted low key value (e ∷ rest) h k = insert_cases (λ p. is_below low p ≡ true) key value e rest (λ q. h) (λ q. k) (λ q. k)

-- ascending pairs ascend after an insertion
pub inserted_ascending : (key value : List ℕ) (pairs : Pairs) → is_ascending pairs ≡ true → is_ascending (insert_entry key_order pairs key value) ≡ true
inserted_ascending key value [] h = refl
inserted_ascending key value (e ∷ rest) h =
    let parts = ascending_parts e rest h in
    insert_cases (λ p. is_ascending p ≡ true) key value e rest
    (λ q. ascending_from (key, value) (e ∷ rest) (ap is_lt q) h)
    (λ q. ascending_from (e.0, value) rest parts.0 parts.1)
    (λ q. ascending_from e (insert_entry key_order rest key value) (below_inserted e.0 key value rest (flipped key e.0 q) parts.0) (inserted_ascending key value rest parts.1))

-- a pair whose value is replaced by that of another pair is one
pair_replaced : (e f : List ℕ × List ℕ) → is_pair e ≡ true → is_pair f ≡ true → is_pair (e.0, f.1) ≡ true
pair_replaced e f h k =
    let these = and_parts (is_key e.0 && is_value e.1) _ h in
    let those = and_parts (is_key f.0 && is_value f.1) _ k in
    and_from _ _ (and_from _ _ (and_parts (is_key e.0) (is_value e.1) these.0).0 (and_parts (is_key f.0) (is_value f.1) those.0).1) those.1

-- an insertion keeps the forms of keys and values
pub inserted_pairs : (key value : List ℕ) (pairs : Pairs) → is_pair (key, value) ≡ true → list_all is_pair pairs ≡ true → list_all is_pair (insert_entry key_order pairs key value) ≡ true
inserted_pairs key value [] n h = and_from (is_pair (key, value)) true n refl
inserted_pairs key value (e ∷ rest) n h =
    let parts = and_parts (is_pair e) (list_all is_pair rest) h in
    insert_cases (λ p. list_all is_pair p ≡ true) key value e rest
    (λ q. and_from (is_pair (key, value)) (list_all is_pair (e ∷ rest)) n h)
    (λ q. and_from (is_pair (e.0, value)) (list_all is_pair rest) (pair_replaced e (key, value) parts.0 n) parts.1)
    (λ q. and_from (is_pair e) (list_all is_pair (insert_entry key_order rest key value)) parts.0 (inserted_pairs key value rest n parts.1))

-- an insertion adds at most one pair
pub inserted_count : (key value : List ℕ) (pairs : Pairs) → length (insert_entry key_order pairs key value) ≤ length pairs + 1
inserted_count key value [] = omega arith
inserted_count key value (e ∷ rest) =
    let more = inserted_count key value rest in
    insert_cases (λ p. length p ≤ length (e ∷ rest) + 1) key value e rest (λ q. omega arith) (λ q. omega arith) (λ q. omega arith)

-- nothing is found at a key that is below all
absent : (key : List ℕ) (pairs : Pairs) → is_below key pairs ≡ true → is_ascending pairs ≡ true → is_some (value_at pairs key) ≡ false
absent key [] h k = refl
absent key (e ∷ rest) h k =
    let parts = ascending_parts e rest k in
    let next = absent key rest (below_next key e rest h parts.0) parts.1 in
    rw (less (key_order key e.0) h) next

-- an insertion at a key that is there adds none
pub inserted_there : (key value : List ℕ) (pairs : Pairs) → is_ascending pairs ≡ true → is_some (value_at pairs key) ≡ true → length (insert_entry key_order pairs key value) ≤ length pairs
inserted_there key value [] h s = absurd cc
inserted_there key value (e ∷ rest) h s =
    let parts = ascending_parts e rest h in
    insert_cases (λ p. length p ≤ length (e ∷ rest)) key value e rest
    (λ q. let none = absent key (e ∷ rest) (ap is_lt q) h in absurd cc)
    (λ q. omega arith)
    (λ q. let next : is_some (value_at rest key) ≡ true = rw q at s in let more = inserted_there key value rest parts.1 next in omega arith)

-- ---- removal

-- a key below the first of ascending pairs stays so after a removal
below_removed : (low : List ℕ) (test : List ℕ → Bool) (pairs : Pairs) → is_below low pairs ≡ true → is_ascending pairs ≡ true → is_below low (remove_entry test pairs) ≡ true
below_removed low test [] h k = refl
below_removed low test (e ∷ rest) h k =
    cond_both (test e.0) rest (e ∷ remove_entry test rest) (λ (p : Pairs). is_below low p ≡ true) (λ q. below_next low e rest h (ascending_parts e rest k).0) (λ q. h)

-- ascending pairs ascend after a removal
pub removed_ascending : (test : List ℕ → Bool) (pairs : Pairs) → is_ascending pairs ≡ true → is_ascending (remove_entry test pairs) ≡ true
removed_ascending test [] h = refl
removed_ascending test (e ∷ rest) h =
    let parts = ascending_parts e rest h in
    cond_both (test e.0) rest (e ∷ remove_entry test rest) (λ (p : Pairs). is_ascending p ≡ true) (λ q. parts.1)
    (λ q. ascending_from e (remove_entry test rest) (below_removed e.0 test rest parts.0 parts.1) (removed_ascending test rest parts.1))

-- a removal keeps the forms of keys and values
pub removed_pairs : (test : List ℕ → Bool) (pairs : Pairs) → list_all is_pair pairs ≡ true → list_all is_pair (remove_entry test pairs) ≡ true
removed_pairs test [] h = refl
removed_pairs test (e ∷ rest) h =
    let parts = and_parts (is_pair e) (list_all is_pair rest) h in
    cond_both (test e.0) rest (e ∷ remove_entry test rest) (λ (p : Pairs). list_all is_pair p ≡ true) (λ q. parts.1)
    (λ q. and_from (is_pair e) (list_all is_pair (remove_entry test rest)) parts.0 (removed_pairs test rest parts.1))

-- a removal adds no pair
pub removed_count : (test : List ℕ → Bool) (pairs : Pairs) → length (remove_entry test pairs) ≤ length pairs
removed_count test [] = omega arith
removed_count test (e ∷ rest) =
    let more = removed_count test rest in
    cond_both (test e.0) rest (e ∷ remove_entry test rest) (λ (p : Pairs). length p ≤ length (e ∷ rest)) (λ q. omega arith) (λ q. omega arith)
