-- Pairs that are read one after the other: what is read so far, and what reading the rest gives, is what the whole gives.
use Rattle.std.proofs.Common.{◌≡◌, ◌≤◌, ◌<◌, ℕ, suc, ◌+◌, ◌-◌, List, [], ◌∷◌, ◌++◌, Bool, true, Option, Some, None, Result, Ok, Err, length, refl, sym, ap, ◌∙◌, arith, append_assoc, get_or, lt-ltb}
use Rattle.std.specs.Prelude.{nat_lt}
use Rattle.std.specs.List.{list_all}
use Rattle.std.specs.Ordering.{is_lt, ordering_reverse}
use Rattle.std.specs.declared.cmp.Ordering.TheVariants.{Greater}
use Rattle.std.specs.BTreeMap.{insert_entry}
use Rattle.std.proofs.lemmas.Cmp.{nat_list_cmp_total}
use Rattle.std.proofs.lemmas.Bool.{and_parts, and_from}
use Rattle.std.proofs.lemmas.List.{append-nil}
use Rattle.std.proofs.lemmas.List.Folds.{list_all-append}
use Rattle.object_model.specs.Words.{is_key}
use Rattle.object_model.specs.Object.{Pairs, key_order}
use Rattle.object_model.specs.Image.{is_next, with_first, read_pairs, AreBytes}
use Rattle.object_model.proofs.Ordered.{less, below_through}

-- each of these keys is below this one
abbrev all_below : List ℕ → Pairs → Bool
all_below key pairs = list_all (λ e. is_lt (key_order e.0 key)) pairs

-- pairs read before others
abbrev pub joined : Pairs → Result Pairs ℕ → Result Pairs ℕ
joined pairs (Ok es) = Ok (pairs ++ es)
joined pairs (Err at) = Err at

-- pairs are read, the last at the key before, `left` more are to come, and the whole gives the total
pub record Ahead (total : Result Pairs ℕ) (size : ℕ) (pairs : Pairs) (before : Option (List ℕ)) (left at : ℕ) (rest : List ℕ) : Type 0 where
  pub room : at + length rest ≡ size
  pub whole : total ≡ joined pairs (read_pairs left before at rest)
  pub last : (key : List ℕ) → is_next before key ≡ true → all_below key pairs ≡ true

-- ---- pairs read so far

-- a key above all others is put after them
appended : (pairs : Pairs) (key value : List ℕ) → all_below key pairs ≡ true → insert_entry key_order pairs key value ≡ pairs ++ (key, value) ∷ []
appended [] key value h = refl
appended (e ∷ rest) key value h =
    let parts = and_parts (is_lt (key_order e.0 key)) (all_below key rest) h in
    let above : key_order key e.0 ≡ Greater = nat_list_cmp_total.antisymm key e.0 ∙ ap ordering_reverse (less (key_order e.0 key) parts.0) in
    rw above (ap (λ p. e ∷ p) (appended rest key value parts.1))

-- what is below a key is below those above it
below_more : (key next : List ℕ) (pairs : Pairs) → is_lt (key_order key next) ≡ true → all_below key pairs ≡ true → all_below next pairs ≡ true
below_more key next [] l h = refl
below_more key next (e ∷ rest) l h =
    let parts = and_parts (is_lt (key_order e.0 key)) (all_below key rest) h in
    and_from (is_lt (key_order e.0 next)) (all_below next rest) (below_through e.0 key next parts.0 l) (below_more key next rest l parts.1)

-- a key that may come next is above all
last_more : (pairs : Pairs) (key value next : List ℕ) → all_below key pairs ≡ true → is_next (Some key) next ≡ true → all_below next (pairs ++ (key, value) ∷ []) ≡ true
last_more pairs key value next h k =
    let above = (and_parts (is_key next) (is_lt (key_order key next)) k).1 in
    list_all-append (λ e. is_lt (key_order e.0 next)) pairs ((key, value) ∷ [])
    ∙ and_from (all_below next pairs) (all_below next ((key, value) ∷ [])) (below_more key next pairs above h) (and_from (is_lt (key_order key next)) true above refl)

joined_none : (r : Result Pairs ℕ) → r ≡ joined [] r
joined_none (Ok es) = refl
joined_none (Err at) = refl

joined_more : (pairs : Pairs) (e : List ℕ × List ℕ) (r : Result Pairs ℕ) → joined pairs (with_first e r) ≡ joined (pairs ++ e ∷ []) r
joined_more pairs e (Ok es) = ap Ok (sym (append_assoc pairs (e ∷ []) es))
joined_more pairs e (Err at) = refl

-- ---- the loop

pub starts : (count : ℕ) (bytes : List ℕ) → Ahead (read_pairs count None 4 bytes) (4 + length bytes) [] None count 4 bytes
starts count bytes = record { room = refl; whole = joined_none (read_pairs count None 4 bytes); last = λ key h. refl }

-- what a read pair leaves
pub record Pair (before : Option (List ℕ)) (at : ℕ) (rest key value more : List ℕ) : Type 0 where
  pub step : (n : ℕ) → read_pairs (suc n) before at rest ≡ with_first (key, value) (read_pairs n (Some key) (at + 4 + length key + length value) more)
  pub next : is_next before key ≡ true
  pub room : 4 + length key + length value + length more ≡ length rest

pub goes_on : (total : Result Pairs ℕ) (size count i at : ℕ) (pairs : Pairs) (before : Option (List ℕ)) (rest key value more : List ℕ)
    → i < count → Pair before at rest key value more → Ahead total size pairs before (count - i) at rest
    → Ahead total size (insert_entry key_order pairs key value) (Some key) (count - (i + 1)) (at + (4 + length key + length value)) more
goes_on total size count i at pairs before rest key value more lt pair ahead =
    let left : count - i ≡ suc (count - (i + 1)) = omega arith in
    let place : at + 4 + length key + length value ≡ at + (4 + length key + length value) = omega arith in
    let room = ahead.room in
    let less_room = pair.room in
    let below = ahead.last key pair.next in
    let step : read_pairs (count - i) before at rest ≡ with_first (key, value) (read_pairs (count - (i + 1)) (Some key) (at + (4 + length key + length value)) more) =
    ap (λ n. read_pairs n before at rest) left ∙ pair.step (count - (i + 1)) ∙ ap (λ p. with_first (key, value) (read_pairs (count - (i + 1)) (Some key) p more)) place in
    rw (appended pairs key value below)
    (record {
      room = omega arith;
      whole = ahead.whole ∙ ap (joined pairs) step ∙ joined_more pairs (key, value) (read_pairs (count - (i + 1)) (Some key) (at + (4 + length key + length value)) more);
      last = λ next h. last_more pairs key value next below h;
    })

pub fails : (total : Result Pairs ℕ) (size count i at place : ℕ) (pairs : Pairs) (before : Option (List ℕ)) (rest : List ℕ)
    → i < count → ((n : ℕ) → read_pairs (suc n) before at rest ≡ Err place) → Ahead total size pairs before (count - i) at rest → total ≡ Err place
fails total size count i at place pairs before rest lt h ahead =
    let left : count - i ≡ suc (count - (i + 1)) = omega arith in
    ahead.whole ∙ ap (joined pairs) (ap (λ n. read_pairs n before at rest) left ∙ h (count - (i + 1)))

pub ends : (total : Result Pairs ℕ) (size count i at : ℕ) (pairs : Pairs) (before : Option (List ℕ)) (rest : List ℕ) → count ≤ i → length rest ≡ 0 → Ahead total size pairs before (count - i) at rest → total ≡ Ok pairs
unfolding read_pairs
ends total size count i at pairs before [] le none ahead =
    let left : count - i ≡ 0 = omega arith in
    ahead.whole ∙ ap (λ n. joined pairs (read_pairs n before at [])) left ∙ ap Ok (append-nil pairs)
ends total size count i at pairs before (b ∷ rest) le none ahead = absurd (omega arith)

pub stays : (total : Result Pairs ℕ) (size count i at : ℕ) (pairs : Pairs) (before : Option (List ℕ)) (rest : List ℕ) → count ≤ i → 0 < length rest → Ahead total size pairs before (count - i) at rest → total ≡ Err at
unfolding read_pairs
stays total size count i at pairs before [] le some ahead = absurd (omega arith)
stays total size count i at pairs before (b ∷ rest) le some ahead =
    let left : count - i ≡ 0 = omega arith in
    ahead.whole ∙ ap (λ n. joined pairs (read_pairs n before at (b ∷ rest))) left

-- ---- bytes

-- numbers below 256 are bytes
pub are_bytes : (bytes : List ℕ) → ((i : ℕ) → get_or bytes i 0 < 256) → AreBytes bytes
are_bytes [] h = refl
are_bytes (b ∷ bytes) h = and_from (nat_lt b 256) (list_all (λ b. nat_lt b 256) bytes) (lt-ltb b 256 (h 0)) (are_bytes bytes (λ i. h (suc i)))
