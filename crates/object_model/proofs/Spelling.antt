-- Objects have one image each.
use Rattle.std.proofs.Common.{◌≡◌, ◌≤◌, ◌<◌, ◌^◌, ℕ, List, [], ◌∷◌, ◌++◌, true, length, refl, sym, ap, ◌∙◌, arith, append_assoc, leb-true}
use Rattle.std.specs.Prelude.{◌&&◌, nat_lt, nat_le}
use Rattle.std.specs.List.{list_all, flat_map}
use Rattle.std.specs.Int.{to_be_bytes, from_be_bytes, w16, w32}
use Rattle.std.proofs.lemmas.Nat.{from_be_bytes-to_be_bytes_2, from_be_bytes-to_be_bytes_4}
use Rattle.std.proofs.lemmas.Bool.{and_parts}
use Rattle.host_ids.specs.declared.proposal.TheConstants.{MOST_COMMAND}
use Rattle.object_model.specs.Words.{is_key, is_value, is_name_byte}
use Rattle.object_model.specs.Object.{Pairs}
use Rattle.object_model.specs.declared.command.TheConstants.{MOST_KEYS}
use Rattle.object_model.specs.Image.{spelt, is_ascending, is_pair, HasOneSpelling}

-- two starts of one length before two ends give one list only where both are the same
split_alike : (a b c d : List ℕ) → length a ≡ length b → a ++ c ≡ b ++ d → (a ≡ b) × (c ≡ d)
split_alike [] [] c d l e = (refl, e)
split_alike [] (y ∷ b) c d l e = absurd (omega arith)
split_alike (x ∷ a) [] c d l e = absurd (omega arith)
split_alike (x ∷ a) (y ∷ b) c d l e =
    let rest = split_alike a b c d (omega arith) (cc) in
    (cc, rest.1)

-- numbers that two bytes spell alike
same_16 : (m n : ℕ) → m < 2 ^ 16 → n < 2 ^ 16 → to_be_bytes w16 m ≡ to_be_bytes w16 n → m ≡ n
same_16 m n h k e = sym (from_be_bytes-to_be_bytes_2 m h) ∙ ap (from_be_bytes w16) e ∙ from_be_bytes-to_be_bytes_2 n k

-- numbers that four bytes spell alike
same_32 : (m n : ℕ) → m < 2 ^ 32 → n < 2 ^ 32 → to_be_bytes w32 m ≡ to_be_bytes w32 n → m ≡ n
same_32 m n h k e = sym (from_be_bytes-to_be_bytes_4 m h) ∙ ap (from_be_bytes w32) e ∙ from_be_bytes-to_be_bytes_4 n k

-- a text that is spelt before others tells itself and those
spelt_alike : (a b c d : List ℕ) → length a < 2 ^ 16 → length b < 2 ^ 16 → spelt a ++ c ≡ spelt b ++ d → (a ≡ b) × (c ≡ d)
spelt_alike a b c d h k e =
    let whole : to_be_bytes w16 (length a) ++ (a ++ c) ≡ to_be_bytes w16 (length b) ++ (b ++ d) = sym (append_assoc (to_be_bytes w16 (length a)) a c) ∙ e ∙ append_assoc (to_be_bytes w16 (length b)) b d in
    let parts = split_alike (to_be_bytes w16 (length a)) (to_be_bytes w16 (length b)) (a ++ c) (b ++ d) refl whole in
    split_alike a b c d (same_16 (length a) (length b) h k parts.0) parts.1

-- a key and a value are short enough to be spelt
pub record IsShort (e : List ℕ × List ℕ) : Type 0 where
  pub key : length e.0 < 2 ^ 16
  pub value : length e.1 < 2 ^ 16

-- a pair of an object is short enough
pub short_pair : (e : List ℕ × List ℕ) → is_pair e ≡ true → IsShort e
short_pair e h =
    let parts = and_parts (is_key e.0 && is_value e.1) (nat_le (length e.1) MOST_COMMAND) h in
    let front = and_parts (is_key e.0) (is_value e.1) parts.0 in
    let most : length e.0 ≤ 64 = leb-true (length e.0) 64 (and_parts (list_all is_name_byte e.0 && nat_lt 0 (length e.0)) (nat_le (length e.0) 64) front.0).1 in
    let most_value : length e.1 ≤ MOST_COMMAND = leb-true (length e.1) MOST_COMMAND parts.1 in
    record { key = omega arith; value = omega arith }

-- a pair that is spelt before others tells itself and those
pair_alike : (e f : List ℕ × List ℕ) (c d : List ℕ) → IsShort e → IsShort f → (spelt e.0 ++ spelt e.1) ++ c ≡ (spelt f.0 ++ spelt f.1) ++ d → (e ≡ f) × (c ≡ d)
pair_alike e f c d h k q =
    let whole : spelt e.0 ++ (spelt e.1 ++ c) ≡ spelt f.0 ++ (spelt f.1 ++ d) = sym (append_assoc (spelt e.0) (spelt e.1) c) ∙ q ∙ append_assoc (spelt f.0) (spelt f.1) d in
    let first = spelt_alike e.0 f.0 (spelt e.1 ++ c) (spelt f.1 ++ d) h.key k.key whole in
    let second = spelt_alike e.1 f.1 c d h.value k.value first.1 in
    (λ i. (first.0 i, second.0 i), second.1)

-- as many pairs with one spelling are the same
pairs_alike : (a b : Pairs) → list_all is_pair a ≡ true → list_all is_pair b ≡ true → length a ≡ length b → flat_map (λ e. spelt e.0 ++ spelt e.1) a ≡ flat_map (λ e. spelt e.0 ++ spelt e.1) b → a ≡ b
pairs_alike [] [] h k l q = refl
pairs_alike [] (f ∷ b) h k l q = absurd (omega arith)
pairs_alike (e ∷ a) [] h k l q = absurd (omega arith)
pairs_alike (e ∷ a) (f ∷ b) h k l q =
    let these = and_parts (is_pair e) (list_all is_pair a) h in
    let those = and_parts (is_pair f) (list_all is_pair b) k in
    let parts = pair_alike e f _ _ (short_pair e these.0) (short_pair f those.0) q in
    let rest = pairs_alike a b these.1 those.1 (omega arith) parts.1 in
    λ i. parts.0 i ∷ rest i

-- two objects of one image are one
pub has_one_spelling : HasOneSpelling
has_one_spelling a b h k q =
    let these = and_parts (is_ascending a && list_all is_pair a) (nat_le (length a) MOST_KEYS) h in
    let those = and_parts (is_ascending b && list_all is_pair b) (nat_le (length b) MOST_KEYS) k in
    let most_a : length a ≤ 1000000 = leb-true (length a) MOST_KEYS these.1 in
    let most_b : length b ≤ 1000000 = leb-true (length b) MOST_KEYS those.1 in
    let parts = split_alike (to_be_bytes w32 (length a)) (to_be_bytes w32 (length b)) (flat_map (λ e. spelt e.0 ++ spelt e.1) a) (flat_map (λ e. spelt e.0 ++ spelt e.1) b) refl q in
    pairs_alike a b (and_parts (is_ascending a) _ these.0).1 (and_parts (is_ascending b) _ those.0).1 (same_32 (length a) (length b) (omega arith) (omega arith) parts.0) parts.1
