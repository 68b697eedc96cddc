-- How many bytes entries and batches have.
use Rattle.std.proofs.Common.{◌⊎◌, inl, inr, ◌≡◌, ℕ, suc, ◌+◌, ◌-◌, ◌<◌, ◌≤◌, ◌^◌, List, [], ◌∷◌, Bool, true, false, length, refl, subst, sym, ap, ◌∙◌, arith}
use Rattle.std.specs.Prelude.{◌==◌, ◌&&◌, nat_le, nat_lt}
use Rattle.std.specs.List.{flat_map}
use Rattle.std.proofs.lemmas.Bool.Decides.{leb_tells}
use Rattle.host_ids.specs.declared.batch.Batch.{Batch}
use Rattle.host_ids.specs.declared.entry.Entry.{Entry}
use Rattle.wire_types.specs.Grammar.{are_entries, is_entry}
use Rattle.wire_codec.specs.Entry.{entry_bytes}
use Rattle.log_record.specs.declared.record.TheConstants.{MOST_VOTE}
use Rattle.log_record.specs.Durable.{batch_record, is_small}
use Rattle.log_record.specs.Record.{are_from, most_entries, record_bytes}

-- two tests that come to the same
same_test : (a b c d : ℕ) → (a ≤ b → c ≤ d) → (c ≤ d → a ≤ b) → nat_le a b ≡ nat_le c d
same_test a b c d f g = by (leb_tells a b) (leb_tells c d)
  where
    by : ((nat_le a b ≡ true) × (a ≤ b)) ⊎ ((nat_le a b ≡ false) × (b < a)) → ((nat_le c d ≡ true) × (c ≤ d)) ⊎ ((nat_le c d ≡ false) × (d < c)) → nat_le a b ≡ nat_le c d
    by (inl x) (inl y) = x.0 ∙ sym y.0
    by (inr x) (inr y) = x.0 ∙ sym y.0
    by (inl x) (inr y) = absurd (let l = f x.1 in let m = y.1 in omega (arith, l, m))
    by (inr x) (inl y) = absurd (let l = g y.1 in let m = x.1 in omega (arith, l, m))

-- the two ways to say that entries have the indices from one on
from_is_after : (prev : ℕ) (es : List Entry) → are_from (prev + 1) es ≡ are_entries prev es
from_is_after prev [] = refl
from_is_after prev (e ∷ es) = ap (λ (x : Bool). (e.index == prev + 1) && is_entry e && x) (from_is_after (prev + 1) es)

module _ (b : Batch) (one : 1 ≤ b.first) where
  abbrev form : Bool
  form = nat_le b.vote MOST_VOTE && nat_le (length b.entries) (most_entries b.first)

  abbrev size : ℕ
  size = length (flat_map entry_bytes b.entries)

  same_entries : are_from b.first b.entries ≡ are_entries (b.first - 1) b.entries
  same_entries = let n : b.first ≡ b.first - 1 + 1 = omega (arith, one) in ap (λ (x : ℕ). are_from x b.entries) n ∙ from_is_after (b.first - 1) b.entries

  same_size : nat_lt (length (record_bytes (batch_record b))) (2 ^ 32) ≡ nat_le size (2 ^ 32 - 1 - 46)
  same_size = same_test (suc (length (record_bytes (batch_record b)))) (2 ^ 32) size (2 ^ 32 - 1 - 46) (λ l. omega (arith, l)) (λ l. omega (arith, l))

  -- a batch is small where its numbers, its entries and its bytes are as asked
  small_is : is_small (batch_record b) ≡ (form && are_entries (b.first - 1) b.entries && nat_le size (2 ^ 32 - 1 - 46))
  small_is = rw (same_entries, same_size) refl

  -- by parts, for the same entries
  module _ (shown : List Entry) (same : shown ≡ b.entries) (f : (nat_le b.vote MOST_VOTE && nat_le (length shown) (most_entries b.first)) ≡ true) where
    formed : form ≡ true
    formed = subst (λ (es : List Entry). (nat_le b.vote MOST_VOTE && nat_le (length es) (most_entries b.first)) ≡ true) same f

    ordered : (x : Bool) → are_entries (b.first - 1) shown ≡ x → are_entries (b.first - 1) b.entries ≡ x
    ordered x a = subst (λ (es : List Entry). are_entries (b.first - 1) es ≡ x) same a

    pub small_by_size : are_entries (b.first - 1) shown ≡ true → nat_le (length (flat_map entry_bytes shown)) (2 ^ 32 - 1 - 46) ≡ is_small (batch_record b)
    small_by_size a = ap (λ (es : List Entry). nat_le (length (flat_map entry_bytes es)) (2 ^ 32 - 1 - 46)) same ∙ sym (small_is ∙ (let o = ordered true a in rw (formed, o) refl))

    pub not_ordered : are_entries (b.first - 1) shown ≡ false → is_small (batch_record b) ≡ false
    not_ordered a = small_is ∙ (let o = ordered false a in rw (formed, o) refl)
