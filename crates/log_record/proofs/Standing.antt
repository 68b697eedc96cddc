-- What is read after an open gate stands there.
use Rattle.std.proofs.Common.{◌≡◌, ℕ, ◌+◌, ◌<◌, List, [], ◌∷◌, ◌++◌, Bool, true, false, Some, None, Result, Ok, Err, length, drop, get_or, refl, sym, ap, ◌∙◌, subst, append_assoc, length-append, arith}
use Rattle.std.specs.Prelude.{nat_lt, if◌then◌else◌}
use Rattle.std.proofs.lemmas.Bool.{and_from, and_parts}
use Rattle.std.proofs.lemmas.List.{drop_more}
use Rattle.byteorder.specs.Numbers.{length-bytes_high_first}
use Rattle.wire_codec.specs.Reading.{AreBytes, Stands, number_bytes}
use Rattle.wire_codec.specs.laws.Numbers.{bytes_drop}
use Rattle.log_record.specs.declared.record.Record.{Record}
use Rattle.log_record.specs.Record.{record_bytes, record_of}
use Rattle.gate_files.specs.Gates.{gated}
use Rattle.log_record.specs.Store.{IsSmall, gated_at, sized_at, whole_record, with_gate}
use Rattle.log_record.specs.laws.Stored.{IsSized, sized_exact}
use Rattle.log_record.specs.laws.Whole.{spelt}

-- a part of bytes is bytes
front_bytes : (a b : List ℕ) → AreBytes (a ++ b) → AreBytes a
front_bytes [] b y = refl
front_bytes (x ∷ a) b y = let p = and_parts (nat_lt x 256) _ y in and_from (nat_lt x 256) _ p.0 (front_bytes a b p.1)

pub record IsGated (bytes : List ℕ) (at : ℕ) (r : Record) (next : ℕ) : Type 0 where
  pub small : IsSmall r
  pub spelt_there : drop at bytes ≡ gated (record_bytes r) ++ drop next bytes
  pub place : next ≡ at + length (gated (record_bytes r))

module _ (bytes : List ℕ) (y : AreBytes bytes) (at : ℕ) (h : at < length bytes) (open_gate : get_or bytes at 0 ≡ 1) (r : Record) (next : ℕ) where
  from_sized : (p : ℕ × List ℕ) (n : ℕ) → Stands IsSized (λ q. number_bytes 4 q.0 ++ q.1) bytes (at + 1) p n → record_of p.1 ≡ Ok r → n ≡ next → IsGated bytes at r next
  from_sized p n s o e =
      let text_bytes : AreBytes p.1 = (
      let all = subst AreBytes s.spelt (bytes_drop (at + 1) bytes y) in
      let both = subst AreBytes (append_assoc (number_bytes 4 p.0) p.1 (drop n bytes)) all in
      front_bytes p.1 (drop n bytes) (rear_bytes (number_bytes 4 p.0) (p.1 ++ drop n bytes) both)) in
      let w = spelt p.1 text_bytes r o in
      let size : length (record_bytes r) ≡ p.0 = ap (λ (l : List ℕ). length l) (sym w.1) ∙ s.good.1 in
      let gate : drop at bytes ≡ 1 ∷ drop (at + 1) bytes = drop_more bytes at 0 h ∙ ap (λ (x : ℕ). x ∷ drop (at + 1) bytes) open_gate in
      let whole : number_bytes 4 p.0 ++ p.1 ≡ number_bytes 4 (length (record_bytes r)) ++ record_bytes r = ap (λ (k : ℕ). number_bytes 4 k ++ p.1) (sym size) ∙ ap (λ (l : List ℕ). number_bytes 4 (length (record_bytes r)) ++ l) w.1 in
      let l = length-append (number_bytes 4 p.0) p.1 in
      let m = length-append (number_bytes 4 (length (record_bytes r))) (record_bytes r) in
      let a = length-bytes_high_first 4 p.0 in
      let b = length-bytes_high_first 4 (length (record_bytes r)) in
      record {
        small = record { good = w.0; few = omega (arith, size, s.good.0.1) };
        spelt_there = gate ∙ ap (λ (x : List ℕ). 1 ∷ x) (s.spelt ∙ ap (λ (x : List ℕ). x ++ drop n bytes) whole) ∙ ap (λ (k : ℕ). gated (record_bytes r) ++ drop k bytes) e;
        place = omega (arith, e, s.after, l, m, a, b, s.good.1, size);
      }
    where
      rear_bytes : (a b : List ℕ) → AreBytes (a ++ b) → AreBytes b
      rear_bytes [] b y = y
      rear_bytes (x ∷ a) b y = rear_bytes a b (and_parts (nat_lt x 256) _ y).1

  pub is_gated_there : gated_at bytes at ≡ Some (r, next) → IsGated bytes at r next
  is_gated_there e = by (sized_at bytes (at + 1)) refl e
    where
      by_record : (p : ℕ × List ℕ) (n : ℕ) → Stands IsSized (λ q. number_bytes 4 q.0 ++ q.1) bytes (at + 1) p n → (o : Result Record ℕ) → record_of p.1 ≡ o → whole_record o n ≡ Some (r, next) → IsGated bytes at r next
      by_record p n s (Ok q) t e =
          let pair : (q, n) ≡ (r, next) = cc in
          let same : q ≡ r = ap (λ (x : Record × ℕ). x.0) pair in
          from_sized p n s (t ∙ ap (λ (x : Record). let z : Result Record ℕ = Ok x in z) same) (ap (λ (x : Record × ℕ). x.1) pair)
      by_record p n s (Err place) t e = absurd cc

      by_length : (p : ℕ × List ℕ) (n : ℕ) → Stands IsSized (λ q. number_bytes 4 q.0 ++ q.1) bytes (at + 1) p n → (b : Bool) → (if b then whole_record (record_of p.1) n else None) ≡ Some (r, next) → IsGated bytes at r next
      by_length p n s true e = by_record p n s (record_of p.1) refl e
      by_length p n s false e = absurd cc

      by : (o : Result ((ℕ × List ℕ) × ℕ) ℕ) → sized_at bytes (at + 1) ≡ o → with_gate bytes o ≡ Some (r, next) → IsGated bytes at r next
      by (Ok o) t e = by_length o.0 o.1 (sized_exact.spells o.0 bytes (at + 1) o.1 y (omega (arith, h)) t) (nat_lt o.1 (length bytes)) e
      by (Err place) t e = absurd cc
