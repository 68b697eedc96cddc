-- Bytes that open to records are read as these.
use Rattle.std.proofs.Common.{◌≡◌, ◌≢◌, ℕ, zero, suc, ◌+◌, ◌-◌, ◌^◌, ◌<◌, ◌≤◌, List, [], ◌∷◌, ◌++◌, Bool, true, false, Some, None, Ok, length, take, drop, get_or, refl, sym, ap, ◌∙◌, append_assoc, length-append, arith}
use Rattle.std.specs.Prelude.{◌==◌, nat_lt, if◌then◌else◌}
use Rattle.std.specs.Str.{bytes_eq}
use Rattle.std.proofs.lemmas.Bool.{and_from, lt-ltb, eq-eqb, ne_eqb}
use Rattle.std.proofs.lemmas.List.{drop-drop, drop_at, length-drop, get_or-drop}
use Rattle.byteorder.specs.Numbers.{length-bytes_high_first}
use Rattle.wire_codec.specs.Reading.{Exact, number, number_bytes, text}
use Rattle.wire_codec.specs.laws.Entries.{Between}
use Rattle.wire_codec.specs.laws.Joined.{are_both, is_text}
use Rattle.wire_codec.specs.laws.Numbers.{is_number}
use Rattle.log_record.specs.declared.record.Record.{Record}
use Rattle.log_record.specs.declared.reached.Reached.{Reached}
use Rattle.log_record.specs.Record.{record_bytes}
use Rattle.gate_files.specs.Gates.{gated, header}
use Rattle.log_record.specs.Store.{AreSmall, IsSmall, all_gated, Opening, after, begins, follows, from_place, gated_at, nothing_yet, reached, sized_at, store_of}
use Rattle.log_record.specs.laws.Whole.{read_back}

abbrev pub IsSized : ℕ × List ℕ → Type 0
IsSized p = Between 0 (2 ^ 32 - 1) p.0 × (length p.1 ≡ p.0)

pub sized_exact : Exact sized_at IsSized (λ p. number_bytes 4 p.0 ++ p.1)
sized_exact =
    are_both (number 4 0 (2 ^ 32 - 1)) text (Between 0 (2 ^ 32 - 1)) (λ n l. length l ≡ n) (number_bytes 4) (λ n l. l) (is_number 4 0 (2 ^ 32 - 1) (omega arith) (omega arith)) (λ n g. is_text n) (λ n g. some n)
  where
    some : (n : ℕ) → (l : List ℕ) × (length l ≡ n)
    some zero = ([], refl)
    some (suc n) = let l = some n in (0 ∷ l.0, (let e = l.1 in omega (arith, e)))

module _ (bytes : List ℕ) (at : ℕ) (h : at ≤ length bytes) where
  -- the byte at a place begins what stands there
  first_byte : (g : ℕ) (rest : List ℕ) → drop at bytes ≡ g ∷ rest → get_or bytes at 0 ≡ g
  first_byte g rest e =
      let there : at + 0 ≡ at = omega arith in
      ap (λ (k : ℕ). get_or bytes k 0) (sym there) ∙ sym (get_or-drop at bytes 0 0) ∙ ap (λ (l : List ℕ). get_or l 0 0) e

  module _ (r : Record) (g : IsSmall r) (rest : List ℕ) (some : 0 < length rest) (e : drop at bytes ≡ gated (record_bytes r) ++ rest) where
    abbrev next : ℕ
    next = at + length (gated (record_bytes r))

    sized : length (gated (record_bytes r)) ≡ 5 + length (record_bytes r)
    sized = let l = length-append (number_bytes 4 (length (record_bytes r))) (record_bytes r) in let n = length-bytes_high_first 4 (length (record_bytes r)) in omega (arith, l, n)

    total : length bytes ≡ at + length (gated (record_bytes r)) + length rest
    total = let l = ap (λ (x : List ℕ). length x) e in let a = length-append (gated (record_bytes r)) rest in let d = length-drop at bytes in omega (arith, l, a, d, h)

    after_gate : drop (at + 1) bytes ≡ (number_bytes 4 (length (record_bytes r)) ++ record_bytes r) ++ rest
    after_gate = sym (drop-drop 1 at bytes) ∙ ap (λ (l : List ℕ). drop 1 l) e

    pub rest_stands : drop next bytes ≡ rest
    rest_stands = sym (drop-drop (length (gated (record_bytes r))) at bytes) ∙ ap (λ (l : List ℕ). drop (length (gated (record_bytes r))) l) e ∙ drop_at (gated (record_bytes r)) rest (length (gated (record_bytes r))) refl

    pub within : next ≤ length bytes
    within = omega (arith, total)

    pub is_gated : gated_at bytes at ≡ Some (r, next)
    is_gated =
        let t = record_bytes r in
        let few = g.few in
        let read = sized_exact.back (length t, t) bytes rest (at + 1) ((omega arith, omega (arith, few)), refl) (omega (arith, total, sized)) after_gate in
        let l = length-append (number_bytes 4 (length t)) t in
        let place : at + 1 + length (number_bytes 4 (length t) ++ t) ≡ next = omega (arith, l, sized, length-bytes_high_first 4 (length t)) in
        let inside : nat_lt next (length bytes) ≡ true = lt-ltb next (length bytes) (omega (arith, total, some)) in
        let back = read_back t r g.good refl in
        rw (read, place, inside, back) refl

module _ (file : ℕ) (bytes : List ℕ) (g : ℕ) (tail : List ℕ) (shut : g ≢ 1) where
  from_records : (rs : List Record) (s t : Reached) (n at : ℕ) → AreSmall rs → reached file s rs ≡ Some t → length rs < n → at ≤ length bytes → drop at bytes ≡ all_gated rs ++ g ∷ tail → from_place n file s bytes at ≡ Ok (rs, at + length (all_gated rs))
  unfolding from_place
  from_records [] s t zero at a e l h d = absurd (omega (arith, l))
  from_records [] s t (suc n) at a e l h d =
      let closed : (get_or bytes at 0 == 1) ≡ false = ne_eqb (get_or bytes at 0) 1 (λ o. shut (sym (first_byte bytes at h g tail d) ∙ o)) in
      let same : at ≡ at + 0 = omega arith in
      rw closed (ap (λ (k : ℕ). let o : Opening = Ok ([], k) in o) same)
  from_records (r ∷ rs) s t zero at a e l h d = absurd (omega (arith, l))
  from_records (r ∷ rs) s t (suc n) at a e l h d = by (follows file s r) refl e (λ f. from_records rs (after s r) t n (next bytes at h r a.0 rest some d') a.1 f (omega (arith, l)) (within bytes at h r a.0 rest some d') (rest_stands bytes at h r a.0 rest some d'))
    where
      rest : List ℕ
      rest = all_gated rs ++ g ∷ tail

      some : 0 < length rest
      some = let l = length-append (all_gated rs) (g ∷ tail) in omega (arith, l)

      d' : drop at bytes ≡ gated (record_bytes r) ++ rest
      d' = d ∙ append_assoc (gated (record_bytes r)) (all_gated rs) (g ∷ tail)

      by : (b : Bool) → follows file s r ≡ b → (if b then reached file (after s r) rs else None) ≡ Some t
          → (reached file (after s r) rs ≡ Some t → from_place n file (after s r) bytes (at + length (gated (record_bytes r))) ≡ Ok (rs, at + length (gated (record_bytes r)) + length (all_gated rs)))
          → from_place (suc n) file s bytes at ≡ Ok (r ∷ rs, at + length (all_gated (r ∷ rs)))
      by true f e more =
          let open_gate : (get_or bytes at 0 == 1) ≡ true = eq-eqb (get_or bytes at 0) 1 (first_byte bytes at h 1 ((number_bytes 4 (length (record_bytes r)) ++ record_bytes r) ++ rest) d') in
          let there = is_gated bytes at h r a.0 rest some d' in
          let rest_read = more e in
          let l = length-append (gated (record_bytes r)) (all_gated rs) in
          let place : at + length (gated (record_bytes r)) + length (all_gated rs) ≡ at + length (all_gated (r ∷ rs)) = omega (arith, l) in
          rw (open_gate, there, f, rest_read, place) refl
      by false f e more = absurd cc

  -- bytes that open to records that follow each other are read as these
  pub stored : (rs : List Record) (t : Reached) → AreSmall rs → reached file nothing_yet rs ≡ Some t → bytes ≡ (header ++ all_gated rs) ++ g ∷ tail → store_of file bytes ≡ Ok (rs, length (header ++ all_gated rs))
  unfolding store_of
  stored rs t a e b =
      let long = ap (λ (l : List ℕ). length l) b ∙ length-append (header ++ all_gated rs) (g ∷ tail) in
      let head = length-append header (all_gated rs) in
      let shape : bytes ≡ header ++ (all_gated rs ++ g ∷ tail) = b ∙ append_assoc header (all_gated rs) (g ∷ tail) in
      let enough = many_bytes rs in
      let start : begins bytes ≡ true = begin_so shape (omega (arith, long, head)) in
      let stands : drop 8 bytes ≡ all_gated rs ++ g ∷ tail = ap (λ (l : List ℕ). drop 8 l) shape in
      let read = from_records rs nothing_yet t (length bytes) 8 a e (omega (arith, long, head, enough)) (omega (arith, long, head)) stands in
      let place : 8 + length (all_gated rs) ≡ length (header ++ all_gated rs) = omega (arith, head) in
      rw start (read ∙ ap (λ (k : ℕ). let o : Opening = Ok (rs, k) in o) place)
    where
      many_bytes : (rs : List Record) → length rs ≤ length (all_gated rs)
      many_bytes [] = omega arith
      many_bytes (r ∷ rs) = let l = length-append (gated (record_bytes r)) (all_gated rs) in let ih = many_bytes rs in omega (arith, l, ih)

      begin_so : bytes ≡ header ++ (all_gated rs ++ g ∷ tail) → 8 < length bytes → begins bytes ≡ true
      begin_so shape l = and_from (nat_lt 8 (length bytes)) (bytes_eq (take 8 bytes) header) (lt-ltb 8 (length bytes) l) (let t : take 8 bytes ≡ header = ap (λ (x : List ℕ). take 8 x) shape in ap (λ (x : List ℕ). bytes_eq x header) t)
