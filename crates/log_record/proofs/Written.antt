-- Well-formed entries, whatever their indices.
use Rattle.std.proofs.Common.{◌≡◌, ℕ, ◌+◌, ◌%◌, ◌<◌, List, [], ◌∷◌, ◌++◌, true, ◌&&◌, Result, Ok, Err, OnOk, length, drop, take, get_or, refl, sym, ap, ◌∙◌, append_assoc, subst, arith}
use Rattle.std.specs.Prelude.{◌==◌, nat_le}
use Rattle.std.specs.List.{flat_map, list_all}
use Rattle.std.proofs.lemmas.List.{drop_more}
use Rattle.std.proofs.lemmas.List.Folds.{list_all_more}
use Rattle.std.proofs.lemmas.Bool.{and_from, and_parts}
use Rattle.host_ids.specs.declared.entry.Entry.{Entry}
use Rattle.wire_types.specs.Grammar.{is_entry}
use Rattle.wire_codec.specs.Reading.{number_bytes}
use Rattle.wire_codec.specs.Entry.{entry_bytes, fits}
use Rattle.log_record.specs.declared.record.Record.{Record}
use Rattle.log_record.specs.declared.record.Record.TheVariants as records
use Rattle.log_record.specs.declared.record.TheConstants.{MOST_VOTE}
use Rattle.log_record.specs.Record.{are_from, head_bytes, is_record, most_entries, record_bytes}

pub all_formed : (first : ℕ) (es : List Entry) → are_from first es ≡ true → list_all is_entry es ≡ true
all_formed first [] f = refl
all_formed first (e ∷ es) f =
    let p = and_parts ((e.index == first) && is_entry e) (are_from (first + 1) es) f in
    let q = and_parts (e.index == first) (is_entry e) p.0 in
    and_from (is_entry e) (list_all is_entry es) q.1 (all_formed (first + 1) es p.1)

-- one part more
pub more : (old parts part before after : List ℕ) → before ≡ old ++ parts → after ≡ before ++ part → after ≡ old ++ (parts ++ part)
more old parts part before after b a = a ∙ ap (λ (l : List ℕ). l ++ part) b ∙ append_assoc old parts part

pub on_ok : {E : Type 0} (r : Result (Unit {0}) E) (P Q : Type 0) → (P → Q) → OnOk r P → OnOk r Q
on_ok (Ok u) P Q f p = f p
on_ok (Err e) P Q f p = tt

pub small : (n : ℕ) → n < 256 → n ∷ [] ≡ number_bytes 1 n
small n l = let e : n ≡ n % 256 = omega (arith, l) in ap (λ (x : ℕ). x ∷ []) e

-- one entry more is written
pub advances : (out new : List ℕ) (es : List Entry) (i : ℕ) (e : Entry) → i < length es → e ≡ get_or es i e → new ≡ out ++ entry_bytes e → new ++ flat_map entry_bytes (drop (i + 1) es) ≡ out ++ flat_map entry_bytes (drop i es)
advances out new es i e l is n =
    let first : drop i es ≡ e ∷ drop (i + 1) es = drop_more es i e l ∙ ap (λ (x : Entry). x ∷ drop (i + 1) es) (sym is) in
    ap (λ (x : List ℕ). x ++ flat_map entry_bytes (drop (i + 1) es)) n ∙ append_assoc out (entry_bytes e) (flat_map entry_bytes (drop (i + 1) es)) ∙ ap (λ (x : List Entry). out ++ flat_map entry_bytes x) (sym first)

-- one entry more fits
pub one_fits : (es : List Entry) (i : ℕ) (e : Entry) → i < length es → e ≡ get_or es i e → list_all fits (take i es) ≡ true → fits e ≡ true → list_all fits (take (i + 1) es) ≡ true
one_fits es i e l is before fitting = list_all_more fits es i e l ∙ and_from (list_all fits (take i es)) (fits (get_or es i e)) before (ap fits (sym is) ∙ fitting)

module _ (r : Record) (term vote commit front front_term first : ℕ) (entries : List Entry) (is : r ≡ records.Batch term vote commit front front_term first entries) where
  formed : is_record r ≡ true → is_record (records.Batch term vote commit front front_term first entries) ≡ true
  formed g = subst (λ (x : Record). is_record x ≡ true) is g

  pub batch_formed : is_record r ≡ true → list_all is_entry entries ≡ true
  batch_formed g = all_formed first entries (and_parts (nat_le vote MOST_VOTE && nat_le (length entries) (most_entries first)) (are_from first entries) (formed g)).1

  pub batch_written : (old head new : List ℕ) → head ≡ old ++ head_bytes term vote commit front front_term first → (shown : List Entry) → shown ≡ entries
      → new ≡ head ++ (number_bytes 4 (length shown) ++ flat_map entry_bytes shown) → new ≡ old ++ record_bytes r
  batch_written old head new h shown s n =
      more old (head_bytes term vote commit front front_term first) (number_bytes 4 (length entries) ++ flat_map entry_bytes entries) head new h (n ∙ ap (λ (x : List Entry). head ++ (number_bytes 4 (length x) ++ flat_map entry_bytes x)) s)
      ∙ ap (λ (x : Record). old ++ record_bytes x) (sym is)
