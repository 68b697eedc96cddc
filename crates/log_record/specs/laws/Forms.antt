-- What is kept is in form, and comes to what is reached.
use Rattle.std.proofs.Common.{◌⊎◌, inl, inr, ◌≡◌, ℕ, zero, suc, ◌+◌, ◌-◌, ◌^◌, ◌<◌, ◌≤◌, List, [], ◌∷◌, ◌++◌, Bool, true, false, ◌&&◌, Some, None, length, take, drop, refl, sym, ap, ◌∙◌, subst, length-append, arith}
use Rattle.std.specs.List.{list_all}
use Rattle.std.specs.Prelude.{◌==◌, ◌||◌, nat_le, nat_lt, if◌then◌else◌}
use Rattle.std.proofs.lemmas.Bool.{and_from, and_parts, eqb-true, leb-true, ltb-true, or_cases}
use Rattle.std.proofs.lemmas.List.{length-drop, length-take}
use Rattle.host_ids.specs.declared.batch.Batch.{Batch}
use Rattle.host_ids.specs.declared.entry.Entry.{Entry}
use Rattle.wire_types.specs.Grammar.{is_end, is_entry}
use Rattle.wire_codec.specs.Entry.{fits}
use Rattle.log_record.specs.declared.record.Record.{Record}
use Rattle.log_record.specs.declared.record.Record.TheVariants as records
use Rattle.log_record.specs.declared.record.TheConstants.{MOST_VOTE}
use Rattle.log_record.specs.declared.reached.Reached.{Reached}
use Rattle.log_record.specs.Durable.{IsInForm, Reaches, batch_record, between, durable_of, nothing_kept, with_batch, with_record, with_records}
use Rattle.log_record.specs.Record.{are_from, fits_head, fits_record, is_record, most_entries}
use Rattle.log_record.specs.Store.{AreSmall, IsSmall, after, batch_follows, follows, is_log, no_gap, nothing_yet, reached}

-- ---- entries with the indices from one on

from_take : (n k : ℕ) (es : List Entry) → are_from k es ≡ true → are_from k (take n es) ≡ true
from_take zero k es f = refl
from_take (suc n) k [] f = refl
from_take (suc n) k (e ∷ es) f =
    let p = and_parts ((e.index == k) && is_entry e) (are_from (k + 1) es) f in
    and_from ((e.index == k) && is_entry e) (are_from (k + 1) (take n es)) p.0 (from_take n (k + 1) es p.1)

from_drop : (n k : ℕ) (es : List Entry) → are_from k es ≡ true → (are_from (k + n) (drop n es) ≡ true)
from_drop zero k es f = let n : k ≡ k + 0 = omega arith in ap (λ (x : ℕ). are_from x es) (sym n) ∙ f
from_drop (suc n) k [] f = refl
from_drop (suc n) k (e ∷ es) f =
    let p = and_parts ((e.index == k) && is_entry e) (are_from (k + 1) es) f in
    let m : k + suc n ≡ k + 1 + n = omega arith in
    ap (λ (x : ℕ). are_from x (drop n es)) m ∙ from_drop n (k + 1) es p.1

from_append : (k : ℕ) (xs ys : List Entry) → are_from k xs ≡ true → are_from (k + length xs) ys ≡ true → are_from k (xs ++ ys) ≡ true
from_append k [] ys f g = let n : k ≡ k + 0 = omega arith in ap (λ (x : ℕ). are_from x ys) n ∙ g
from_append k (x ∷ xs) ys f g =
    let p = and_parts ((x.index == k) && is_entry x) (are_from (k + 1) xs) f in
    let m : k + length (x ∷ xs) ≡ k + 1 + length xs = omega arith in
    and_from ((x.index == k) && is_entry x) (are_from (k + 1) (xs ++ ys)) p.0 (from_append (k + 1) xs ys p.1 (ap (λ (i : ℕ). are_from i ys) (sym m) ∙ g))

-- ---- one batch more

pub record Follows (s : Reached) (b : Batch) : Type 0 where
  pub after_front : b.front < b.first
  pub no_gap : (b.first - 1 ≤ s.last) ⊎ (b.first - 1 ≡ b.front)
  pub ends : is_end b.front b.front_term ≡ true
  pub front : s.front ≤ b.front

pub follows_parts : (file : ℕ) (s : Reached) (b : Batch) → follows file s (batch_record b) ≡ true → Follows s b
follows_parts file s b f =
    let count = length b.entries in
    let all = (and_parts (is_log file) (batch_follows s b.term b.commit b.front b.front_term b.first count) f).1 in
    let a = and_parts (no_gap s b.front b.first && nat_le b.front b.commit && nat_lt b.commit (b.first + count) && is_end b.front b.front_term && nat_le s.term b.term && nat_le s.commit b.commit) (nat_le s.front b.front) all in
    let c = and_parts (no_gap s b.front b.first && nat_le b.front b.commit && nat_lt b.commit (b.first + count) && is_end b.front b.front_term && nat_le s.term b.term) (nat_le s.commit b.commit) a.0 in
    let d = and_parts (no_gap s b.front b.first && nat_le b.front b.commit && nat_lt b.commit (b.first + count) && is_end b.front b.front_term) (nat_le s.term b.term) c.0 in
    let e = and_parts (no_gap s b.front b.first && nat_le b.front b.commit && nat_lt b.commit (b.first + count)) (is_end b.front b.front_term) d.0 in
    let g = and_parts (no_gap s b.front b.first && nat_le b.front b.commit) (nat_lt b.commit (b.first + count)) e.0 in
    let h = and_parts (no_gap s b.front b.first) (nat_le b.front b.commit) g.0 in
    let n = and_parts (nat_lt b.front b.first) (nat_le (b.first - 1) s.last || (b.first - 1 == b.front)) h.0 in
    record {
      after_front = ltb-true b.front b.first n.0;
      no_gap = by (or_cases (nat_le (b.first - 1) s.last) (b.first - 1 == b.front) n.1);
      ends = e.1;
      front = leb-true s.front b.front a.1;
    }
  where
    by : (nat_le (b.first - 1) s.last ≡ true) ⊎ ((b.first - 1 == b.front) ≡ true) → (b.first - 1 ≤ s.last) ⊎ (b.first - 1 ≡ b.front)
    by (inl l) = inl (leb-true (b.first - 1) s.last l)
    by (inr e) = inr (eqb-true (b.first - 1) b.front e)

module _ (file : ℕ) (s : Reached) (d b : Batch) (is : IsInForm d) (r : Reaches s d) (formed : is_record (batch_record b) ≡ true) (narrow : b.first < 2 ^ 64) (f : Follows s b) where
  parts : (b.vote ≤ MOST_VOTE) × (length b.entries ≤ most_entries b.first) × (are_from b.first b.entries ≡ true)
  parts =
      let p = and_parts (nat_le b.vote MOST_VOTE && nat_le (length b.entries) (most_entries b.first)) (are_from b.first b.entries) formed in
      let q = and_parts (nat_le b.vote MOST_VOTE) (nat_le (length b.entries) (most_entries b.first)) p.0 in
      (leb-true b.vote MOST_VOTE q.0, leb-true (length b.entries) (most_entries b.first) q.1, p.1)

  abbrev gone : ℕ
  gone = b.front - d.front

  abbrev stay : ℕ
  stay = b.first - 1 - d.front

  count : length (between d b.front b.first) ≡ b.first - 1 - b.front
  count = by f.no_gap
    where
      cut : length (between d b.front b.first) ≡ length (take stay d.entries) - gone
      cut = length-drop gone (take stay d.entries)

      by : (b.first - 1 ≤ s.last) ⊎ (b.first - 1 ≡ b.front) → length (between d b.front b.first) ≡ b.first - 1 - b.front
      by (inl l) = let t = length-take stay d.entries in omega (arith, cut, t, l, r.last, r.front, f.front, f.after_front)
      by (inr e) = let t = length-take stay d.entries in omega (arith, cut, t, e, r.front, f.front, f.after_front)

  old : are_from (b.front + 1) (between d b.front b.first) ≡ true
  old =
      let place : d.front + 1 + gone ≡ b.front + 1 = omega (arith, r.front, f.front) in
      ap (λ (x : ℕ). are_from x (between d b.front b.first)) (sym place) ∙ from_drop gone (d.front + 1) (take stay d.entries) (from_take stay (d.front + 1) d.entries is.formed)

  all : are_from (b.front + 1) (between d b.front b.first ++ b.entries) ≡ true
  all =
      let place : b.front + 1 + length (between d b.front b.first) ≡ b.first = omega (arith, count, f.after_front) in
      from_append (b.front + 1) (between d b.front b.first) b.entries old (ap (λ (x : ℕ). are_from x b.entries) place ∙ parts.2)

  total : b.front + length (between d b.front b.first ++ b.entries) ≡ b.first - 1 + length b.entries
  total = let l = length-append (between d b.front b.first) b.entries in omega (arith, l, count, f.after_front)

  -- what is kept with a batch that follows is in form
  pub batch_in_form : IsInForm (with_batch d b)
  batch_in_form = record { first = refl; vote = parts.0; front = f.ends; formed = all; within = (let m = parts.1 in omega (arith, total, m, narrow, f.after_front)) }

  pub batch_reaches : Reaches (after s (batch_record b)) (with_batch d b)
  batch_reaches = record { term = refl; commit = refl; front = refl; last = total }

-- ---- all records of a file

narrow_batch : (term vote commit front front_term first : ℕ) (entries : List Entry) → fits_record (records.Batch term vote commit front front_term first entries) ≡ true → first < 2 ^ 64
narrow_batch term vote commit front front_term first entries f =
    let p = and_parts (fits_head term commit front front_term first) (list_all fits entries) f in
    ltb-true first (2 ^ 64) (and_parts (nat_lt term (2 ^ 64) && nat_lt commit (2 ^ 64) && nat_lt front (2 ^ 64) && nat_lt front_term (2 ^ 64)) (nat_lt first (2 ^ 64)) p.0).1

one_in_form : (file : ℕ) (s : Reached) (d : Batch) (r : Record) → IsInForm d → Reaches s d → IsSmall r → follows file s r ≡ true → IsInForm (with_record d r) × Reaches (after s r) (with_record d r)
one_in_form file s d (records.Batch term vote commit front front_term first entries) is c g f =
    let b : Batch = record { id = 0; term = term; vote = vote; commit = commit; front = front; front_term = front_term; first = first; entries = entries } in
    let narrow = narrow_batch term vote commit front front_term first entries g.good.fitting in
    let parts = follows_parts file s b f in
    (batch_in_form file s d b is c g.good.well_formed narrow parts, batch_reaches file s d b is c g.good.well_formed narrow parts)
one_in_form file s d (records.Start number) is c g f = (is, record { term = c.term; commit = c.commit; front = c.front; last = c.last })

rest_in_form : (file : ℕ) (rs : List Record) (s t : Reached) (d : Batch) → IsInForm d → Reaches s d → AreSmall rs → reached file s rs ≡ Some t → IsInForm (with_records d rs) × Reaches t (with_records d rs)
rest_in_form file [] s t d is c a e = let same : s ≡ t = cc in (is, subst (λ (x : Reached). Reaches x d) same c)
rest_in_form file (r ∷ rs) s t d is c a e = by (follows file s r) refl (λ one e'. rest_in_form file rs (after s r) t (with_record d r) one.0 one.1 a.1 e') e
  where
    by : (b : Bool) → follows file s r ≡ b → (IsInForm (with_record d r) × Reaches (after s r) (with_record d r) → reached file (after s r) rs ≡ Some t → IsInForm (with_records d (r ∷ rs)) × Reaches t (with_records d (r ∷ rs)))
        → (if b then reached file (after s r) rs else None) ≡ Some t → IsInForm (with_records d (r ∷ rs)) × Reaches t (with_records d (r ∷ rs))
    by true f more e = more (one_in_form file s d r is c a.0 f) e
    by false f more e = absurd cc

-- what the records of a file keep is in form, and comes to what they reach
pub durable_in_form : (file : ℕ) (rs : List Record) (t : Reached) → AreSmall rs → reached file nothing_yet rs ≡ Some t → IsInForm (durable_of rs) × Reaches t (durable_of rs)
durable_in_form file rs t a e =
    rest_in_form file rs nothing_yet t nothing_kept (record { first = refl; vote = omega arith; front = refl; formed = refl; within = omega arith }) (record { term = refl; commit = refl; front = refl; last = refl }) a e

-- ---- one record more

pub with_records_push : (rs : List Record) (d : Batch) (r : Record) → with_records d (rs ++ r ∷ []) ≡ with_record (with_records d rs) r
with_records_push [] d r = refl
with_records_push (q ∷ rs) d r = with_records_push rs (with_record d q) r
