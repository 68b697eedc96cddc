-- Records are read exactly.
use Rattle.std.proofs.Common.{◌≡◌, ℕ, zero, suc, ◌+◌, ◌-◌, ◌^◌, ◌≤◌, List, [], ◌∷◌, ◌++◌, Bool, true, false, ◌&&◌, length, refl, sym, ap, subst, inl, inr, arith}
use Rattle.std.specs.Prelude.{◌==◌, nat_le, nat_lt, if◌then◌else◌}
use Rattle.std.specs.List.{flat_map, list_all}
use Rattle.std.proofs.lemmas.Bool.{le-leb, leb-true, lt-ltb, ltb-true, eqb-true, eqb-false, eq-eqb, and_from, and_parts, cases_eq}
use Rattle.host_ids.specs.declared.entry.Entry.{Entry}
use Rattle.wire_types.specs.Grammar.{is_entry}
use Rattle.wire_codec.specs.Reading.{Reader, number, number_bytes, both, made, many, AreGood, Exact}
use Rattle.wire_codec.specs.Entry.{greatest, entry_bytes, entry_at, fits, IsEntryAt}
use Rattle.wire_codec.specs.laws.Entries.{Between, is_entry_at, some_entry, wide}
use Rattle.wire_codec.specs.laws.Joined.{is_made, are_both, are_many}
use Rattle.wire_codec.specs.laws.Numbers.{is_number}
use Rattle.log_record.specs.declared.record.Record.{Record}
use Rattle.log_record.specs.declared.record.Record.TheVariants as records
use Rattle.log_record.specs.declared.record.TheConstants.{BATCH, START, MOST_VOTE}
use Rattle.log_record.specs.Record.{are_from, most_entries, IsRecord, Counted, BatchParts, batch_bytes, entries_at, batch_at, of_batch, record_bytes, of_start, tagged, without_tag, record_at}

-- ---- entries

module _ (first : ℕ) where
  abbrev IsCounted : Counted → Type 0
  IsCounted p = Between 0 (most_entries first) p.0 × AreGood IsEntryAt first p.0 p.1

  abbrev counted_bytes : Counted → List ℕ
  counted_bytes p = number_bytes 4 p.0 ++ flat_map entry_bytes p.1

  few : most_entries first ≤ 2 ^ 32 - 1
  few = omega arith

  pub entries_exact : Exact (entries_at first) IsCounted counted_bytes
  entries_exact =
      are_both (number 4 0 (most_entries first)) (λ count. many entry_at first count) (Between 0 (most_entries first)) (AreGood IsEntryAt first) (number_bytes 4) (λ count. flat_map entry_bytes)
      (is_number 4 0 (most_entries first) (omega arith) (omega (arith, few))) (λ count g. are_many entry_at IsEntryAt entry_bytes is_entry_at some_entry first count) (λ count g. some_entries first count)
    where
      some_entries : (i n : ℕ) → (l : List Entry) × AreGood IsEntryAt i n l
      some_entries i zero = ([], tt)
      some_entries i (suc n) = let l = some_entries (i + 1) n in let e = some_entry i in (e.0 ∷ l.0, (e.1, l.1))

  pub no_entries : (p : Counted) × IsCounted p
  no_entries = ((0, []), ((omega arith, omega arith), tt))

-- entries are good exactly where they are well formed and numbered, and fit
pub from_good : (i : ℕ) (es : List Entry) (n : ℕ) → AreGood IsEntryAt i n es → (length es ≡ n) × (are_from i es ≡ true) × (list_all fits es ≡ true)
from_good i [] zero g = (refl, refl, refl)
from_good i [] (suc n) g = absurd g
from_good i (e ∷ es) zero g = absurd g
from_good i (e ∷ es) (suc n) g =
    let rest = from_good (i + 1) es n g.1 in (
      omega (arith, rest.0),
      and_from ((e.index == i) && is_entry e) (are_from (i + 1) es) (and_from (e.index == i) (is_entry e) (eq-eqb e.index i g.0.numbered) g.0.well_formed) rest.1,
      and_from (fits e) (list_all fits es) g.0.fitting rest.2,
    )

pub to_good : (i : ℕ) (es : List Entry) → are_from i es ≡ true → list_all fits es ≡ true → AreGood IsEntryAt i (length es) es
to_good i [] f a = tt
to_good i (e ∷ es) f a =
    let p = and_parts ((e.index == i) && is_entry e) (are_from (i + 1) es) f in
    let q = and_parts (e.index == i) (is_entry e) p.0 in
    let r = and_parts (fits e) (list_all fits es) a in
    (record { numbered = eqb-true e.index i q.0; well_formed = q.1; fitting = r.0 }, to_good (i + 1) es p.1 r.1)

-- ---- batches

abbrev AfterTerm : ℕ × (ℕ × Counted) → Type 0
AfterTerm p = Between 0 greatest p.0 × (Between 0 greatest p.1.0 × IsCounted p.1.0 p.1.1)

abbrev AfterCommit : ℕ × (ℕ × (ℕ × Counted)) → Type 0
AfterCommit p = Between 0 greatest p.0 × AfterTerm p.1

abbrev AfterVote : ℕ × (ℕ × (ℕ × (ℕ × Counted))) → Type 0
AfterVote p = Between 0 greatest p.0 × AfterCommit p.1

abbrev pub RawBatch : BatchParts → Type 0
RawBatch p = Between 0 greatest p.0 × (Between 0 MOST_VOTE p.1.0 × AfterVote p.1.1)

abbrev first_bytes : ℕ × Counted → List ℕ
first_bytes p = number_bytes 8 p.0 ++ counted_bytes p.0 p.1

abbrev front_term_bytes : ℕ × (ℕ × Counted) → List ℕ
front_term_bytes p = number_bytes 8 p.0 ++ first_bytes p.1

abbrev front_bytes : ℕ × (ℕ × (ℕ × Counted)) → List ℕ
front_bytes p = number_bytes 8 p.0 ++ front_term_bytes p.1

abbrev commit_bytes : ℕ × (ℕ × (ℕ × (ℕ × Counted))) → List ℕ
commit_bytes p = number_bytes 8 p.0 ++ front_bytes p.1

abbrev vote_bytes : ℕ × (ℕ × (ℕ × (ℕ × (ℕ × Counted)))) → List ℕ
vote_bytes p = number_bytes 1 p.0 ++ commit_bytes p.1

any : Exact (number 8 0 greatest) (Between 0 greatest) (number_bytes 8)
any = wide 0 greatest (omega arith) (omega arith)

zero_is : Between 0 greatest 0
zero_is = (omega arith, omega arith)

some_first : (p : ℕ × Counted) × (Between 0 greatest p.0 × IsCounted p.0 p.1)
some_first = let e = no_entries 0 in ((0, e.0), (zero_is, e.1))

some_after_term : (p : ℕ × (ℕ × Counted)) × AfterTerm p
some_after_term = let e = some_first in ((0, e.0), (zero_is, e.1))

some_after_commit : (p : ℕ × (ℕ × (ℕ × Counted))) × AfterCommit p
some_after_commit = let e = some_after_term in ((0, e.0), (zero_is, e.1))

some_after_vote : (p : ℕ × (ℕ × (ℕ × (ℕ × Counted)))) × AfterVote p
some_after_vote = let e = some_after_commit in ((0, e.0), (zero_is, e.1))

some_vote : (p : ℕ × (ℕ × (ℕ × (ℕ × (ℕ × Counted))))) × (Between 0 MOST_VOTE p.0 × AfterVote p.1)
some_vote = let e = some_after_vote in ((0, e.0), ((omega arith, omega arith), e.1))

abbrev from_first : Reader (ℕ × Counted)
from_first = both (number 8 0 greatest) entries_at

abbrev from_front_term : Reader (ℕ × (ℕ × Counted))
from_front_term = both (number 8 0 greatest) (λ front_term. from_first)

abbrev from_front : Reader (ℕ × (ℕ × (ℕ × Counted)))
from_front = both (number 8 0 greatest) (λ front. from_front_term)

abbrev from_commit : Reader (ℕ × (ℕ × (ℕ × (ℕ × Counted))))
from_commit = both (number 8 0 greatest) (λ commit. from_front)

abbrev from_vote : Reader (ℕ × (ℕ × (ℕ × (ℕ × (ℕ × Counted)))))
from_vote = both (number 1 0 MOST_VOTE) (λ vote. from_commit)

first_exact : Exact from_first (λ p. Between 0 greatest p.0 × IsCounted p.0 p.1) first_bytes
first_exact = are_both (number 8 0 greatest) entries_at (Between 0 greatest) IsCounted (number_bytes 8) counted_bytes any (λ first g. entries_exact first) (λ first g. no_entries first)

front_term_exact : Exact from_front_term AfterTerm front_term_bytes
front_term_exact = are_both (number 8 0 greatest) (λ n. from_first) (Between 0 greatest) (λ n p. Between 0 greatest p.0 × IsCounted p.0 p.1) (number_bytes 8) (λ n. first_bytes) any (λ n g. first_exact) (λ n g. some_first)

front_exact : Exact from_front AfterCommit front_bytes
front_exact = are_both (number 8 0 greatest) (λ n. from_front_term) (Between 0 greatest) (λ n. AfterTerm) (number_bytes 8) (λ n. front_term_bytes) any (λ n g. front_term_exact) (λ n g. some_after_term)

commit_exact : Exact from_commit AfterVote commit_bytes
commit_exact = are_both (number 8 0 greatest) (λ n. from_front) (Between 0 greatest) (λ n. AfterCommit) (number_bytes 8) (λ n. front_bytes) any (λ n g. front_exact) (λ n g. some_after_commit)

vote_exact : Exact from_vote (λ p. Between 0 MOST_VOTE p.0 × AfterVote p.1) vote_bytes
vote_exact =
    are_both (number 1 0 MOST_VOTE) (λ n. from_commit) (Between 0 MOST_VOTE) (λ n. AfterVote) (number_bytes 1) (λ n. commit_bytes) (is_number 1 0 MOST_VOTE (omega arith) (omega arith)) (λ n g. commit_exact) (λ n g. some_after_vote)

batch_exact : Exact batch_at RawBatch batch_bytes
batch_exact = are_both (number 8 0 greatest) (λ n. from_vote) (Between 0 greatest) (λ n p. Between 0 MOST_VOTE p.0 × AfterVote p.1) (number_bytes 8) (λ n. vote_bytes) any (λ n g. vote_exact) (λ n g. some_vote)

-- ---- a batch as a record

abbrev pub tag_of : Record → ℕ
tag_of (records.Batch term vote commit front front_term first entries) = BATCH
tag_of (records.Start number) = START

-- what stands after the tag
abbrev pub rest_of : Record → List ℕ
rest_of (records.Batch term vote commit front front_term first entries) = batch_bytes (term, (vote, (commit, (front, (front_term, (first, (length entries, entries)))))))
rest_of (records.Start number) = number_bytes 8 number

-- a record of this tag
abbrev pub IsOf : ℕ → Record → Type 0
IsOf tag r = (tag_of r ≡ tag) × IsRecord r

abbrev the_batch : Record → BatchParts
the_batch (records.Batch term vote commit front front_term first entries) = (term, (vote, (commit, (front, (front_term, (first, (length entries, entries)))))))
the_batch (records.Start number) = (0, (0, (0, (0, (0, (0, (0, [])))))))

abbrev the_start : Record → ℕ
the_start (records.Batch term vote commit front front_term first entries) = 0
the_start (records.Start number) = number

no_start : (n : ℕ) → BATCH ≡ START → ⊥
no_start n e = omega (arith, e)

module _ (term vote commit front front_term first : ℕ) (entries : List Entry) where
  abbrev batch : Record
  batch = records.Batch term vote commit front front_term first entries

  raw_batch : IsRecord batch → RawBatch (the_batch batch)
  raw_batch g =
      let w = and_parts (nat_le vote MOST_VOTE && nat_le (length entries) (most_entries first)) (are_from first entries) g.well_formed in
      let v = and_parts (nat_le vote MOST_VOTE) (nat_le (length entries) (most_entries first)) w.0 in
      let e = and_parts (nat_lt term (2 ^ 64) && nat_lt commit (2 ^ 64) && nat_lt front (2 ^ 64) && nat_lt front_term (2 ^ 64) && nat_lt first (2 ^ 64)) (list_all fits entries) g.fitting in
      let d = and_parts (nat_lt term (2 ^ 64) && nat_lt commit (2 ^ 64) && nat_lt front (2 ^ 64) && nat_lt front_term (2 ^ 64)) (nat_lt first (2 ^ 64)) e.0 in
      let c = and_parts (nat_lt term (2 ^ 64) && nat_lt commit (2 ^ 64) && nat_lt front (2 ^ 64)) (nat_lt front_term (2 ^ 64)) d.0 in
      let b = and_parts (nat_lt term (2 ^ 64) && nat_lt commit (2 ^ 64)) (nat_lt front (2 ^ 64)) c.0 in
      let a = and_parts (nat_lt term (2 ^ 64)) (nat_lt commit (2 ^ 64)) b.0 in
      (below term a.0, ((omega arith, leb-true vote MOST_VOTE v.0), (below commit a.1, (below front b.1, (below front_term c.1, (below first d.1, ((omega arith, leb-true (length entries) (most_entries first) v.1), to_good first entries w.1 e.1)))))))
    where
      below : (n : ℕ) → nat_lt n (2 ^ 64) ≡ true → Between 0 greatest n
      below n t = let l = ltb-true n (2 ^ 64) t in (omega arith, omega (arith, l))

  from_batch : RawBatch (the_batch batch) → IsRecord batch
  from_batch g =
      let e = from_good first entries (length entries) g.1.1.1.1.1.1.1 in
      record {
        well_formed = and_from (nat_le vote MOST_VOTE && nat_le (length entries) (most_entries first)) (are_from first entries) (and_from (nat_le vote MOST_VOTE) (nat_le (length entries) (most_entries first)) (le-leb vote MOST_VOTE g.1.0.1) (le-leb (length entries) (most_entries first) g.1.1.1.1.1.1.0.1)) e.1;
        fitting =
            and_from (nat_lt term (2 ^ 64) && nat_lt commit (2 ^ 64) && nat_lt front (2 ^ 64) && nat_lt front_term (2 ^ 64) && nat_lt first (2 ^ 64)) (list_all fits entries)
            (and_from (nat_lt term (2 ^ 64) && nat_lt commit (2 ^ 64) && nat_lt front (2 ^ 64) && nat_lt front_term (2 ^ 64)) (nat_lt first (2 ^ 64))
            (and_from (nat_lt term (2 ^ 64) && nat_lt commit (2 ^ 64) && nat_lt front (2 ^ 64)) (nat_lt front_term (2 ^ 64))
            (and_from (nat_lt term (2 ^ 64) && nat_lt commit (2 ^ 64)) (nat_lt front (2 ^ 64)) (and_from (nat_lt term (2 ^ 64)) (nat_lt commit (2 ^ 64)) (under term g.0.1) (under commit g.1.1.0.1)) (under front g.1.1.1.0.1)) (under front_term g.1.1.1.1.0.1)) (under first g.1.1.1.1.1.0.1)) e.2;
      }
    where
      under : (n : ℕ) → n ≤ greatest → nat_lt n (2 ^ 64) ≡ true
      under n l = lt-ltb n (2 ^ 64) (omega (arith, l))

-- the counted number of entries is their number
counted : (p : BatchParts) → RawBatch p → the_batch (of_batch p) ≡ p
counted p g =
    let n = (from_good p.1.1.1.1.1.0 p.1.1.1.1.1.1.1 p.1.1.1.1.1.1.0 g.1.1.1.1.1.1.1).0 in
    ap (λ (k : ℕ). let q : BatchParts = (p.0, (p.1.0, (p.1.1.0, (p.1.1.1.0, (p.1.1.1.1.0, (p.1.1.1.1.1.0, (k, p.1.1.1.1.1.1.1))))))) in q) n

batch_is : Exact (made of_batch batch_at) (IsOf BATCH) rest_of
batch_is = is_made of_batch the_batch batch_at RawBatch batch_bytes (IsOf BATCH) rest_of (record { good_part = good_part; whole = whole_is; spelt = spelt; good_whole = good_whole; parted = counted }) batch_exact
  where
    good_part : (r : Record) → IsOf BATCH r → RawBatch (the_batch r)
    good_part (records.Batch term vote commit front front_term first entries) g = raw_batch term vote commit front front_term first entries g.1
    good_part (records.Start number) g = absurd (let e = g.0 in omega (arith, e))

    whole_is : (r : Record) → IsOf BATCH r → of_batch (the_batch r) ≡ r
    whole_is (records.Batch term vote commit front front_term first entries) g = refl
    whole_is (records.Start number) g = absurd (let e = g.0 in omega (arith, e))

    spelt : (r : Record) → IsOf BATCH r → rest_of r ≡ batch_bytes (the_batch r)
    spelt (records.Batch term vote commit front front_term first entries) g = refl
    spelt (records.Start number) g = absurd (let e = g.0 in omega (arith, e))

    good_whole : (p : BatchParts) → RawBatch p → IsOf BATCH (of_batch p)
    good_whole p g = (refl, from_batch p.0 p.1.0 p.1.1.0 p.1.1.1.0 p.1.1.1.1.0 p.1.1.1.1.1.0 p.1.1.1.1.1.1.1 (subst RawBatch (sym (counted p g)) g))

start_is : Exact (made of_start (number 8 0 greatest)) (IsOf START) rest_of
start_is = is_made of_start the_start (number 8 0 greatest) (Between 0 greatest) (number_bytes 8) (IsOf START) rest_of (record { good_part = good_part; whole = whole_is; spelt = spelt; good_whole = good_whole; parted = λ n g. refl }) any
  where
    good_part : (r : Record) → IsOf START r → Between 0 greatest (the_start r)
    good_part (records.Batch term vote commit front front_term first entries) g = absurd (let e = g.0 in omega (arith, e))
    good_part (records.Start number) g = let l = ltb-true number (2 ^ 64) g.1.fitting in (omega arith, omega (arith, l))

    whole_is : (r : Record) → IsOf START r → of_start (the_start r) ≡ r
    whole_is (records.Batch term vote commit front front_term first entries) g = absurd (let e = g.0 in omega (arith, e))
    whole_is (records.Start number) g = refl

    spelt : (r : Record) → IsOf START r → rest_of r ≡ number_bytes 8 (the_start r)
    spelt (records.Batch term vote commit front front_term first entries) g = absurd (let e = g.0 in omega (arith, e))
    spelt (records.Start number) g = refl

    good_whole : (n : ℕ) → Between 0 greatest n → IsOf START (of_start n)
    good_whole n g = (refl, record { well_formed = refl; fitting = lt-ltb n (2 ^ 64) (omega (arith, g.1)) })

-- ---- records

tagged_is : (tag : ℕ) → Between BATCH START tag → Exact (tagged tag) (IsOf tag) rest_of
tagged_is tag g = by (tag == BATCH) refl
  where
    by : (b : Bool) → (tag == BATCH) ≡ b → Exact (if b then made of_batch batch_at else made of_start (number 8 0 greatest)) (IsOf tag) rest_of
    by true e = let same = eqb-true tag BATCH e in subst (λ (t : ℕ). Exact (made of_batch batch_at) (IsOf t) rest_of) (sym same) batch_is
    by false e =
        let other = eqb-false tag BATCH e in
        let same : tag ≡ START = elim (cases_eq tag START) [ inl s ↦ s | inr n ↦ absurd (other (omega (arith, n, g.0, g.1))) ] in
        subst (λ (t : ℕ). Exact (made of_start (number 8 0 greatest)) (IsOf t) rest_of) (sym same) start_is

some_of : (tag : ℕ) → Between BATCH START tag → (r : Record) × IsOf tag r
some_of tag g = elim (cases_eq tag BATCH) [
  | inl same ↦ (records.Batch 0 0 0 0 0 0 [], (sym same, record { well_formed = refl; fitting = refl }))
  | inr other ↦ (records.Start 0, ((elim (cases_eq tag START) [ inl s ↦ sym s | inr n ↦ absurd (other (omega (arith, n, g.0, g.1))) ]), record { well_formed = refl; fitting = refl }))
]

abbrev Tagged : ℕ × Record → Type 0
Tagged p = Between BATCH START p.0 × IsOf p.0 p.1

pub record_exact : Exact record_at IsRecord record_bytes
record_exact =
    is_made without_tag (λ r. (tag_of r, r)) (both (number 1 BATCH START) tagged) Tagged (λ p. number_bytes 1 p.0 ++ rest_of p.1) IsRecord record_bytes
    (record { good_part = good_part; whole = λ r g. refl; spelt = spelt; good_whole = λ p g. g.1.1; parted = parted })
    (are_both (number 1 BATCH START) tagged (Between BATCH START) IsOf (number_bytes 1) (λ tag. rest_of) (is_number 1 BATCH START (omega arith) (omega arith)) tagged_is some_of)
  where
    good_part : (r : Record) → IsRecord r → Tagged (tag_of r, r)
    good_part (records.Batch term vote commit front front_term first entries) g = ((omega arith, omega arith), (refl, g))
    good_part (records.Start number) g = ((omega arith, omega arith), (refl, g))

    spelt : (r : Record) → IsRecord r → record_bytes r ≡ number_bytes 1 (tag_of r) ++ rest_of r
    spelt (records.Batch term vote commit front front_term first entries) g = refl
    spelt (records.Start number) g = refl

    parted : (p : ℕ × Record) → Tagged p → (tag_of (without_tag p), without_tag p) ≡ p
    parted p g = let same = g.1.0 in ap (λ (t : ℕ). let q : ℕ × Record = (t, p.1) in q) same
