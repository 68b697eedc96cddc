-- A tally stays true of the entries of a log when some are cut off at the end or at the front, and when others come.
use Rattle.std.proofs.Common.{◌≡◌, ◌≤◌, ◌<◌, ◌+◌, ◌-◌, ℕ, zero, suc, true, false, List, [], ◌∷◌, ◌++◌, length, take, drop, refl, ap, arith, Some, get_or}
use Rattle.std.proofs.lemmas.Option.{slice_get_read}
use Rattle.std.proofs.lemmas.Bool.Decides.{nat_tests}
use Rattle.std.proofs.lemmas.List.Elements.{All-nil, All-cons, All-append, All-weaker, All-take, All-drop}
use Rattle.std.specs.Prelude.{nat_lt, slice_get}
use Rattle.std.specs.List.{All}
use Rattle.host_ids.specs.declared.entry.Entry.{Entry}
use Rattle.log_view.specs.Log.{Log, last, last_term, term_at, term_in}
use Rattle.log_view.specs.Tallies.{TermsRise, command_length, rises, IsTally, tally_with, tally_with_all}
use Rattle.log_view.specs.declared.tally.Tally.{Tally}

-- ---- the terms: at 0 the one before the entries, and 0 past the end

abbrev term_after : ℕ → List Entry → ℕ → ℕ
term_after before es zero = before
term_after before es (suc k) = term_in es k

after_cons : (before : ℕ) (e : Entry) (es : List Entry) (k : ℕ) → term_after before (e ∷ es) (suc k) ≡ term_after e.term es k
after_cons before e es zero = refl
after_cons before e es (suc k) = refl

at_front : (l : Log) (k : ℕ) → term_at l (l.front + k) ≡ term_after l.front_term l.entries k
at_front l zero = grind (arith, nat_tests)
at_front l (suc k) =
    let e : l.front + suc k - l.front - 1 ≡ k = omega arith in
    grind (arith, nat_tests)

below_front : (l : Log) (i : ℕ) → i < l.front → term_at l i ≡ 0
below_front l i h = grind (arith, nat_tests)

-- ---- rising terms

rises_head : (before : ℕ) (e : Entry) (es : List Entry) → rises before (e ∷ es) ≡ true → (before ≤ e.term) × (rises e.term es ≡ true)
rises_head before e es r = grind (arith, nat_tests)

rises_cons : (before : ℕ) (e : Entry) (es : List Entry) → before ≤ e.term → rises e.term es ≡ true → rises before (e ∷ es) ≡ true
rises_cons before e es l r = grind (arith, nat_tests)

rises_take : (before n : ℕ) (es : List Entry) → rises before es ≡ true → rises before (take n es) ≡ true
rises_take before zero es r = refl
rises_take before (suc n) [] r = refl
rises_take before (suc n) (e ∷ es) r =
    let p = rises_head before e es r in
    rises_cons before e (take n es) p.0 (rises_take e.term n es p.1)

rises_drop : (before n : ℕ) (es : List Entry) → rises before es ≡ true → rises (term_after before es n) (drop n es) ≡ true
rises_drop before zero es r = r
rises_drop before (suc n) [] r = refl
rises_drop before (suc n) (e ∷ es) r =
    let g = rises_drop e.term n es (rises_head before e es r).1 in
    rw (after_cons before e es n) g

rises_append : (before : ℕ) (es more : List Entry) → rises before es ≡ true → rises (term_after before es (length es)) more ≡ true → rises before (es ++ more) ≡ true
rises_append before [] more r s = s
rises_append before (e ∷ es) more r s =
    let p = rises_head before e es r in
    rises_cons before e (es ++ more) p.0 (rises_append e.term es more p.1 (rw (after_cons before e es (length es)) at s))

above : (before : ℕ) (es : List Entry) (k : ℕ) → rises before es ≡ true → k ≤ length es → before ≤ term_after before es k
above before es zero r h = omega arith
above before [] (suc k) r h = absurd (omega (arith, h))
above before (e ∷ es) (suc k) r h =
    let p = rises_head before e es r in
    omega (arith, after_cons before e es k, above e.term es k p.1 (omega (arith, h)), p.0)

rising : (before : ℕ) (es : List Entry) (i j : ℕ) → rises before es ≡ true → i ≤ j → j ≤ length es → term_after before es i ≤ term_after before es j
rising before es zero j r l h = above before es j r h
rising before es (suc i) zero r l h = absurd (omega (arith, l))
rising before [] (suc i) (suc j) r l h = absurd (omega (arith, h))
rising before (e ∷ es) (suc i) (suc j) r l h =
    let p = rises_head before e es r in
    omega (arith, after_cons before e es i, after_cons before e es j, rising e.term es i j p.1 (omega (arith, l)) (omega (arith, h)))

pub terms_rise : (l : Log) → rises l.front_term l.entries ≡ true → TermsRise l
terms_rise l r i j h k = elim (nat_lt i l.front) as (λ b. nat_lt i l.front ≡ b → term_at l i ≤ term_at l j) [
  | true ↦ λ e. let x : i < l.front = grind (arith, nat_tests) in omega (arith, below_front l i x)
  | false ↦ λ e.
      let x : l.front ≤ i = grind (arith, nat_tests) in
      let p : l.front + (i - l.front) ≡ i = omega (arith, x) in
      let q : l.front + (j - l.front) ≡ j = omega (arith, x, h) in
      let g = rising l.front_term l.entries (i - l.front) (j - l.front) r (omega (arith, h)) (omega (arith, k, x, h)) in
      omega (arith, g, ap (term_at l) p, ap (term_at l) q, at_front l (i - l.front), at_front l (j - l.front))
]
    refl

-- ---- tallies

abbrev Shorter : ℕ → Entry → Type 0
Shorter n e = command_length e.proposal ≤ n

pub tally_take : (before n : ℕ) (es : List Entry) (t : Tally) → IsTally before es t → IsTally before (take n es) t
tally_take before n es t s = record { rising = λ e. rises_take before n es (s.rising e); longest = All-take (Shorter t.longest) n es s.longest }

tally_drop : (before n : ℕ) (es : List Entry) (t : Tally) → IsTally before es t → IsTally (term_after before es n) (drop n es) t
tally_drop before n es t s = record { rising = λ e. rises_drop before n es (s.rising e); longest = All-drop (Shorter t.longest) n es s.longest }

with_all_rises : (t : Tally) (before : ℕ) (es : List Entry) → (tally_with_all t before es).rises ≡ true → (t.rises ≡ true) × (rises before es ≡ true)
with_all_rises t before [] r = (r, refl)
with_all_rises t before (e ∷ es) r =
    let p = with_all_rises (tally_with t before e) e.term es r in
    let rose : t.rises ≡ true = grind (arith, nat_tests) in
    let step : before ≤ e.term = grind (arith, nat_tests) in
    (rose, rises_cons before e es step p.1)

with_all_longest : (t : Tally) (before : ℕ) (es : List Entry) → t.longest ≤ (tally_with_all t before es).longest
with_all_longest t before [] = omega arith
with_all_longest t before (e ∷ es) = omega (arith, with_all_longest (tally_with t before e) e.term es)

with_all_shorter : (t : Tally) (before : ℕ) (es : List Entry) → All (Shorter (tally_with_all t before es).longest) es
with_all_shorter t before [] = All-nil (Shorter t.longest)
with_all_shorter t before (e ∷ es) =
    All-cons (Shorter (tally_with_all t before (e ∷ es)).longest) e es (omega (arith, with_all_longest (tally_with t before e) e.term es)) (with_all_shorter (tally_with t before e) e.term es)

at_last : (l : Log) → last_term l ≡ term_after l.front_term l.entries (length l.entries)
at_last l = at_front l (length l.entries)

pub tally_append : (l : Log) (more : List Entry) (t : Tally) → IsTally l.front_term l.entries t → IsTally l.front_term (l.entries ++ more) (tally_with_all t (last_term l) more)
tally_append l more t s =
    let u = tally_with_all t (last_term l) more in
    record {
      rising = λ e.
          let p = with_all_rises t (last_term l) more e in
          rises_append l.front_term l.entries more (s.rising p.0) (rw (at_last l) at p.1);
      longest = All-append (Shorter u.longest) l.entries more
          (All-weaker (Shorter t.longest) (Shorter u.longest) (λ x h. omega (arith, h, with_all_longest t (last_term l) more)) l.entries s.longest)
          (with_all_shorter t (last_term l) more);
    }

pub tally_cut : (l : Log) (i : ℕ) (t : Tally) → l.front ≤ i → IsTally l.front_term l.entries t → IsTally (term_at l i) (drop (i - l.front) l.entries) t
tally_cut l i t h s =
    let place : l.front + (i - l.front) ≡ i = omega (arith, h) in
    rw (← at_front l (i - l.front), place) at (tally_drop l.front_term (i - l.front) l.entries t s)

-- the term at an index, read from the place of its entry
pub term_of_entry : (l : Log) (i : ℕ) (e : Entry) → l.front < i → i ≤ last l → e ≡ get_or l.entries (i - l.front - 1) e → e.term ≡ term_at l i
term_of_entry l i e h k g =
    let found : slice_get l.entries (i - l.front - 1) ≡ Some e = slice_get_read l.entries (length l.entries) (i - l.front - 1) e refl (omega (arith, h, k)) g in
    grind (arith, nat_tests)
