-- Entries of a leader's log that are laid into another log.
use Rattle.std.proofs.Common.{◌≡◌, ◌⊎◌, ⊎_elim, ℕ, zero, suc, ◌+◌, ◌-◌, ◌<◌, ◌≤◌, List, [], ◌∷◌, ◌++◌, length, take, drop, true, false, refl, sym, ap, ◌∙◌, subst, arith, inl, inr, Some, None}
use Rattle.std.proofs.Common.{if◌then◌else◌, ◌==◌, ◌&&◌}
use Rattle.std.specs.Prelude.{nat_le}
use Rattle.std.proofs.lemmas.Bool.{leb-true, leb-false, le-leb, eqb-true, eq-eqb, and_parts, or_parts, or_cases}
use Rattle.std.proofs.lemmas.List.{take-append-drop, drop-take, take-take, append_assoc, length-take, drop-append-le, length-take-le}
use Rattle.host_ids.specs.declared.entry.Entry.{Entry}
use Rattle.log_view.specs.Log.{Log, Laid, last, term_at, is_kept, laid, append_after}
use Rattle.raft_model.specs.Group.{term_of}
use Rattle.raft_safety.specs.History.{SameFrom}
use Rattle.raft_safety.specs.Replicas.{whole}
use Rattle.raft_safety.proofs.Argument.WholeLogs.{whole_length, whole_drop, term_whole}
use Rattle.raft_safety.proofs.Argument.Stretches.{put, split, from_short, from_term}
use Rattle.raft_safety.proofs.Argument.Agreement.{le_or}

-- the first entry of a stretch has the term that its place in the log has, and the rest is the stretch after it
pub first_after : (n : ℕ) (Y : List Entry) (e : Entry) (es : List Entry) → e ∷ es ≡ take (suc (length es)) (drop n Y) → (term_of Y (suc n) ≡ e.term) × (es ≡ take (length es) (drop (suc n) Y))
first_after zero [] e es same = absurd (cc)
first_after zero (y ∷ ys) e es same = (cc, cc)
first_after (suc n) [] e es same = absurd (cc)
first_after (suc n) (y ∷ ys) e es same = first_after n ys e es same

-- a beginning and the stretch after it are a longer beginning
pub take_more : (i n : ℕ) (Y : List Entry) → take i Y ++ take n (drop i Y) ≡ take (i + n) Y
take_more i n Y =
    ap (λ xs. take i Y ++ xs) (sym (drop-take i n Y)) ∙ ap (λ xs. xs ++ drop i (take (i + n) Y)) (sym (take-take i (i + n) Y (omega arith))) ∙ take-append-drop i (take (i + n) Y)

module _ (d : List Entry) (l : Log) (c : ℕ) (Y : List Entry) (fits : l.front ≤ length d) (front_term : l.front_term ≡ term_of d l.front) (below : l.front ≤ c)
    (committed : c ≤ length (whole d l.front l.entries))
    (same_term : (i : ℕ) → 0 < i → i ≤ length (whole d l.front l.entries) → i ≤ length Y → term_of (whole d l.front l.entries) i ≡ term_of Y i → SameFrom c i (whole d l.front l.entries) Y) where
  -- the whole log
  abbrev X : List Entry
  X = whole d l.front l.entries

  -- the whole log ends where the log says
  long : length X ≡ last l
  long = whole_length d l.front l.entries fits

  -- nothing changed: after the commit index the log holds what was to be laid
  pub record IsKeptTo (n : ℕ) (x : Laid) : Type 0 where
    pub is : x ≡ record { log = l; changed_from = None }
    pub within : n ≤ length X
    pub same : SameFrom c n X Y

  -- from a place on, which was not the other log's, the log was replaced
  pub record IsChangedTo (n : ℕ) (x : Laid) : Type 0 where
    pub from : ℕ
    pub is : x ≡ record { log = record l { entries = drop l.front (put c n X Y) }; changed_from = Some from }
    pub most : from ≤ n
    pub above : c < from
    pub within : from - 1 ≤ length X
    pub before : SameFrom c (from - 1) X Y
    pub apart : from ≤ length X → SameFrom c from X Y → ⊥

  -- an entry that is kept is the other log's, so the logs agree up to it
  kept_at : (i : ℕ) (e : Entry) → i < length Y → term_of Y (suc i) ≡ e.term → is_kept l c (i + 1) e.term ≡ true → (suc i ≤ length X) × SameFrom c (suc i) X Y
  kept_at i e within term kept =
      let z : i + 1 ≡ suc i = omega arith in
      let low_case : i + 1 ≤ c → (suc i ≤ length X) × SameFrom c (suc i) X Y = λ m. (omega (arith, m, committed), from_short c (suc i) X Y (omega (arith, m)) (omega (arith, within))) in
      ⊎_elim
      (λ low. low_case (leb-true (i + 1) c low))
      (λ there. ⊎_elim low_case
      (λ past.
      let p = and_parts (nat_le (i + 1) (last l)) (term_at l (i + 1) == e.term) there in
      let m = leb-true (i + 1) (last l) p.0 in
      let here : suc i ≤ length X = omega (arith, m, long) in (
        here,
        same_term (suc i) (omega arith) here (omega (arith, within))
            (ap (term_of X) (sym z) ∙ sym (term_whole d l (i + 1) fits front_term (omega (arith, below, past))) ∙ eqb-true (term_at l (i + 1)) e.term p.1 ∙ sym term),
      ))
      (le_or (i + 1) c))
      (or_cases (nat_le (i + 1) c) (nat_le (i + 1) (last l) && (term_at l (i + 1) == e.term)) kept)

  -- an entry that is not kept isn't the other log's
  not_kept : (i : ℕ) (e : Entry) → term_of Y (suc i) ≡ e.term → is_kept l c (i + 1) e.term ≡ false → suc i ≤ length X → SameFrom c (suc i) X Y → ⊥
  not_kept i e term replaced here a =
      let p = or_parts (nat_le (i + 1) c) (nat_le (i + 1) (last l) && (term_at l (i + 1) == e.term)) replaced in
      let z : i + 1 ≡ suc i = omega arith in
      let above : c < suc i = (let x = leb-false (i + 1) c p.0 in omega (arith, x)) in
      let there : nat_le (i + 1) (last l) ≡ true = le-leb (i + 1) (last l) (omega (arith, here, long)) in
      let same : (term_at l (i + 1) == e.term) ≡ true = eq-eqb (term_at l (i + 1)) e.term
      (term_whole d l (i + 1) fits front_term (omega (arith, below, above)) ∙ ap (term_of X) z ∙ from_term (suc i) a above (omega arith) ∙ term) in
      let no : (true && true) ≡ false = ap (λ x. x && true) (sym there) ∙ ap (λ x. nat_le (i + 1) (last l) && x) (sym same) ∙ p.1 in
      absurd (cc)

  -- the beginning of the log and a stretch of the other is the log that goes on as the other
  replaced_by : {i : ℕ} (es : List Entry) → es ≡ take (length es) (drop i Y) → c ≤ i → SameFrom c i X Y → take (i - l.front) l.entries ++ es ≡ drop l.front (put c (i + length es) X Y)
  replaced_by {i} es at low before =
      let n = i + length es in
      let f = l.front in
      let first : take i X ≡ take c X ++ drop c (take i X) = sym (take-append-drop c (take i X)) ∙ ap (λ xs. xs ++ drop c (take i X)) (take-take c i X low) in
      let rest : drop c (take i Y) ++ es ≡ drop c (take n Y) =
      ap (λ xs. drop c (take i Y) ++ xs) at ∙ sym (drop-append-le c (take i Y) (take (length es) (drop i Y)) short) ∙ ap (drop c) (take_more i (length es) Y) in
      let whole_is : take i X ++ es ≡ put c n X Y = ap (λ xs. xs ++ es) (first ∙ ap (λ xs. take c X ++ xs) before.same) ∙ append_assoc (take c X) (drop c (take i Y)) es ∙ ap
      (λ xs. take c X ++ xs) rest in
      ap (λ xs. take (i - f) xs ++ es) (sym (whole_drop d f l.entries fits)) ∙ ap (λ xs. xs ++ es) (sym (split f i X (omega (arith, below, low))))
      ∙ sym (drop-append-le f (take i X) es (let t = length-take i X in omega (arith, t, below, low, committed))) ∙ ap (drop f) whole_is
    where
      short : c ≤ length (take i Y)
      short = let t = length-take-le i Y before.reaches in omega (arith, t, low)

  -- a stretch of another log is laid: nothing changes, or from the first entry that isn't there the log becomes the other's
  pub lay : (es : List Entry) {i : ℕ} → es ≡ take (length es) (drop i Y) → i + length es ≤ length Y → i ≤ length X → SameFrom c i X Y
      → IsKeptTo (i + length es) (laid l c i es) ⊎ IsChangedTo (i + length es) (laid l c i es)
  lay [] {i} at within here before = inl (record { is = refl; within = omega (arith, here); same = (let z : i ≡ i + 0 = omega arith in subst (λ n. SameFrom c n X Y) z before) })
  lay (e ∷ es) {i} at within here before =
      let first = first_after i Y e es at in
      let next : i + 1 + length es ≡ i + suc (length es) = omega arith in
      let z : suc i ≡ i + 1 = omega arith in
      elim (is_kept l c (i + 1) e.term) as (λ x. is_kept l c (i + 1) e.term ≡ x →
      (let y : Laid = if x then laid l c (i + 1) es else record { log = append_after l i (e ∷ es); changed_from = Some (i + 1) } in
      IsKeptTo (i + suc (length es)) y ⊎ IsChangedTo (i + suc (length es)) y)) [
        | true ↦ λ kept.
            let k = kept_at i e (omega (arith, within)) first.0 kept in
            subst (λ n. IsKeptTo n (laid l c (i + 1) es) ⊎ IsChangedTo n (laid l c (i + 1) es)) next
            (lay es (subst (λ n. es ≡ take (length es) (drop n Y)) z first.1) (omega (arith, within)) (omega (arith, k.0))
            (subst (λ n. SameFrom c n X Y) z k.1))
        | false ↦ λ replaced.
            let p = or_parts (nat_le (i + 1) c) (nat_le (i + 1) (last l) && (term_at l (i + 1) == e.term)) replaced in
            let above : c < i + 1 = leb-false (i + 1) c p.0 in
            inr (record {
              from = i + 1;
              is = ap (λ xs. record { log = record l { entries = xs }; changed_from = Some (i + 1) }) (replaced_by (e ∷ es) at (omega (arith, above)) before);
              most = omega arith;
              above = above;
              within = omega (arith, here);
              before = (let y : i ≡ i + 1 - 1 = omega arith in subst (λ n. SameFrom c n X Y) y before);
              apart = λ w a. not_kept i e first.0 replaced (omega (arith, w)) (subst (λ n. SameFrom c n X Y) (sym z) a);
            })
      ] refl
