-- Replies stay in order when some are dropped, and when one is added.
use Rattle.std.proofs.Common.{◌≡◌, ℕ, ◌+◌, ◌^◌, ◌<◌, ◌≤◌, List, [], ◌∷◌, ◌++◌, Bool, true, false, cond, length, refl, sym, ◌∙◌, subst, arith, append_assoc}
use Rattle.std.specs.Prelude.{nat_lt, filter}
use Rattle.std.specs.Ordering.{nat_cmp, match_ordering}
use Rattle.std.specs.declared.cmp.Ordering.{Ordering}
use Rattle.std.specs.declared.cmp.Ordering.TheVariants.{Less, Equal, Greater}
use Rattle.std.specs.BTreeMap.{insert_entry}
use Rattle.std.specs.List.{list_all}
use Rattle.std.proofs.lemmas.Bool.{and_from, lt-ltb}
use Rattle.std.proofs.lemmas.Bool.Decides.{nat_tests}
use Rattle.std.proofs.lemmas.Cmp.{ranked}
use Rattle.std.specs.Cmp.{nat_cmp_is}
use Rattle.host_ids.specs.declared.proposal.TheConstants.{MOST_SERIES}
use Rattle.session_lru.specs.Section.{are_replies, is_short}
use Rattle.session_lru.proofs.Parts.{IsReply, reply_parts, reply_of_parts}

-- replies above a series are above a smaller one
pub lower : (a b : ℕ) (es : List (ℕ × List ℕ)) → a ≤ b → are_replies b es ≡ true → are_replies a es ≡ true
lower a b [] l h = refl
lower a b (e ∷ es) l h = let p = reply_parts b e es h in let q = p.above in reply_of_parts a e es (record { above = omega (arith, l, q); most = p.most; short = p.short; rest = p.rest })

-- ---- some dropped

pub filtered : (test : ℕ → Bool) (before : ℕ) (es : List (ℕ × List ℕ)) → are_replies before es ≡ true → are_replies before (filter (λ e. test e.0) es) ≡ true
filtered test before [] h = refl
filtered test before (e ∷ es) h =
    let p = reply_parts before e es h in
    let rest = filtered test e.0 es p.rest in
    let q = p.above in
    elim (test e.0) as (λ b. are_replies before (cond b (e ∷ filter (λ x. test x.0) es) (filter (λ x. test x.0) es)) ≡ true) [
      | true ↦ reply_of_parts before e (filter (λ x. test x.0) es) (record { above = p.above; most = p.most; short = p.short; rest = rest })
      | false ↦ lower before e.0 (filter (λ x. test x.0) es) (omega (arith, q)) rest
    ]

-- those above a series, after a drop of the others
pub filtered_above : (bound before : ℕ) (es : List (ℕ × List ℕ)) → are_replies before es ≡ true → are_replies bound (filter (λ e. nat_lt bound e.0) es) ≡ true
filtered_above bound before [] h = refl
filtered_above bound before (e ∷ es) h =
    let p = reply_parts before e es h in
    elim (nat_lt bound e.0) as (λ b. nat_lt bound e.0 ≡ b → are_replies bound (cond b (e ∷ filter (λ x. nat_lt bound x.0) es) (filter (λ x. nat_lt bound x.0) es)) ≡ true) [
      | true ↦ λ t. reply_of_parts bound e (filter (λ x. nat_lt bound x.0) es) (record { above = grind (arith, nat_tests); most = p.most; short = p.short; rest = filtered (λ k. nat_lt bound k) e.0 es p.rest })
      | false ↦ λ t. filtered_above bound e.0 es p.rest
    ] refl

pub length_filtered : {A : Type 0} (test : A → Bool) (es : List A) → length (filter test es) ≤ length es
length_filtered test [] = omega arith
length_filtered test (e ∷ es) =
    let rest = length_filtered test es in
    elim (test e) as (λ b. length (cond b (e ∷ filter test es) (filter test es)) ≤ length (e ∷ es)) [ true ↦ omega (arith, rest) | false ↦ omega (arith, rest) ]

-- ---- one added

module _ (series : ℕ) (reply : List ℕ) (most : series ≤ MOST_SERIES) (short : length reply < 2 ^ 16) where
  insert_by : (before : ℕ) (e : ℕ × List ℕ) (es : List (ℕ × List ℕ)) (r : Ordering) → r ≡ nat_cmp series e.0 → before < series → IsReply before e es
      → are_replies e.0 (cond (nat_lt e.0 series) (insert_entry nat_cmp es series reply) es) ≡ true
      → are_replies before (match_ordering r ((series, reply) ∷ e ∷ es) ((e.0, reply) ∷ es) (e ∷ insert_entry nat_cmp es series reply)) ≡ true
  insert_by before e es Less q l p rest =
      reply_of_parts before (series, reply) (e ∷ es) (record {
        above = l;
        most = most;
        short = short;
        rest = reply_of_parts series e es (record { above = ranked series e.0 Less q; most = p.most; short = p.short; rest = p.rest });
      })
  insert_by before e es Equal q l p rest = reply_of_parts before (e.0, reply) es (record { above = p.above; most = p.most; short = short; rest = p.rest })
  insert_by before e es Greater q l p rest =
      let beyond : e.0 < series = ranked series e.0 Greater q in
      let test : nat_lt e.0 series ≡ true = grind (arith, nat_tests) in
      reply_of_parts before e (insert_entry nat_cmp es series reply) (record {
        above = p.above;
        most = p.most;
        short = p.short;
        rest = subst (λ (b : Bool). are_replies e.0 (cond b (insert_entry nat_cmp es series reply) es) ≡ true) test rest;
      })

  pub inserted : (before : ℕ) (es : List (ℕ × List ℕ)) → before < series → are_replies before es ≡ true → are_replies before (insert_entry nat_cmp es series reply) ≡ true
  inserted before [] l h = reply_of_parts before (series, reply) [] (record { above = l; most = most; short = short; rest = refl })
  inserted before (e ∷ es) l h =
      let p = reply_parts before e es h in
      insert_by before e es (nat_cmp series e.0) refl l p
      (elim (nat_lt e.0 series) as (λ b. nat_lt e.0 series ≡ b → are_replies e.0 (cond b (insert_entry nat_cmp es series reply) es) ≡ true)
      [ true ↦ λ t. inserted e.0 es (grind (arith, nat_tests)) p.rest | false ↦ λ t. p.rest ] refl)

  length_by : (e : ℕ × List ℕ) (es : List (ℕ × List ℕ)) (r : Ordering) → length (insert_entry nat_cmp es series reply) ≤ length es + 1
      → length (match_ordering r ((series, reply) ∷ e ∷ es) ((e.0, reply) ∷ es) (e ∷ insert_entry nat_cmp es series reply)) ≤ length (e ∷ es) + 1
  length_by e es Less h = omega arith
  length_by e es Equal h = omega arith
  length_by e es Greater h = omega (arith, h)

  pub length_inserted : (es : List (ℕ × List ℕ)) → length (insert_entry nat_cmp es series reply) ≤ length es + 1
  length_inserted [] = omega arith
  length_inserted (e ∷ es) = length_by e es (nat_cmp series e.0) (length_inserted es)

-- ---- one added after the others

-- the last series, or the one that all are above
abbrev pub last_of : ℕ → List (ℕ × List ℕ) → ℕ
last_of before [] = before
last_of before (e ∷ es) = last_of e.0 es

pub to_last : (before : ℕ) (es : List (ℕ × List ℕ)) → are_replies before es ≡ true → before ≤ last_of before es
to_last before [] h = omega arith
to_last before (e ∷ es) h = let p = reply_parts before e es h in let a = p.above in let b = to_last e.0 es p.rest in omega (arith, a, b)

pub last_added : (before : ℕ) (es : List (ℕ × List ℕ)) (x : ℕ × List ℕ) → last_of before (es ++ x ∷ []) ≡ x.0
last_added before [] x = refl
last_added before (e ∷ es) x = last_added e.0 es x

pub added : (before : ℕ) (es : List (ℕ × List ℕ)) (x : ℕ × List ℕ) → are_replies before es ≡ true → last_of before es < x.0 → x.0 ≤ MOST_SERIES → length x.1 < 2 ^ 16 → are_replies before (es ++ x ∷ []) ≡ true
added before [] x h l m s = reply_of_parts before x [] (record { above = l; most = m; short = s; rest = refl })
added before (e ∷ es) x h l m s =
    let p = reply_parts before e es h in
    reply_of_parts before e (es ++ x ∷ []) (record { above = p.above; most = p.most; short = p.short; rest = added e.0 es x p.rest l m s })

pub inserted_last : (before series : ℕ) (reply : List ℕ) (es : List (ℕ × List ℕ)) → are_replies before es ≡ true → last_of before es < series → insert_entry nat_cmp es series reply ≡ es ++ (series, reply) ∷ []
inserted_last before series reply [] h l = refl
inserted_last before series reply (e ∷ es) h l =
    let p = reply_parts before e es h in
    let to = to_last e.0 es p.rest in
    let beyond : e.0 < series = omega (arith, to, l) in
    let r : Greater ≡ nat_cmp series e.0 = nat_cmp_is series e.0 Greater beyond in
    rw (sym r, inserted_last e.0 series reply es p.rest l) refl

-- replies that are some are short
pub all_short : (before : ℕ) (es : List (ℕ × List ℕ)) → are_replies before es ≡ true → list_all is_short es ≡ true
all_short before [] h = refl
all_short before (e ∷ es) h = let p = reply_parts before e es h in and_from _ _ (lt-ltb (length e.1) (2 ^ 16) p.short) (all_short e.0 es p.rest)

pub in_a_row : {A : Type 0} (o a b c d : List A) → (((o ++ a) ++ b) ++ c) ++ d ≡ o ++ (a ++ (b ++ (c ++ d)))
in_a_row o a b c d = append_assoc ((o ++ a) ++ b) c d ∙ append_assoc (o ++ a) b (c ++ d) ∙ append_assoc o a (b ++ (c ++ d))
