-- The test of legality decides it.
use Rattle.std.proofs.Common.{◌≡◌, ◌≢◌, ◌≤◌, ◌+◌, ◌-◌, ℕ, List, [], ◌∷◌, ◌++◌, length, Bool, true, false, not, ◌&&◌, ◌||◌, Option, Some, None, IfSome, slice_get, refl, sym, ap, subst, Decides, ◌⊎◌, inl, inr, ⊎_elim, leb-true, le-leb}
use Rattle.std.specs.Prelude.{nat_le}
use Rattle.std.specs.List.{list_any, list_all, AllByRecursion}
use Rattle.std.proofs.lemmas.Slice.Eq.{bytes_eq-Decides}
use Rattle.std.proofs.lemmas.Bool.Decides.{Decides-and, Decides-or, Decides-not, Decides-like, Decides-eqb, Decides-ltb}
use Rattle.host_ids.specs.declared.proposal.Proposal.{Proposal}
use Rattle.object_model.specs.declared.mark.What.{What}
use Rattle.object_model.specs.declared.mark.What.TheVariants as whats
use Rattle.object_model.specs.declared.mark.Ending.{Ending}
use Rattle.object_model.specs.declared.mark.Placed.{Placed}
use Rattle.object_model.specs.declared.mark.Mark.{Mark}
use Rattle.object_model.specs.declared.mark.Mark.TheVariants as marks
use Rattle.object_model.specs.Sequence.{ending_at, answer_at}
use Rattle.object_model.specs.Mark.{asked_context, ended_context, named_place, told_number, entries}
use Rattle.object_model.specs.Legal.{NotAsked, NotEnded, NotNamed, AtMost, Asked, AskedWithin, GoodEnding, GoodRead, GoodLeave, Good, EachGood, IsAccounted}
use Rattle.object_model.specs.Decision.{proposes, is_context, is_place, is_within, not_asked, not_ended, not_named, asks_for, asked_within, any_request, answered_by, stands_there, good, each_good, accounted}
use Rattle.object_model.specs.Laws.{DecidesLegal}
use Rattle.object_model.proofs.Same.{blank_Decides, proposes_Decides, gives_ending_Decides}

-- ---- options

context_Decides : (context : List ℕ) (o : Option (List ℕ)) → Decides (is_context context o) (o ≡ Some context)
context_Decides context None = (λ e. cc, λ e. cc)
context_Decides context (Some other) = Decides-like _ (λ e. cc) (λ e. cc) (bytes_eq-Decides context other)

place_Decides : (place : ℕ) (o : Option ℕ) → Decides (is_place place o) (o ≡ Some place)
place_Decides place None = (λ e. cc, λ e. cc)
place_Decides place (Some other) = Decides-like _ (λ e. cc) (λ e. cc) (Decides-eqb place other)

Decides-le : (a b : ℕ) → Decides (nat_le a b) (a ≤ b)
Decides-le a b = (leb-true a b, le-leb a b)

within_Decides : (most : ℕ) (o : Option ℕ) → Decides (is_within most o) (IfSome o (λ n. n ≤ most))
within_Decides most None = (λ e. tt, λ e. refl)
within_Decides most (Some number) = Decides-le number most

-- ---- all of a list

-- where a test decides a fact of each, `list_all` decides it of all
all_Decides : {X : Type 0} (p : X → Bool) (P : X → Type 0) → ((x : X) → Decides (p x) (P x)) → (xs : List X) → Decides (list_all p xs) (AllByRecursion P xs)
all_Decides p P each [] = (λ e. tt, λ e. refl)
all_Decides p P each (x ∷ xs) = Decides-and _ _ (each x) (all_Decides p P each xs)

not_asked_Decides : (context : List ℕ) (before : List Mark) → Decides (not_asked context before) (NotAsked context before)
not_asked_Decides context before =
    all_Decides (λ m. not (is_context context (asked_context m))) (λ m. asked_context m ≢ Some context) (λ m. Decides-not _ (context_Decides context (asked_context m))) before

not_ended_Decides : (context : List ℕ) (before : List Mark) → Decides (not_ended context before) (NotEnded context before)
not_ended_Decides context before =
    all_Decides (λ m. not (is_context context (ended_context m))) (λ m. ended_context m ≢ Some context) (λ m. Decides-not _ (context_Decides context (ended_context m))) before

not_named_Decides : (place : ℕ) (before : List Mark) → Decides (not_named place before) (NotNamed place before)
not_named_Decides place before =
    all_Decides (λ m. not (is_place place (named_place m))) (λ m. named_place m ≢ Some place) (λ m. Decides-not _ (place_Decides place (named_place m))) before

-- ---- what was asked

-- the mark asks under the context for something that passes the test
record AsksFor (context : List ℕ) (test : What → Bool) (m : Mark) : Type 0 where
  what : What
  is : m ≡ marks.Asks context what
  passes : test what ≡ true

asks_for_Decides : (context : List ℕ) (test : What → Bool) (m : Mark) → Decides (asks_for context test m) (AsksFor context test m)
asks_for_Decides context test (marks.Asks other what) =
    Decides-like _
    (λ (e, passes). record { what = what; is = ap (λ (c : List ℕ). marks.Asks c what) (sym e); passes = passes })
    (λ a. let e : what ≡ a.what = (let h = a.is in cc) in ((let h = a.is in cc), rw e a.passes))
    (Decides-and _ (test what) (bytes_eq-Decides context other) (λ e. e, λ e. e))
asks_for_Decides context test (marks.Ends other place ending) = (λ e. cc, λ a. let e = a.is in cc)
asks_for_Decides context test (marks.Leaves other) = (λ e. cc, λ a. let e = a.is in cc)
asks_for_Decides context test (marks.Reads other front answer) = (λ e. cc, λ a. let e = a.is in cc)
asks_for_Decides context test (marks.Stales front query answer) = (λ e. cc, λ a. let e = a.is in cc)
asks_for_Decides context test (marks.Tells number) = (λ e. cc, λ a. let e = a.is in cc)
asks_for_Decides context test (marks.Shows place placed) = (λ e. cc, λ a. let e = a.is in cc)

or_left : (a b : Bool) → a ≡ true → (a || b) ≡ true
or_left true b e = refl
or_left false b e = cc

or_right : (a b : Bool) → b ≡ true → (a || b) ≡ true
or_right true b e = refl
or_right false b e = e

or_split : (a b : Bool) → (a || b) ≡ true → (a ≡ true) ⊎ (b ≡ true)
or_split true b e = inl refl
or_split false b e = inr e

and_both : (a b : Bool) → a ≡ true → b ≡ true → (a && b) ≡ true
and_both true b e f = f
and_both false b e f = e

and_left : (a b : Bool) → (a && b) ≡ true → a ≡ true
and_left true b e = refl
and_left false b e = e

and_right : (a b : Bool) → (a && b) ≡ true → b ≡ true
and_right true b e = e
and_right false b e = cc

-- an ask that passes the test is found by it
asks_passing : (context : List ℕ) (test : What → Bool) (what : What) → test what ≡ true → asks_for context test (marks.Asks context what) ≡ true
asks_passing context test what e = (asks_for_Decides context test (marks.Asks context what)).1 (record { what = what; is = refl; passes = e })

-- something that passes the test was asked under the context, with no greater number told before
abbrev AskedOf : List Mark → List ℕ → (What → Bool) → ℕ → Type 0
AskedOf before context test most = (what : What) × (test what ≡ true) × AskedWithin before context what most

asked_of : (context : List ℕ) (test : What → Bool) (most : ℕ) (before : List Mark) → asked_within (asks_for context test) most before ≡ true → AskedOf before context test most
asked_of context test most [] e = absurd cc
asked_of context test most (m ∷ ms) e =
    ⊎_elim
    (λ here. let a = (asks_for_Decides context test m).0 here in
    (a.what, a.passes, record { earlier = []; later = ms; stands = ap (λ (x : Mark). x ∷ ms) a.is; numbers = tt }))
    (λ there.
    let (what, passes, r) = asked_of context test most ms (and_right (is_within most (told_number m)) _ there) in
    let within = (within_Decides most (told_number m)).0 (and_left _ (asked_within (asks_for context test) most ms) there) in
    (what, passes, record { earlier = m ∷ r.earlier; later = r.later; stands = ap (λ (l : List Mark). m ∷ l) r.stands; numbers = (within, r.numbers) }))
    (or_split (asks_for context test m) (is_within most (told_number m) && asked_within (asks_for context test) most ms) e)

within_found : (context : List ℕ) (test : What → Bool) (most : ℕ) (what : What) (earlier later : List Mark) → test what ≡ true → AtMost most earlier
    → asked_within (asks_for context test) most (earlier ++ marks.Asks context what ∷ later) ≡ true
within_found context test most what [] later e n = or_left (asks_for context test (marks.Asks context what)) _ (asks_passing context test what e)
within_found context test most what (m ∷ earlier) later e n =
    or_right (asks_for context test m) _ (and_both (is_within most (told_number m)) _ ((within_Decides most (told_number m)).1 n.0) (within_found context test most what earlier later e n.1))

asked_of_Decides : (context : List ℕ) (test : What → Bool) (most : ℕ) (before : List Mark) → Decides (asked_within (asks_for context test) most before) (AskedOf before context test most)
asked_of_Decides context test most before = (
  asked_of context test most before,
  λ (what, passes, r). rw r.stands (within_found context test most what r.earlier r.later passes r.numbers),
)

proposed_Decides : (context : List ℕ) (proposal : Proposal) (most : ℕ) (before : List Mark) → Decides (asked_within (asks_for context (proposes proposal)) most before) (AskedWithin before context (whats.Proposes proposal) most)
proposed_Decides context proposal most before =
    Decides-like _
    (λ (what, passes, r). subst (λ w. AskedWithin before context w most) ((proposes_Decides proposal what).0 passes) r)
    (λ r. (whats.Proposes proposal, (proposes_Decides proposal (whats.Proposes proposal)).1 refl, r))
    (asked_of_Decides context (proposes proposal) most before)

-- something that passes the test was asked under the context
abbrev AskedAny : List Mark → List ℕ → (What → Bool) → Type 0
AskedAny before context test = (what : What) × (test what ≡ true) × Asked before context what

asked_any : (context : List ℕ) (test : What → Bool) (before : List Mark) → list_any (asks_for context test) before ≡ true → AskedAny before context test
asked_any context test [] e = absurd cc
asked_any context test (m ∷ ms) e =
    ⊎_elim
    (λ here. let a = (asks_for_Decides context test m).0 here in
    (a.what, a.passes, record { earlier = []; later = ms; stands = ap (λ (x : Mark). x ∷ ms) a.is }))
    (λ there.
    let (what, passes, r) = asked_any context test ms there in
    (what, passes, record { earlier = m ∷ r.earlier; later = r.later; stands = ap (λ (l : List Mark). m ∷ l) r.stands }))
    (or_split (asks_for context test m) (list_any (asks_for context test) ms) e)

any_found : (context : List ℕ) (test : What → Bool) (what : What) (earlier later : List Mark) → test what ≡ true → list_any (asks_for context test) (earlier ++ marks.Asks context what ∷ later) ≡ true
any_found context test what [] later e = or_left (asks_for context test (marks.Asks context what)) _ (asks_passing context test what e)
any_found context test what (m ∷ earlier) later e = or_right (asks_for context test m) _ (any_found context test what earlier later e)

asked_any_Decides : (context : List ℕ) (test : What → Bool) (before : List Mark) → Decides (list_any (asks_for context test) before) (AskedAny before context test)
asked_any_Decides context test before = (asked_any context test before, λ (what, passes, r). rw r.stands (any_found context test what r.earlier r.later passes))

-- ---- good marks

-- the place holds the context, and what was asked under it before with no greater number told
record StandsThere (before : List Mark) (context : List ℕ) (place : ℕ) (o : Option Placed) : Type 0 where
  proposal : Proposal
  stands : o ≡ Some (record { context = context; proposal = proposal })
  asked : AskedWithin before context (whats.Proposes proposal) (place - 1)

stands_there_Decides : (before : List Mark) (context : List ℕ) (place : ℕ) (o : Option Placed) → Decides (stands_there before context place o) (StandsThere before context place o)
stands_there_Decides before context place None = (λ e. cc, λ s. let e = s.stands in cc)
stands_there_Decides before context place (Some e) =
    Decides-like _
    (λ (same, asked). record { proposal = e.proposal; stands = ap (λ (c : List ℕ). Some (record { context = c; proposal = e.proposal })) (sym same); asked = asked })
    (λ s.
    let is : e ≡ record { context = context; proposal = s.proposal } = (let h = s.stands in cc) in
    (sym (ap (λ (x : Placed). x.context) is), subst (λ p. AskedWithin before context (whats.Proposes p) (place - 1)) (sym (ap (λ (x : Placed). x.proposal) is)) s.asked))
    (Decides-and _ _ (bytes_eq-Decides context e.context) (proposed_Decides context e.proposal (place - 1) before))

good_ending_Decides : (limit : ℕ) (list : List Placed) (before : List Mark) (context : List ℕ) (place : ℕ) (ending : Ending)
    → Decides (good limit list before (marks.Ends context place ending)) (GoodEnding limit list before context place ending)
good_ending_Decides limit list before context place ending =
    let there = Decides-and _ _ (Decides-ltb 0 place) (stands_there_Decides before context place (slice_get list (place - 1))) in
    let own = Decides-and _ _ (Decides-and _ _ there (not_ended_Decides context before)) (not_named_Decides place before) in
    Decides-like _
    (λ ((((positive, s), only), own), gives). record { proposal = s.proposal; positive = positive; stands = s.stands; asked = s.asked; only = only; own = own; gives = gives })
    (λ g. ((((g.positive, record { proposal = g.proposal; stands = g.stands; asked = g.asked }), g.only), g.own), g.gives))
    (Decides-and _ _ own (gives_ending_Decides (ending_at limit list place) ending))

good_leave_Decides : (limit : ℕ) (list : List Placed) (before : List Mark) (context : List ℕ) → Decides (good limit list before (marks.Leaves context)) (GoodLeave before context)
good_leave_Decides limit list before context =
    Decides-like _
    (λ ((what, passes, asked), only). record { what = what; asked = asked; only = only })
    (λ g. ((g.what, refl, g.asked), g.only))
    (Decides-and _ _ (asked_any_Decides context any_request before) (not_ended_Decides context before))

-- a request that is answered so is a query with that answer
answered_query : (limit : ℕ) (list : List Placed) (before : List Mark) (context : List ℕ) (front : ℕ) (answer : List ℕ) (what : What)
    → answered_by limit list front answer what ≡ true → AskedWithin before context what front
    → (query : List ℕ) × (answer ≡ answer_at limit list front query) × AskedWithin before context (whats.Queries query) front
answered_query limit list before context front answer (whats.Proposes proposal) e a = absurd cc
answered_query limit list before context front answer (whats.Queries query) e a = (query, (bytes_eq-Decides answer (answer_at limit list front query)).0 e, a)

good_read_Decides : (limit : ℕ) (list : List Placed) (before : List Mark) (context : List ℕ) (front : ℕ) (answer : List ℕ)
    → Decides (good limit list before (marks.Reads context front answer)) (GoodRead limit list before context front answer)
good_read_Decides limit list before context front answer =
    Decides-like _
    (λ ((within, (what, passes, asked)), only).
    let (query, gives, q) = answered_query limit list before context front answer what passes asked in
    record { query = query; asked = q; only = only; within = within; gives = gives })
    (λ g. ((g.within, (whats.Queries g.query, (bytes_eq-Decides answer (answer_at limit list front g.query)).1 g.gives, g.asked)), g.only))
    (Decides-and _ _ (Decides-and _ _ (Decides-le front (length list)) (asked_of_Decides context (answered_by limit list front answer) front before)) (not_ended_Decides context before))

good_Decides : (limit : ℕ) (list : List Placed) (before : List Mark) (m : Mark) → Decides (good limit list before m) (Good limit list before m)
good_Decides limit list before (marks.Asks context what) = not_asked_Decides context before
good_Decides limit list before (marks.Ends context place ending) = good_ending_Decides limit list before context place ending
good_Decides limit list before (marks.Leaves context) = good_leave_Decides limit list before context
good_Decides limit list before (marks.Reads context front answer) = good_read_Decides limit list before context front answer
good_Decides limit list before (marks.Stales front query answer) = Decides-and _ _ (Decides-le front (length list)) (bytes_eq-Decides answer (answer_at limit list front query))
good_Decides limit list before (marks.Tells number) = (λ e. tt, λ e. refl)
good_Decides limit list before (marks.Shows place placed) = Decides-eqb place (length (entries before) + 1)

-- ---- legality

each_good_Decides : (limit : ℕ) (list : List Placed) (before ms : List Mark) → Decides (each_good limit list before ms) (EachGood limit list before ms)
unfolding each_good EachGood
each_good_Decides limit list before [] = (λ e. tt, λ e. refl)
each_good_Decides limit list before (m ∷ ms) = Decides-and _ _ (good_Decides limit list before m) (each_good_Decides limit list (before ++ m ∷ []) ms)

accounted_Decides : (ms : List Mark) (e : Placed) → Decides (accounted ms e) (IsAccounted ms e)
accounted_Decides ms e =
    Decides-or _ _ (blank_Decides e.proposal)
    (Decides-like _
    (λ (what, passes, asked). subst (λ w. Asked ms e.context w) ((proposes_Decides e.proposal what).0 passes) asked)
    (λ asked. (whats.Proposes e.proposal, (proposes_Decides e.proposal (whats.Proposes e.proposal)).1 refl, asked))
    (asked_any_Decides e.context (proposes e.proposal) ms))

pub decides_legal : DecidesLegal
decides_legal limit list ms =
    Decides-like _
    (λ (each, places). record { each = each; places = places })
    (λ l. (l.each, l.places))
    (Decides-and _ _ (each_good_Decides limit list [] ms) (all_Decides (accounted ms) (λ e. IsAccounted ms e) (accounted_Decides ms) list))
