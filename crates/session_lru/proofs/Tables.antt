-- A table stays one whatever is called.
use Rattle.std.proofs.Common.{◌≡◌, ℕ, zero, suc, ◌+◌, ◌-◌, ◌^◌, ◌<◌, ◌≤◌, List, [], ◌∷◌, Bool, true, false, cond, Option, Some, None, length, take, max, refl, sym, ap, ◌∙◌, subst, nat_eq, arith}
use Rattle.std.specs.Prelude.{◌==◌, ◌||◌, not, nat_lt, Result, Ok, Err, OnOk, OnErr}
use Rattle.std.specs.List.{list_all}
use Rattle.std.specs.Option.{is_some}
use Rattle.std.specs.Map.{lookup, remove_entry, set_value}
use Rattle.std.proofs.lemmas.Bool.{and_from, not_from_false}
use Rattle.std.proofs.lemmas.Bool.Decides.{nat_tests}
use Rattle.std.proofs.lemmas.List.{length-take, take_all}
use Rattle.host_ids.specs.declared.proposal.TheConstants.{MOST_COMMAND, MOST_SERIES}
use Rattle.session_lru.specs.declared.session.Session.{Session}
use Rattle.session_lru.specs.Table.{Table}
use Rattle.session_lru.specs.Calls.{session_of, fresh, registered, closed, admitted, raised_to, with_reply}
use Rattle.session_lru.specs.Section.{is_session, has_client, all_differ, is_table}
use Rattle.session_lru.proofs.Parts.{and_left, and_right, not_true, session_parts, session_of_parts, table_parts, table_of_parts}
use Rattle.session_lru.proofs.Sublists.{filtered_above, length_filtered, inserted, length_inserted}

abbrev Sessions : Type 0
Sessions = List (ℕ × Session)

-- ---- clients

-- a client is among sessions where it is found
pub among : (client : ℕ) (es : Sessions) → has_client client es ≡ is_some (lookup (nat_eq client) es)
among client [] = refl
among client (e ∷ es) = elim (nat_eq client e.0) as (λ b. nat_eq client e.0 ≡ b → has_client client (e ∷ es) ≡ is_some (cond b (Some e.1) (lookup (nat_eq client) es))) [
  | true ↦ λ q. (let t : (e.0 == client) ≡ true = grind (arith, nat_tests) in rw t refl)
  | false ↦ λ q. (let t : (e.0 == client) ≡ false = grind (arith, nat_tests) in rw t (among client es))
] refl

not_among : (client : ℕ) (es : Sessions) → lookup (nat_eq client) es ≡ None → has_client client es ≡ false
not_among client es e = among client es ∙ ap (λ (o : Option Session). is_some o) e

or_left : (a b : Bool) → (a || b) ≡ false → a ≡ false
or_left true b e = e
or_left false b e = refl

or_right : (a b : Bool) → (a || b) ≡ false → b ≡ false
or_right true b e = absurd cc
or_right false b e = e

or_both : (a b : Bool) → a ≡ false → b ≡ false → (a || b) ≡ false
or_both true b e f = absurd cc
or_both false b e f = f

-- what is said of sessions without one, and of the first ones, follows from what is said of all
has_removed : (client : ℕ) (test : ℕ → Bool) (es : Sessions) → has_client client es ≡ false → has_client client (remove_entry test es) ≡ false
has_removed client test [] h = refl
has_removed client test (e ∷ es) h =
    let one = or_left (e.0 == client) (has_client client es) h in
    let rest = or_right (e.0 == client) (has_client client es) h in
    elim (test e.0) as (λ b. has_client client (cond b es (e ∷ remove_entry test es)) ≡ false)
    [ true ↦ rest | false ↦ or_both (e.0 == client) _ one (has_removed client test es rest) ]

differ_removed : (test : ℕ → Bool) (es : Sessions) → all_differ es ≡ true → all_differ (remove_entry test es) ≡ true
differ_removed test [] h = refl
differ_removed test (e ∷ es) h =
    let one = not_true (has_client e.0 es) (and_left (not (has_client e.0 es)) (all_differ es) h) in
    let rest = and_right (not (has_client e.0 es)) (all_differ es) h in
    elim (test e.0) as (λ b. all_differ (cond b es (e ∷ remove_entry test es)) ≡ true)
    [ true ↦ rest | false ↦ and_from _ _ (not_from_false _ (has_removed e.0 test es one)) (differ_removed test es rest) ]

gone_removed : (client : ℕ) (es : Sessions) → all_differ es ≡ true → has_client client (remove_entry (nat_eq client) es) ≡ false
gone_removed client [] h = refl
gone_removed client (e ∷ es) h =
    let one = not_true (has_client e.0 es) (and_left (not (has_client e.0 es)) (all_differ es) h) in
    let rest = and_right (not (has_client e.0 es)) (all_differ es) h in
    elim (nat_eq client e.0) as (λ b. nat_eq client e.0 ≡ b → has_client client (cond b es (e ∷ remove_entry (nat_eq client) es)) ≡ false) [
      | true ↦ λ q. (let same : e.0 ≡ client = grind (arith, nat_tests) in subst (λ (c : ℕ). has_client c es ≡ false) same one)
      | false ↦ λ q. or_both (e.0 == client) _ (grind (arith, nat_tests)) (gone_removed client es rest)
    ] refl

all_removed : (test : ℕ → Bool) (es : Sessions) → list_all is_session es ≡ true → list_all is_session (remove_entry test es) ≡ true
all_removed test [] h = refl
all_removed test (e ∷ es) h =
    let rest = and_right (is_session e) (list_all is_session es) h in
    elim (test e.0) as (λ b. list_all is_session (cond b es (e ∷ remove_entry test es)) ≡ true)
    [ true ↦ rest | false ↦ and_from _ _ (and_left (is_session e) (list_all is_session es) h) (all_removed test es rest) ]

length_removed : (test : ℕ → Bool) (es : Sessions) → length (remove_entry test es) ≤ length es
length_removed test [] = omega arith
length_removed test (e ∷ es) =
    let rest = length_removed test es in
    elim (test e.0) as (λ b. length (cond b es (e ∷ remove_entry test es)) ≤ length (e ∷ es)) [ true ↦ omega arith | false ↦ omega (arith, rest) ]

length_without : (test : ℕ → Bool) (es : Sessions) (s : Session) → lookup test es ≡ Some s → length (remove_entry test es) + 1 ≤ length es
length_without test [] s h = absurd cc
length_without test (e ∷ es) s h =
    elim (test e.0) as (λ b. cond b (Some e.1) (lookup test es) ≡ Some s → length (cond b es (e ∷ remove_entry test es)) + 1 ≤ length (e ∷ es))
    [ true ↦ λ h. omega arith | false ↦ λ h. (let rest = length_without test es s h in omega (arith, rest)) ] h

has_take : (client n : ℕ) (es : Sessions) → has_client client es ≡ false → has_client client (take n es) ≡ false
has_take client zero es h = refl
has_take client (suc n) [] h = refl
has_take client (suc n) (e ∷ es) h = or_both (e.0 == client) _ (or_left (e.0 == client) _ h) (has_take client n es (or_right (e.0 == client) _ h))

differ_take : (n : ℕ) (es : Sessions) → all_differ es ≡ true → all_differ (take n es) ≡ true
differ_take zero es h = refl
differ_take (suc n) [] h = refl
differ_take (suc n) (e ∷ es) h =
    and_from _ _ (not_from_false _ (has_take e.0 n es (not_true (has_client e.0 es) (and_left (not (has_client e.0 es)) (all_differ es) h)))) (differ_take n es (and_right (not (has_client e.0 es)) (all_differ es) h))

all_take : (n : ℕ) (es : Sessions) → list_all is_session es ≡ true → list_all is_session (take n es) ≡ true
all_take zero es h = refl
all_take (suc n) [] h = refl
all_take (suc n) (e ∷ es) h = and_from _ _ (and_left (is_session e) (list_all is_session es) h) (all_take n es (and_right (is_session e) (list_all is_session es) h))

-- the session that is found is one
pub is_found : (client : ℕ) (es : Sessions) (s : Session) → lookup (nat_eq client) es ≡ Some s → list_all is_session es ≡ true → is_session (client, s) ≡ true
is_found client [] s l h = absurd cc
is_found client (e ∷ es) s l h =
    elim (nat_eq client e.0) as (λ b. nat_eq client e.0 ≡ b → cond b (Some e.1) (lookup (nat_eq client) es) ≡ Some s → is_session (client, s) ≡ true) [
      | true ↦ λ q l. (let key : e.0 ≡ client = grind (arith, nat_tests) in let value : e.1 ≡ s = cc in
          subst (λ (c : ℕ). is_session (c, s) ≡ true) key (subst (λ (x : Session). is_session (e.0, x) ≡ true) value (and_left (is_session e) (list_all is_session es) h)))
      | false ↦ λ q l. is_found client es s l (and_right (is_session e) (list_all is_session es) h)
    ] refl l

-- ---- one session first

-- a session before those without its client
first_table : (client : ℕ) (s : Session) (rest : Sessions) (t : Table) → is_table t ≡ true → is_session (client, s) ≡ true → has_client client rest ≡ false → length rest + 1 ≤ t.limit
    → list_all is_session rest ≡ true → all_differ rest ≡ true → is_table (record t { sessions = (client, s) ∷ rest }) ≡ true
first_table client s rest t h one new room all differ =
    let p = table_parts t h in
    table_of_parts (record t { sessions = (client, s) ∷ rest }) (record {
      one = p.one;
      most = p.most;
      within = omega (arith, room);
      sessions = and_from _ _ one all;
      differ = and_from _ _ (not_from_false _ new) differ;
    })

pub adopted_table : (client : ℕ) (s : Session) (t : Table) → is_table t ≡ true → is_session (client, s) ≡ true → has_client client t.sessions ≡ false → length t.sessions < t.limit → is_table (record t { sessions = (client, s) ∷ t.sessions }) ≡ true
adopted_table client s t h one new room =
    let p = table_parts t h in first_table client s t.sessions t h one new (omega (arith, room)) p.sessions p.differ

fresh_session : (client : ℕ) → 1 ≤ client → client < 2 ^ 64 → is_session (client, fresh) ≡ true
fresh_session client one fits = session_of_parts (client, fresh) (record { one = one; fits = fits; most = omega arith; replies = refl; few = omega arith })

pub registered_table : (client : ℕ) (t : Table) → is_table t ≡ true → 1 ≤ client → client < 2 ^ 64 → session_of client t ≡ None → is_table (registered client None t) ≡ true
registered_table client t h one fits none =
    let p = table_parts t h in
    let l = length-take (t.limit - 1) t.sessions in
    let o = p.one in
    first_table client fresh (take (t.limit - 1) t.sessions) t h (fresh_session client one fits) (has_take client (t.limit - 1) t.sessions (not_among client t.sessions none)) (omega (arith, l, o))
    (all_take (t.limit - 1) t.sessions p.sessions) (differ_take (t.limit - 1) t.sessions p.differ)

pub closed_table : (client : ℕ) (t : Table) → is_table t ≡ true → is_table (closed client t) ≡ true
closed_table client t h =
    let p = table_parts t h in
    let l = length_removed (nat_eq client) t.sessions in
    let w = p.within in
    table_of_parts (closed client t) (record {
      one = p.one;
      most = p.most;
      within = omega (arith, l, w);
      sessions = all_removed (nat_eq client) t.sessions p.sessions;
      differ = differ_removed (nat_eq client) t.sessions p.differ;
    })

raised_session : (client responded : ℕ) (s : Session) → is_session (client, s) ≡ true → responded ≤ MOST_SERIES → is_session (client, raised_to responded s) ≡ true
raised_session client responded s h m =
    let p = session_parts (client, s) h in
    let q = p.most in
    let f = p.few in
    let l = length_filtered (λ (e : ℕ × List ℕ). nat_lt (max s.responded responded) e.0) s.replies in
    session_of_parts (client, raised_to responded s) (record {
      one = p.one;
      fits = p.fits;
      most = omega (arith, m, q);
      replies = filtered_above (max s.responded responded) s.responded s.replies p.replies;
      few = omega (arith, l, f);
    })

pub admitted_table : (client responded : ℕ) (s : Session) (t : Table) → is_table t ≡ true → responded ≤ MOST_SERIES → session_of client t ≡ Some s → is_table (admitted client responded (Some s) t) ≡ true
admitted_table client responded s t h m there =
    let p = table_parts t h in
    let l = length_without (nat_eq client) t.sessions s there in
    let w = p.within in
    first_table client (raised_to responded s) (remove_entry (nat_eq client) t.sessions) t h (raised_session client responded s (is_found client t.sessions s there p.sessions) m)
    (gone_removed client t.sessions p.differ) (omega (arith, l, w)) (all_removed (nat_eq client) t.sessions p.sessions) (differ_removed (nat_eq client) t.sessions p.differ)

-- ---- one session in its place

module _ (client : ℕ) (s : Session) where
  has_set : (c : ℕ) (es : Sessions) → has_client c (set_value (nat_eq client) es s) ≡ has_client c es
  has_set c [] = refl
  has_set c (e ∷ es) = elim (nat_eq client e.0) as (λ b. has_client c (cond b ((e.0, s) ∷ es) (e ∷ set_value (nat_eq client) es s)) ≡ has_client c (e ∷ es))
      [ true ↦ refl | false ↦ ap (λ (b : Bool). (e.0 == c) || b) (has_set c es) ]

  differ_set : (es : Sessions) → all_differ (set_value (nat_eq client) es s) ≡ all_differ es
  differ_set [] = refl
  differ_set (e ∷ es) = elim (nat_eq client e.0) as (λ b. all_differ (cond b ((e.0, s) ∷ es) (e ∷ set_value (nat_eq client) es s)) ≡ all_differ (e ∷ es))
      [ true ↦ refl | false ↦ rw (has_set e.0 es, differ_set es) refl ]

  length_set : (es : Sessions) → length (set_value (nat_eq client) es s) ≡ length es
  length_set [] = refl
  length_set (e ∷ es) = elim (nat_eq client e.0) as (λ b. length (cond b ((e.0, s) ∷ es) (e ∷ set_value (nat_eq client) es s)) ≡ length (e ∷ es))
      [ true ↦ refl | false ↦ ap suc (length_set es) ]

  all_set : (es : Sessions) → is_session (client, s) ≡ true → list_all is_session es ≡ true → list_all is_session (set_value (nat_eq client) es s) ≡ true
  all_set [] one h = refl
  all_set (e ∷ es) one h =
      let rest = and_right (is_session e) (list_all is_session es) h in
      elim (nat_eq client e.0) as (λ b. nat_eq client e.0 ≡ b → list_all is_session (cond b ((e.0, s) ∷ es) (e ∷ set_value (nat_eq client) es s)) ≡ true) [
        | true ↦ λ q. (let same : client ≡ e.0 = grind (arith, nat_tests) in and_from _ _ (subst (λ (c : ℕ). is_session (c, s) ≡ true) same one) rest)
        | false ↦ λ q. and_from _ _ (and_left (is_session e) (list_all is_session es) h) (all_set es one rest)
      ] refl

pub set_table : (client : ℕ) (s : Session) (t : Table) → is_table t ≡ true → is_session (client, s) ≡ true → is_table (record t { sessions = set_value (nat_eq client) t.sessions s }) ≡ true
set_table client s t h one =
    let p = table_parts t h in
    table_of_parts (record t { sessions = set_value (nat_eq client) t.sessions s }) (record {
      one = p.one;
      most = p.most;
      within = subst (λ (n : ℕ). n ≤ t.limit) (sym (length_set client s t.sessions)) p.within;
      sessions = all_set client s t.sessions one p.sessions;
      differ = differ_set client s t.sessions ∙ p.differ;
    })

pub kept_session : (client series : ℕ) (reply : List ℕ) (s : Session) → is_session (client, s) ≡ true → s.responded < series → series ≤ MOST_SERIES → length reply ≤ MOST_COMMAND → length s.replies + 1 < 2 ^ 32
    → is_session (client, with_reply series reply s) ≡ true
kept_session client series reply s h above most short few =
    let p = session_parts (client, s) h in
    let fits : length reply < 2 ^ 16 = omega (arith, short) in
    let l = length_inserted series reply most fits s.replies in
    session_of_parts (client, with_reply series reply s) (record {
      one = p.one;
      fits = p.fits;
      most = p.most;
      replies = inserted series reply most fits s.responded s.replies above p.replies;
      few = omega (arith, l, few);
    })

pub limit_one : (limit : ℕ) (sessions : Sessions) → is_table (record { limit = limit; sessions = sessions }) ≡ true → 1 ≤ limit
limit_one limit sessions h = (table_parts (record { limit = limit; sessions = sessions }) h).one

-- a session whose reply was kept, or that stayed as it was
pub kept_either : {A E : Type 0} (r : Result A E) (client series : ℕ) (reply : List ℕ) (s new : Session) → OnOk r (new ≡ with_reply series reply s) → OnOk r (length s.replies + 1 < 2 ^ 32) → OnErr r (new ≡ s)
    → is_session (client, s) ≡ true → s.responded < series → series ≤ MOST_SERIES → length reply ≤ MOST_COMMAND → is_session (client, new) ≡ true
kept_either (Ok x) client series reply s new ok few err h above most short = subst (λ (y : Session). is_session (client, y) ≡ true) (sym ok) (kept_session client series reply s h above most short few)
kept_either (Err e) client series reply s new ok few err h above most short = subst (λ (y : Session). is_session (client, y) ≡ true) (sym err) h

-- a session that isn't there isn't found, and nothing goes where there is room
none_of : (o : Option Session) → is_some o ≡ false → o ≡ None
none_of None h = refl
none_of (Some x) h = absurd cc

pub none_among : (client : ℕ) (es : Sessions) → has_client client es ≡ false → lookup (nat_eq client) es ≡ None
none_among client es h = none_of (lookup (nat_eq client) es) (sym (among client es) ∙ h)

pub take_whole : (es : Sessions) (limit : ℕ) → length es < limit → take (limit - 1) es ≡ es
take_whole es limit h = take_all (limit - 1) es (omega (arith, h))
