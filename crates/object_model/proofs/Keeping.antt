-- The moves of a desk are legal.
use Rattle.std.proofs.Common.{◌≡◌, ◌≢◌, ℕ, suc, ◌-◌, ◌<◌, ◌≤◌, List, [], ◌∷◌, ◌++◌, Option, Some, None, length, refl, sym, ap, ◌∙◌, subst, append_assoc, length-append, arith, ◌⊎◌, inl, inr}
use Rattle.std.specs.Prelude.{slice_get, IfSome}
use Rattle.std.specs.List.{AllByRecursion}
use Rattle.std.proofs.lemmas.Option.{none-some, same_Some, slice_get_within}
use Rattle.std.proofs.lemmas.List.{append-nil, take-append-le, map-append, length-map}
use Rattle.host_ids.specs.declared.proposal.Proposal.{Proposal}
use Rattle.host_ids.specs.declared.proposal.Proposal.TheVariants as proposals
use Rattle.object_model.specs.declared.mark.What.{What}
use Rattle.object_model.specs.declared.mark.What.TheVariants as whats
use Rattle.object_model.specs.declared.mark.Ending.{Ending}
use Rattle.object_model.specs.declared.mark.Placed.{Placed}
use Rattle.object_model.specs.declared.mark.Mark.{Mark}
use Rattle.object_model.specs.declared.mark.Mark.TheVariants as marks
use Rattle.object_model.specs.Sequence.{ending_at, history, proposals_of}
use Rattle.object_model.specs.Mark.{asked_context, ended_context, named_place, told_number}
use Rattle.object_model.specs.Legal.{NotAsked, NotEnded, AtMost, Asked, AskedWithin, Good, EachGood, IsAccounted, Legal}
use Rattle.object_model.specs.Desk.{Request, Desk, empty_desk, MayStand, Grows, AskMove, EndMove, PlaceMove, ReadMove, LeaveMove, Move, Moves}
use Rattle.object_model.proofs.Lists.{all_append, all_left, all_right, all_map, all_map₂, get_left, get_found}

-- ---- marks that stand before

-- an ask within a number is an ask
asked_of : (before : List Mark) (context : List ℕ) (what : What) (n : ℕ) → AskedWithin before context what n → Asked before context what
asked_of before context what n a = record { earlier = a.earlier; later = a.later; stands = a.stands }

-- what was asked stays asked when marks follow
pub asked_more : (before ms : List Mark) (context : List ℕ) (what : What) → Asked before context what → Asked (before ++ ms) context what
asked_more before ms context what a = record {
  earlier = a.earlier;
  later = a.later ++ ms;
  stands = rw a.stands (append_assoc a.earlier (marks.Asks context what ∷ a.later) ms);
}

-- the same with its number
within_more : (before ms : List Mark) (context : List ℕ) (what : What) (n : ℕ) → AskedWithin before context what n → AskedWithin (before ++ ms) context what n
unfolding asked_more asked_of
within_more before ms context what n a =
    let b = asked_more before ms context what (asked_of before context what n a) in
    record { earlier = b.earlier; later = b.later; stands = b.stands; numbers = a.numbers }

at_most_by : (m n : ℕ) (o : Option ℕ) → m ≤ n → IfSome o (λ k. k ≤ m) → IfSome o (λ k. k ≤ n)
at_most_by m n None h p = tt
at_most_by m n (Some k) h p = omega (arith, h, p)

-- numbers that are at most m are at most a greater n
at_most_up : (m n : ℕ) (ms : List Mark) → m ≤ n → AtMost m ms → AtMost n ms
at_most_up m n ms h p = all_map (λ x. IfSome (told_number x) (λ k. k ≤ m)) (λ x. IfSome (told_number x) (λ k. k ≤ n)) ms (λ x q. at_most_by m n (told_number x) h q) p

-- where all numbers told so far are at most l, an ask is within each n from l on
asked_within : (before : List Mark) (context : List ℕ) (what : What) (most l n : ℕ) → AtMost l before → l ≤ n → AskedWithin before context what most → AskedWithin before context what n
asked_within before context what most l n h k a = record {
  earlier = a.earlier;
  later = a.later;
  stands = a.stands;
  numbers = at_most_up l n a.earlier k (all_left _ a.earlier (marks.Asks context what ∷ a.later) (subst (AtMost l) a.stands h));
}

-- an ask within m is within a greater n
asked_up : (before : List Mark) (context : List ℕ) (what : What) (m n : ℕ) → m ≤ n → AskedWithin before context what m → AskedWithin before context what n
asked_up before context what m n k a = record { earlier = a.earlier; later = a.later; stands = a.stands; numbers = at_most_up m n a.earlier k a.numbers }

-- ---- a longer list says the same of its front

proposals_more : (list more : List Placed) → proposals_of (list ++ more) ≡ proposals_of list ++ proposals_of more
proposals_more list more = map-append (λ (e : Placed). e.proposal) list more

history_more : (n : ℕ) (list more : List Placed) → n ≤ length list → history n (proposals_of (list ++ more)) ≡ history n (proposals_of list)
history_more n list more h =
    let k : n ≤ length (proposals_of list) = rw (length-map list (λ (e : Placed). e.proposal)) h in
    rw (proposals_more list more, take-append-le n (proposals_of list) (proposals_of more) k) refl

ending_more : (limit : ℕ) (list more : List Placed) (place : ℕ) (e : Placed) → slice_get list (place - 1) ≡ Some e → ending_at limit (list ++ more) place ≡ ending_at limit list place
ending_more limit list more place e s =
    let k : place - 1 < length list = slice_get_within list (place - 1) e s in
    rw (history_more (place - 1) list more (omega (arith, k)), s, get_left list more (place - 1) e s) refl

-- what is good by a list is good by a longer one
good_more : (limit : ℕ) (list more : List Placed) (before : List Mark) (m : Mark) → Good limit list before m → Good limit (list ++ more) before m
good_more limit list more before (marks.Asks context what) g = g
good_more limit list more before (marks.Ends context place ending) g = record {
  proposal = g.proposal;
  positive = g.positive;
  stands = get_left list more (place - 1) _ g.stands;
  asked = g.asked;
  only = g.only;
  own = g.own;
  gives = ending_more limit list more place _ g.stands ∙ g.gives;
}
good_more limit list more before (marks.Leaves context) g = g
good_more limit list more before (marks.Reads context front answer) g = record {
  query = g.query;
  asked = g.asked;
  only = g.only;
  within = rw length-append (omega (arith, g.within));
  gives = rw (history_more front list more g.within) g.gives;
}
good_more limit list more before (marks.Stales front query answer) g = (rw length-append (omega (arith, g.0)), rw (history_more front list more g.0) g.1)
good_more limit list more before (marks.Tells number) g = tt
good_more limit list more before (marks.Shows place e) g = g

each_more : (limit : ℕ) (list more : List Placed) (before ms : List Mark) → EachGood limit list before ms → EachGood limit (list ++ more) before ms
unfolding EachGood
each_more limit list more before [] g = tt
each_more limit list more before (m ∷ ms) g = (good_more limit list more before m g.0, each_more limit list more (before ++ m ∷ []) ms g.1)

-- one more good mark after good ones
pub each_last : (limit : ℕ) (list : List Placed) (before ms : List Mark) (m : Mark) → EachGood limit list before ms → Good limit list (before ++ ms) m → EachGood limit list before (ms ++ m ∷ [])
unfolding EachGood
each_last limit list before [] m g h = (rw append-nil at h, tt)
each_last limit list before (x ∷ ms) m g h = (g.0, each_last limit list (before ++ x ∷ []) ms m g.1 (rw (append_assoc before (x ∷ []) ms) h))

-- ---- open requests under contexts of their own

-- no request has this context
abbrev pub Differ : List ℕ → List Request → Type 0
Differ context rs = AllByRecursion (λ r. r.context ≢ context) rs

-- no two requests have the same context
abbrev pub Apart : List Request → Type 0
Apart [] = Unit {0}
Apart (r ∷ rs) = Differ r.context rs × Apart rs

differ_out : (context : List ℕ) (f b : List Request) (r : Request) → Differ context (f ++ r ∷ b) → Differ context (f ++ b)
differ_out context f b r p = all_append _ f b (all_left _ f (r ∷ b) p) (all_right _ f (r ∷ b) p).1

-- a request taken out of those apart differs from the others
apart_out : (f b : List Request) (r : Request) → Apart (f ++ r ∷ b) → Differ r.context (f ++ b) × Apart (f ++ b)
apart_out [] b r p = p
apart_out (x ∷ f) b r p =
    let q = apart_out f b r p.1 in
    let h = (all_right _ f (r ∷ b) p.0).0 in
    ((λ e. h (sym e), q.0), (differ_out x.context f b r p.0, q.1))

-- a request that differs from those apart is put among them
apart_in : (f b : List Request) (r : Request) → Differ r.context (f ++ b) → Apart (f ++ b) → Apart (f ++ r ∷ b)
apart_in [] b r d p = (d, p)
apart_in (x ∷ f) b r d p = (all_append _ f (r ∷ b) (all_left _ f b p.0) (λ e. d.0 (sym e), all_right _ f b p.0), apart_in f b r d.1 p.1)

-- ---- what a desk keeps with the marks so far

-- where a mark names a place, the list has there the context that the mark ends
abbrev pub NamesIt : List Placed → Mark → Type 0
NamesIt list m = (place : ℕ) → named_place m ≡ Some place → (e : Placed) × (slice_get list (place - 1) ≡ Some e) × (ended_context m ≡ Some e.context)

-- a request was asked, within its number, and hasn't ended
pub record IsOpen (before : List Mark) (r : Request) : Type 0 where
  pub asked : AskedWithin before r.context r.what r.since
  pub only : NotEnded r.context before

-- what is new to the requests is new to the marks
pub record IsNew (before : List Mark) (d : Desk) (context : List ℕ) : Type 0 where
  pub asked : NotAsked context before
  pub ended : NotEnded context before
  pub open_ones : Differ context d.open_ones

-- a desk and the marks that led to it
pub record Kept (limit : ℕ) (before : List Mark) (d : Desk) : Type 0 where
  pub each : EachGood limit d.decided [] before
  pub numbers : AtMost (length d.decided) before
  pub new : (context : List ℕ) → Differ context d.asked → IsNew before d context
  pub asked : AllByRecursion (λ r. AskedWithin before r.context r.what r.since) d.asked
  pub open_ones : AllByRecursion (IsOpen before) d.open_ones
  pub apart : Apart d.open_ones
  pub places : (n : ℕ) (e : Placed) → slice_get d.decided n ≡ Some e → (e.proposal ≡ proposals.Blank) ⊎ AskedWithin before e.context (whats.Proposes e.proposal) n
  pub named : AllByRecursion (NamesIt d.decided) before

empty_kept : (limit : ℕ) → Kept limit [] empty_desk
unfolding EachGood
empty_kept limit = record {
  each = tt;
  numbers = tt;
  new = λ context d. record { asked = tt; ended = tt; open_ones = tt };
  asked = tt;
  open_ones = tt;
  apart = tt;
  places = λ n e s. absurd (none-some e s);
  named = tt;
}

-- ---- the list grows

names_more : (list more : List Placed) (m : Mark) → NamesIt list m → NamesIt (list ++ more) m
names_more list more m h place e = let q = h place e in (q.0, get_left list more (place - 1) q.0 q.1, q.2)

-- what may stand next was asked within the length, or is a blank
may_be : (limit : ℕ) (before : List Mark) (d : Desk) (e : Placed) (n : ℕ) → Kept limit before d → length d.decided ≤ n → MayStand d.asked e → (e.proposal ≡ proposals.Blank) ⊎ AskedWithin before e.context (whats.Proposes e.proposal) n
may_be limit before d e n k h (inl b) = inl b
may_be limit before d e n k h (inr m) =
    let r : Request = record { context = e.context; what = whats.Proposes e.proposal; since = m.0 } in
    let a = all_right _ m.1 (r ∷ m.2) (subst (AllByRecursion (λ r. AskedWithin before r.context r.what r.since)) m.3 k.asked) in
    inr (asked_within before e.context (whats.Proposes e.proposal) m.0 (length d.decided) n k.numbers h a.0)

-- so each place of the grown list is accounted for
place_by : (limit : ℕ) (before : List Mark) (d : Desk) (e : Placed) (n : ℕ) → Kept limit before d → ((slice_get d.decided n ≡ Some e) ⊎ ((length d.decided ≤ n) × MayStand d.asked e))
    → (e.proposal ≡ proposals.Blank) ⊎ AskedWithin before e.context (whats.Proposes e.proposal) n
place_by limit before d e n k (inl s) = k.places n e s
place_by limit before d e n k (inr p) = may_be limit before d e n k p.0 p.1

grow_kept : (limit : ℕ) (before : List Mark) (d e : Desk) → Kept limit before d → Grows d e → Kept limit before e
grow_kept limit before d e k g = rw g.becomes (record {
  each = each_more limit d.decided g.more [] before k.each;
  numbers = at_most_up (length d.decided) (length (d.decided ++ g.more)) before (rw length-append (omega arith)) k.numbers;
  new = λ context h. let q = k.new context h in record { asked = q.asked; ended = q.ended; open_ones = q.open_ones };
  asked = k.asked;
  open_ones = k.open_ones;
  apart = k.apart;
  places = λ n p s. place_by limit before d p n k (get_found (MayStand d.asked) d.decided g.more n p s g.may);
  named = all_map (NamesIt d.decided) (NamesIt (d.decided ++ g.more)) before (λ m h. names_more d.decided g.more m h) k.named;
})

-- ---- an ask

none_is : {A : Type 0} (o : Option A) (x : A) → o ≡ None → o ≢ Some x
none_is o x e q = none-some x (sym e ∙ q)

-- a place stays accounted for when marks follow
places_more : (before ms : List Mark) (e : Placed) (n : ℕ) → ((e.proposal ≡ proposals.Blank) ⊎ AskedWithin before e.context (whats.Proposes e.proposal) n) → ((e.proposal ≡ proposals.Blank) ⊎ AskedWithin (before ++ ms) e.context (whats.Proposes e.proposal) n)
places_more before ms e n (inl b) = inl b
places_more before ms e n (inr a) = inr (within_more before ms e.context (whats.Proposes e.proposal) n a)

-- a request stays open where a mark doesn't end it
open_more : (before : List Mark) (m : Mark) (r : Request) → IsOpen before r → ended_context m ≢ Some r.context → IsOpen (before ++ m ∷ []) r
open_more before m r h d = record {
  asked = within_more before (m ∷ []) r.context r.what r.since h.asked;
  only = all_append _ before (m ∷ []) h.only (d, tt);
}

ask_kept : (limit : ℕ) (before : List Mark) (d e : Desk) (context : List ℕ) (what : What) → Kept limit before d → AskMove d context what e → Kept limit (before ++ marks.Asks context what ∷ []) e
ask_kept limit before d e context what k m =
    let r : Request = record { context = context; what = what; since = m.since } in
    let n = k.new context m.new in
    let now = marks.Asks context what ∷ [] in
    let asked : AskedWithin (before ++ now) context what m.since = record { earlier = before; later = []; stands = refl; numbers = at_most_up (length d.decided) m.since before m.late k.numbers } in
    let w = m.with in
    let old : AllByRecursion (IsOpen (before ++ now)) (w.front ++ w.back) = subst (AllByRecursion (IsOpen (before ++ now))) w.rest
    (all_map (IsOpen before) (IsOpen (before ++ now)) d.open_ones (λ x h. open_more before (marks.Asks context what) x h (none_is _ _ refl)) k.open_ones) in
    rw m.becomes (record {
      each = each_last limit d.decided [] before (marks.Asks context what) k.each n.asked;
      numbers = all_append _ before now k.numbers (tt, tt);
      new = λ c h.
          let q = k.new c (all_left _ d.asked (r ∷ []) h) in
          let differs = (all_right _ d.asked (r ∷ []) h).0 in
          record {
            asked = all_append _ before now q.asked (λ same. differs (same_Some _ _ same), tt);
            ended = all_append _ before now q.ended (none_is _ _ refl, tt);
            open_ones = rw w.whole (all_append _ w.front (r ∷ w.back) (all_left _ w.front w.back (subst (Differ c) w.rest q.open_ones)) (differs, all_right _ w.front w.back (subst (Differ c) w.rest q.open_ones)));
          };
      asked = all_append _ d.asked (r ∷ []) (all_map (λ x. AskedWithin before x.context x.what x.since) (λ x. AskedWithin (before ++ now) x.context x.what x.since) d.asked (λ x a. within_more before now x.context x.what x.since a) k.asked) (asked, tt);
      open_ones = rw w.whole (all_append _ w.front (r ∷ w.back) (all_left _ w.front w.back old) (record { asked = asked; only = all_append _ before now n.ended (none_is _ _ refl, tt) }, all_right _ w.front w.back old));
      apart = rw w.whole (apart_in w.front w.back r (subst (Differ context) w.rest n.open_ones) (subst Apart w.rest k.apart));
      places = λ i p s. places_more before now p i (k.places i p s);
      named = all_append _ before now k.named (λ place s. absurd (none-some place s), tt);
    })

-- ---- an ending

-- a mark that ends an open request, and asks nothing
end_kept : (limit : ℕ) (before : List Mark) (d e : Desk) (m : Mark) (context : List ℕ) (what : What) (since : ℕ) → Kept limit before d
    → asked_context m ≡ None → ended_context m ≡ Some context → Good limit d.decided before m → AtMost (length d.decided) (m ∷ []) → NamesIt d.decided m → EndMove d context what since e
    → Kept limit (before ++ m ∷ []) e
end_kept limit before d e m context what since k none ends good most names move =
    let r : Request = record { context = context; what = what; since = since } in
    let now = m ∷ [] in
    let w = move.was in
    let opens = subst (AllByRecursion (IsOpen before)) w.whole k.open_ones in
    let apart = apart_out w.front w.back r (subst Apart w.whole k.apart) in
    let others : AllByRecursion (IsOpen before) (w.front ++ w.back) = all_append _ w.front w.back (all_left _ w.front (r ∷ w.back) opens) (all_right _ w.front (r ∷ w.back) opens).1 in
    rw move.becomes (record {
      each = each_last limit d.decided [] before m k.each good;
      numbers = all_append _ before now k.numbers most;
      new = λ c h.
          let q = k.new c h in
          let all = subst (Differ c) w.whole q.open_ones in
          let differs = (all_right _ w.front (r ∷ w.back) all).0 in
          record {
            asked = all_append _ before now q.asked (none_is _ _ none, tt);
            ended = all_append _ before now q.ended (λ same. differs (same_Some _ _ (sym ends ∙ same)), tt);
            open_ones = rw w.rest (differ_out c w.front w.back r all);
          };
      asked = all_map (λ x. AskedWithin before x.context x.what x.since) (λ x. AskedWithin (before ++ now) x.context x.what x.since) d.asked (λ x a. within_more before now x.context x.what x.since a) k.asked;
      open_ones = rw w.rest (all_map₂ (IsOpen before) (λ x. x.context ≢ context) (IsOpen (before ++ now)) (w.front ++ w.back) (λ x h s. open_more before m x h (λ same. s (same_Some _ _ (sym same ∙ ends)))) others apart.0);
      apart = rw w.rest apart.1;
      places = λ i p s. places_more before now p i (k.places i p s);
      named = all_append _ before now k.named (names, tt);
    })

-- the request that ends was open
was_open : (limit : ℕ) (before : List Mark) (d e : Desk) (context : List ℕ) (what : What) (since : ℕ) → Kept limit before d → EndMove d context what since e → IsOpen before (record { context = context; what = what; since = since })
was_open limit before d e context what since k move =
    (all_right _ move.was.front (record { context = context; what = what; since = since } ∷ move.was.back) (subst (AllByRecursion (IsOpen before)) move.was.whole k.open_ones)).0

-- no request at a blank has an ending
blank_gives : (limit : ℕ) (list : List Placed) (place : ℕ) (context : List ℕ) (p : Proposal) (ending : Ending) → slice_get list (place - 1) ≡ Some (record { context = context; proposal = p }) → p ≡ proposals.Blank → ending_at limit list place ≡ Some ending → ⊥
blank_gives limit list place context p ending s b g = none-some ending (rw (s, b) at g)

-- where the request of a context hasn't ended, no mark names a place that holds the context
named_other : (list : List Placed) (place : ℕ) (context : List ℕ) (x : Placed) (m : Mark) → slice_get list (place - 1) ≡ Some x → x.context ≡ context → NamesIt list m → ended_context m ≢ Some context → named_place m ≢ Some place
named_other list place context x m s c h d e =
    let q = h place e in
    d (q.2 ∙ ap (λ (y : Placed). Some y.context) (same_Some _ _ (sym q.1 ∙ s)) ∙ ap (λ (y : List ℕ). Some y) c)

-- a place that is no blank was asked
place_asked : (before : List Mark) (context : List ℕ) (p : Proposal) (n : ℕ) → (p ≡ proposals.Blank → ⊥) → ((p ≡ proposals.Blank) ⊎ AskedWithin before context (whats.Proposes p) n) → AskedWithin before context (whats.Proposes p) n
place_asked before context p n h (inl b) = absurd (h b)
place_asked before context p n h (inr a) = a

place_kept : (limit : ℕ) (before : List Mark) (d e : Desk) (context : List ℕ) (place : ℕ) (ending : Ending) → Kept limit before d → PlaceMove limit d context place ending e → Kept limit (before ++ marks.Ends context place ending ∷ []) e
place_kept limit before d e context place ending k m =
    let x : Placed = record { context = context; proposal = m.proposal } in
    let o = was_open limit before d e context (whats.Proposes m.proposal) m.since k m.ends in
    let at : place - 1 < length d.decided = slice_get_within d.decided (place - 1) x m.stands in
    end_kept limit before d e (marks.Ends context place ending) context (whats.Proposes m.proposal) m.since k refl refl
    (record {
      proposal = m.proposal;
      positive = m.positive;
      stands = m.stands;
      asked = place_asked before context m.proposal (place - 1) (λ b. blank_gives limit d.decided place context m.proposal ending m.stands b m.gives) (k.places (place - 1) x m.stands);
      only = o.only;
      own = all_map₂ (NamesIt d.decided) (λ y. ended_context y ≢ Some context) (λ y. named_place y ≢ Some place) before (λ y h s. named_other d.decided place context x y m.stands refl h s) k.named o.only;
      gives = m.gives;
    })
    (omega (arith, at), tt)
    (λ n s. (x, subst (λ (i : ℕ). slice_get d.decided (i - 1) ≡ Some x) (same_Some _ _ s) m.stands, refl))
    m.ends

read_kept : (limit : ℕ) (before : List Mark) (d e : Desk) (context : List ℕ) (front : ℕ) (answer : List ℕ) → Kept limit before d → ReadMove limit d context front answer e → Kept limit (before ++ marks.Reads context front answer ∷ []) e
read_kept limit before d e context front answer k m =
    let o = was_open limit before d e context (whats.Queries m.query) m.since k m.ends in
    end_kept limit before d e (marks.Reads context front answer) context (whats.Queries m.query) m.since k refl refl
    (record {
      query = m.query;
      asked = asked_up before context (whats.Queries m.query) m.since front m.late o.asked;
      only = o.only;
      within = m.within;
      gives = m.gives;
    })
    (m.within, tt) (λ n s. absurd (none-some n s)) m.ends

leave_kept : (limit : ℕ) (before : List Mark) (d e : Desk) (context : List ℕ) → Kept limit before d → LeaveMove d context e → Kept limit (before ++ marks.Leaves context ∷ []) e
leave_kept limit before d e context k m =
    let o = was_open limit before d e context m.what m.since k m.ends in
    end_kept limit before d e (marks.Leaves context) context m.what m.since k refl refl (record { what = m.what; asked = asked_of before context m.what m.since o.asked; only = o.only }) (tt, tt) (λ n s. absurd (none-some n s)) m.ends

-- ---- a mark that asks nothing and ends nothing

plain_kept : (limit : ℕ) (before : List Mark) (d e : Desk) (m : Mark) → Kept limit before d → asked_context m ≡ None → ended_context m ≡ None → named_place m ≡ None → Good limit d.decided before m
    → AtMost (length d.decided) (m ∷ []) → e ≡ d → Kept limit (before ++ m ∷ []) e
plain_kept limit before d e m k asks ends names good most same =
    let now = m ∷ [] in
    rw same (record {
      each = each_last limit d.decided [] before m k.each good;
      numbers = all_append _ before now k.numbers most;
      new = λ c h. let q = k.new c h in record { asked = all_append _ before now q.asked (none_is _ _ asks, tt); ended = all_append _ before now q.ended (none_is _ _ ends, tt); open_ones = q.open_ones };
      asked = all_map (λ x. AskedWithin before x.context x.what x.since) (λ x. AskedWithin (before ++ now) x.context x.what x.since) d.asked (λ x a. within_more before now x.context x.what x.since a) k.asked;
      open_ones = all_map (IsOpen before) (IsOpen (before ++ now)) d.open_ones (λ x h. open_more before m x h (none_is _ _ ends)) k.open_ones;
      apart = k.apart;
      places = λ i p s. places_more before now p i (k.places i p s);
      named = all_append _ before now k.named (λ n s. absurd (none_is _ _ names s), tt);
    })

move_kept : (limit : ℕ) (before : List Mark) (d e : Desk) (m : Mark) → Kept limit before d → Move limit d m e → Kept limit (before ++ m ∷ []) e
move_kept limit before d e (marks.Asks context what) k m = ask_kept limit before d e context what k m
move_kept limit before d e (marks.Ends context place ending) k m = place_kept limit before d e context place ending k m
move_kept limit before d e (marks.Leaves context) k m = leave_kept limit before d e context k m
move_kept limit before d e (marks.Reads context front answer) k m = read_kept limit before d e context front answer k m
move_kept limit before d e (marks.Stales front query answer) k m = plain_kept limit before d e (marks.Stales front query answer) k refl refl refl (m.0, m.1) (m.0, tt) m.2
move_kept limit before d e (marks.Tells number) k m = plain_kept limit before d e (marks.Tells number) k refl refl refl tt (m.0, tt) m.1
move_kept limit before d e (marks.Shows place p) k m = absurd m

moves_kept : (limit : ℕ) (before : List Mark) (d : Desk) (ms : List Mark) (e : Desk) → Kept limit before d → Moves limit d ms e → Kept limit (before ++ ms) e
unfolding Moves
moves_kept limit before d [] e k g = rw append-nil (grow_kept limit before d e k g)
moves_kept limit before d (m ∷ ms) e k g =
    subst (λ (l : List Mark). Kept limit l e) (append_assoc before (m ∷ []) ms)
    (moves_kept limit (before ++ m ∷ []) g.1 ms e (move_kept limit before g.0 g.1 m (grow_kept limit before d g.0 k g.2) g.3) g.4)

-- ---- the law

accounted_by : (before : List Mark) (e : Placed) (n : ℕ) → ((e.proposal ≡ proposals.Blank) ⊎ AskedWithin before e.context (whats.Proposes e.proposal) n) → IsAccounted before e
accounted_by before e n (inl b) = inl b
accounted_by before e n (inr a) = inr (asked_of before e.context (whats.Proposes e.proposal) n a)

all_accounted : (before : List Mark) (list : List Placed) → ((n : ℕ) (e : Placed) → slice_get list n ≡ Some e → IsAccounted before e) → AllByRecursion (λ e. IsAccounted before e) list
all_accounted before [] h = tt
all_accounted before (e ∷ es) h = (h 0 e refl, all_accounted before es (λ n x s. h (suc n) x s))

kept_legal : (limit : ℕ) (before : List Mark) (d : Desk) → Kept limit before d → Legal limit d.decided before
kept_legal limit before d k = record {
  each = k.each;
  places = all_accounted before d.decided (λ n e s. accounted_by before e n (k.places n e s));
}

pub moves_legal : (limit : ℕ) (ms : List Mark) (e : Desk) → Moves limit empty_desk ms e → Legal limit e.decided ms
moves_legal limit ms e g = kept_legal limit ms e (moves_kept limit [] empty_desk ms e (empty_kept limit) g)
