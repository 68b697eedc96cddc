-- Moves one after another, and the entries shown after them.
use Rattle.std.proofs.Common.{inl, inr, ◌≡◌, ℕ, List, [], ◌∷◌, ◌++◌, ◌+◌, length, refl, ap, ◌∙◌, subst, append_assoc, arith, length-append}
use Rattle.std.specs.List.{AllByRecursion}
use Rattle.std.proofs.lemmas.List.{append-nil}
use Rattle.std.proofs.lemmas.Grind.{flat_map-append}
use Rattle.object_model.specs.declared.mark.What.TheVariants as whats
use Rattle.object_model.specs.declared.mark.Placed.{Placed}
use Rattle.object_model.specs.declared.mark.Mark.{Mark}
use Rattle.object_model.specs.declared.mark.Mark.TheVariants as marks
use Rattle.object_model.specs.Mark.{entries, shown_entry}
use Rattle.object_model.specs.Legal.{Legal, IsAccounted}
use Rattle.object_model.specs.Desk.{Request, Desk, empty_desk, MayStand, Grows, Move, Moves, shown, shown_from, MovesAreLegal, MovesShowNothing, MovesJoin}
use Rattle.object_model.proofs.Lists.{all_append, all_map}
use Rattle.object_model.proofs.Keeping.{asked_more, each_last, moves_legal}

-- a list that doesn't grow
pub stays : (d : Desk) → Grows d d
stays d = record { more = []; may = tt; becomes = rw append-nil refl }

same_asked : (d e : Desk) → Grows d e → e.asked ≡ d.asked
same_asked d e g = ap (λ (x : Desk). x.asked) g.becomes

pub grows_then : (d e f : Desk) → Grows d e → Grows e f → Grows d f
grows_then d e f g h = record {
  more = g.more ++ h.more;
  may = all_append (MayStand d.asked) g.more h.more g.may (subst (λ (a : List Request). AllByRecursion (MayStand a) h.more) (same_asked d e g) h.may);
  becomes = h.becomes ∙ (rw (g.becomes, append_assoc) refl);
}

-- growth before moves is part of them
grows_before : (limit : ℕ) (d e : Desk) (ms : List Mark) (f : Desk) → Grows d e → Moves limit e ms f → Moves limit d ms f
unfolding Moves
grows_before limit d e [] f g m = grows_then d e f g m
grows_before limit d e (x ∷ ms) f g m = (m.0, m.1, grows_then d e m.0 g m.2, m.3, m.4)

pub moves_then : (limit : ℕ) (d : Desk) (a b : List Mark) (e f : Desk) → Moves limit d a e → Moves limit e b f → Moves limit d (a ++ b) f
unfolding Moves
moves_then limit d [] b e f g m = grows_before limit d e b f g m
moves_then limit d (x ∷ a) b e f g m = (g.0, g.1, g.2, g.3, moves_then limit g.1 a b e f g.4 m)

-- ---- the entries shown

move_shows : (limit : ℕ) (d e : Desk) (m : Mark) (ms : List Mark) → Move limit d m e → entries (m ∷ ms) ≡ entries ms
move_shows limit d e (marks.Asks context what) ms h = refl
move_shows limit d e (marks.Ends context place ending) ms h = refl
move_shows limit d e (marks.Leaves context) ms h = refl
move_shows limit d e (marks.Reads context front answer) ms h = refl
move_shows limit d e (marks.Stales front query answer) ms h = refl
move_shows limit d e (marks.Tells number) ms h = refl
move_shows limit d e (marks.Shows place p) ms h = absurd h

-- moves show no entry
pub moves_show : (limit : ℕ) (d : Desk) (ms : List Mark) (e : Desk) → Moves limit d ms e → entries ms ≡ []
unfolding Moves
moves_show limit d [] e m = refl
moves_show limit d (x ∷ ms) e m = move_shows limit m.0 m.1 x ms m.3 ∙ moves_show limit m.1 ms e m.4

-- the marks that show a list show it
pub entries_shown : (n : ℕ) (ps : List Placed) → entries (shown_from n ps) ≡ ps
entries_shown n [] = refl
entries_shown n (p ∷ ps) = ap (λ (l : List Placed). p ∷ l) (entries_shown (n + 1) ps)

-- what is accounted for stays so when marks follow
accounted_more : (before ms : List Mark) (e : Placed) → IsAccounted before e → IsAccounted (before ++ ms) e
accounted_more before ms e (inl b) = inl b
accounted_more before ms e (inr a) = inr (asked_more before ms e.context (whats.Proposes e.proposal) a)

-- the next entry shown after legal marks
one_shown : (limit : ℕ) (list : List Placed) (ms : List Mark) (n : ℕ) (p : Placed) → n ≡ length (entries ms) + 1 → Legal limit list ms → Legal limit list (ms ++ marks.Shows n p ∷ [])
one_shown limit list ms n p next l = record {
  each = each_last limit list [] ms (marks.Shows n p) l.each next;
  places = all_map (IsAccounted ms) (IsAccounted (ms ++ marks.Shows n p ∷ [])) list (λ e a. accounted_more ms (marks.Shows n p ∷ []) e a) l.places;
}

-- with it one entry more is shown
count_shown : (ms : List Mark) (n : ℕ) (p : Placed) → length (entries (ms ++ marks.Shows n p ∷ [])) ≡ length (entries ms) + 1
count_shown ms n p = ap (λ (l : List Placed). length l) (flat_map-append shown_entry ms (marks.Shows n p ∷ [])) ∙ length-append (entries ms) (p ∷ [])

-- entries shown one after another after legal marks
pub all_shown : (limit : ℕ) (list : List Placed) (ms : List Mark) (n : ℕ) (ps : List Placed) → n ≡ length (entries ms) + 1 → Legal limit list ms → Legal limit list (ms ++ shown_from n ps)
all_shown limit list ms n [] next l = rw append-nil l
all_shown limit list ms n (p ∷ ps) next l =
    let count = count_shown ms n p in
    subst (Legal limit list) (append_assoc ms (marks.Shows n p ∷ []) (shown_from (n + 1) ps))
    (all_shown limit list (ms ++ marks.Shows n p ∷ []) (n + 1) ps (omega (arith, next, count)) (one_shown limit list ms n p next l))

-- ---- the laws

pub moves_are_legal : MovesAreLegal
moves_are_legal limit ms e g =
    let l = moves_legal limit ms e g in
    let none : length (entries ms) ≡ 0 = ap (λ (l : List Placed). length l) (moves_show limit empty_desk ms e g) in
    (l, all_shown limit e.decided ms 1 e.decided (omega (arith, none)) l)

pub moves_show_nothing : MovesShowNothing
moves_show_nothing limit d ms e g = flat_map-append shown_entry ms (shown e.decided) ∙ rw (moves_show limit d ms e g) (entries_shown 1 e.decided)

pub moves_join : MovesJoin
moves_join = moves_then
