-- A run that is under way.
use Rattle.std.proofs.Common.{◌≡◌, ℕ, ◌+◌, ◌<◌, ◌≤◌, List, [], ◌∷◌, ◌++◌, Bool, true, false, cond, Option, Some, None, length, refl, sym, ap, ◌∙◌, subst, append_assoc, length-append, arith, lt-ltb, le-ltb, leb-false}
use Rattle.std.specs.Prelude.{nat_le}
use Rattle.std.specs.Io.KnownBytes.{Consumes, Keeps}
use Rattle.std.proofs.lemmas.List.{append-nil}
use Rattle.std.proofs.lemmas.Grind.{flat_map-append}
use Rattle.script_text.specs.declared.limit.Limit.{Limit}
use Rattle.script_text.specs.declared.limit.Limit.TheVariants as limits
use Rattle.script_text.specs.declared.script.ScriptLine.{ScriptLine}
use Rattle.script_text.specs.declared.told.Told.{Told}
use Rattle.run_model.specs.declared.told.Stop.{Stop}
use Rattle.run_model.specs.declared.told.Stop.TheVariants.{Ended, Bad, Full, Spent}
use Rattle.run_model.specs.World.{World}
use Rattle.script_text.specs.Script.{read_line, parts_of, is_end}
use Rattle.run_model.specs.Run.{Outcome, run, text_of, told_before, stops, turn, reached}
use Rattle.script_text.specs.declared.limit.TheConstants.{MOST_ENTRIES, MOST_ENVELOPES, MOST_LINE, MOST_SCRIPT}
use Rattle.script_run.specs.Reach.{ComesTo, Ahead, HasNoFeed}
use Rattle.script_run.proofs.Parts.{has_parts, joined_parts, lone_part}

pub text_of-append : (a b : List Told) → text_of (a ++ b) ≡ text_of a ++ text_of b
text_of-append a b = flat_map-append _ a b

-- nothing is told yet
pub no_way : (o : Outcome) → Ahead [] o o
no_way o = record { stop = refl; world = refl; whole = refl }

-- one way after another
pub further : (first second : List ℕ) (a b c : Outcome) → Ahead first b c → Ahead second a b → Ahead (first ++ second) a c
further first second a b c p q = record {
  stop = q.stop ∙ p.stop;
  world = q.world ∙ p.world;
  whole = append_assoc first second (text_of a.told) ∙ ap (λ (t : List ℕ). first ++ t) q.whole ∙ p.whole;
}

told_ahead : (told : List Told) (rest : Outcome) → Ahead (text_of told) rest (told_before told rest)
told_ahead told rest = record { stop = refl; world = refl; whole = sym (text_of-append told rest.told) }

-- where the rest is no more than a stop
pub ends : (done : List ℕ) (rest total : Outcome) (w : World) (s : Stop) → Ahead done rest total → rest ≡ stops w s → ComesTo done total s w
ends done rest total w s a e =
    let none : text_of rest.told ≡ [] = rw e refl in
    record { stop_is = rw e at a.stop; world_is = rw e at a.world; told = sym (append-nil done) ∙ rw none at a.whole }

-- where the rest reaches a stop
pub reaches_on : (done more : List ℕ) (rest total : Outcome) (w : World) (s : Stop) → Ahead done rest total → ComesTo more rest s w → ComesTo (done ++ more) total s w
reaches_on done more rest total w s a r = record {
  stop_is = r.stop_is ∙ a.stop;
  world_is = r.world_is ∙ a.world;
  told = ap (λ (t : List ℕ). done ++ t) r.told ∙ a.whole;
}

-- ---- one turn of the run

below_by : {A : Type 0} (entries envelopes bytes : Bool) → cond entries (Some limits.Entries) (cond envelopes (Some limits.Envelopes) (cond bytes (Some limits.Script) None)) ≡ None → (bytes ≡ false → A) → A
below_by true envelopes bytes h f = absurd cc
below_by false true bytes h f = absurd cc
below_by false false true h f = absurd cc
below_by false false false h f = f refl

limit_by : (w : World) (n size : ℕ) (first : List ℕ) (others : List (List ℕ)) (limit : Limit) → reached w size ≡ Some limit → run w n size (first ∷ others) ≡ stops w (Full limit)
unfolding run
limit_by w n size first [] limit h = rw h refl
limit_by w n size first (next ∷ more) limit h = rw h refl

pub at_limit : (w : World) (n size : ℕ) (text : List ℕ) (limit : Limit) → reached w size ≡ Some limit → run w n size (parts_of text) ≡ stops w (Full limit)
at_limit w n size text limit h = let p = has_parts text in rw p.are (limit_by w n size p.first p.others limit h)

pub at_bad : (w : World) (n size : ℕ) (line rest : List ℕ) → reached w size ≡ None → read_line line ≡ None → run w n size (line ∷ parts_of rest) ≡ stops w (Bad (n + 1))
unfolding run
at_bad w n size line rest h e = let p = has_parts rest in rw (p.are, h, e) refl

pub at_end : (w : World) (n size : ℕ) (line rest : List ℕ) (said : ScriptLine) → reached w size ≡ None → read_line line ≡ Some said → is_end said ≡ true
    → run w n size (line ∷ parts_of rest) ≡ stops w Ended
unfolding run
at_end w n size line rest said h e t = let p = has_parts rest in rw (p.are, h, e, t) refl

-- the run after a line that is none of these
abbrev pub run_after : World → ℕ → ℕ → List ℕ → List ℕ → ScriptLine → Outcome
run_after w n size line rest said = run (turn said (size + (length line + 1)) w).world (n + 1) (size + (length line + 1)) (parts_of rest)

at_line : (w : World) (n size : ℕ) (line rest : List ℕ) (said : ScriptLine) → reached w size ≡ None → read_line line ≡ Some said → is_end said ≡ false → (turn said (size + (length line + 1)) w).full ≡ None
    → run w n size (line ∷ parts_of rest) ≡ told_before (turn said (size + (length line + 1)) w).told (run_after w n size line rest said)
unfolding run
at_line w n size line rest said h e t f = let p = has_parts rest in rw (p.are, h, e, t, f) refl

at_full : (w : World) (n size : ℕ) (line rest : List ℕ) (said : ScriptLine) (limit : Limit) → reached w size ≡ None → read_line line ≡ Some said → is_end said ≡ false → (turn said (size + (length line + 1)) w).full ≡ Some limit
    → run w n size (line ∷ parts_of rest) ≡ told_before (turn said (size + (length line + 1)) w).told (stops (turn said (size + (length line + 1)) w).world (Full limit))
unfolding run
at_full w n size line rest said limit h e t f = let p = has_parts rest in rw (p.are, h, e, t, f) refl

pub at_last : (w : World) (n size : ℕ) (text : List ℕ) → reached w size ≡ None → HasNoFeed text → length text ≤ MOST_LINE → run w n size (parts_of text) ≡ stops w (Spent (n + 1))
unfolding run
at_last w n size text h f s = rw (lone_part text f, h, le-ltb MOST_LINE (length text) s) refl

too_long : (line : List ℕ) → MOST_LINE < length line → read_line line ≡ None
unfolding read_line
too_long line h = rw (lt-ltb MOST_LINE (length line) h) refl

long_by : (w : World) (n size : ℕ) (line : List ℕ) (others : List (List ℕ)) → reached w size ≡ None → MOST_LINE < length line → run w n size (line ∷ others) ≡ stops w (Bad (n + 1))
unfolding run
long_by w n size line [] h l = rw (h, lt-ltb MOST_LINE (length line) l) refl
long_by w n size line (next ∷ more) h l = rw (h, too_long line l) refl

-- a part that is too long for a line is a bad one, whatever comes
pub at_long : (w : World) (n size : ℕ) (text more : List ℕ) → reached w size ≡ None → HasNoFeed text → MOST_LINE < length text → run w n size (parts_of (text ++ more)) ≡ stops w (Bad (n + 1))
at_long w n size text more h f l =
    let p = has_parts more in
    rw (joined_parts text more p.first p.others f p.are) (long_by w n size (text ++ p.first) p.others h (rw length-append (omega (arith, l))))

-- one line more is run
pub next_ahead : (done : List ℕ) (w : World) (n size : ℕ) (text line rest : List ℕ) (said : ScriptLine) (total : Outcome) → Ahead done (run w n size (parts_of text)) total → parts_of text ≡ line ∷ parts_of rest
    → reached w size ≡ None → read_line line ≡ Some said → is_end said ≡ false → (turn said (size + (length line + 1)) w).full ≡ None
    → Ahead (done ++ text_of (turn said (size + (length line + 1)) w).told) (run_after w n size line rest said) total
next_ahead done w n size text line rest said total a p h e t f =
    let told = (turn said (size + (length line + 1)) w).told in
    let next = ap (run w n size) p ∙ at_line w n size line rest said h e t f in
    further done (text_of told) _ _ total (subst (λ (o : Outcome). Ahead done o total) next a) (told_ahead told _)

-- a limit is reached in a line
pub full_reached : (done : List ℕ) (w : World) (n size : ℕ) (text line rest : List ℕ) (said : ScriptLine) (limit : Limit) (total : Outcome) → Ahead done (run w n size (parts_of text)) total → parts_of text ≡ line ∷ parts_of rest
    → reached w size ≡ None → read_line line ≡ Some said → is_end said ≡ false → (turn said (size + (length line + 1)) w).full ≡ Some limit
    → ComesTo (done ++ text_of (turn said (size + (length line + 1)) w).told) total (Full limit) (turn said (size + (length line + 1)) w).world
full_reached done w n size text line rest said limit total a p h e t f =
    let said_turn = turn said (size + (length line + 1)) w in
    let next = ap (run w n size) p ∙ at_full w n size line rest said limit h e t f in
    reaches_on done (text_of said_turn.told) _ total said_turn.world (Full limit) (subst (λ (o : Outcome). Ahead done o total) next a)
    (record { stop_is = refl; world_is = refl; told = ap text_of (sym (append-nil said_turn.told)) })

-- where no limit is reached, the lines have fewer bytes than may be
pub reached_below : (w : World) (size : ℕ) → reached w size ≡ None → size < MOST_SCRIPT
unfolding reached
reached_below w size h = below_by (nat_le MOST_ENTRIES w.appended) (nat_le MOST_ENVELOPES (length w.group.wire)) (nat_le MOST_SCRIPT size) h (leb-false MOST_SCRIPT size)

-- ---- what a source gives

pub Consumes-append : (a b c : Option (List ℕ)) (x y : List ℕ) → Consumes a b x → Consumes b c y → Consumes a c (x ++ y)
Consumes-append None b c x y p q = tt
Consumes-append (Some m) None c x y p q = absurd p
Consumes-append (Some m) (Some n) None x y p q = absurd q
Consumes-append (Some m) (Some n) (Some o) x y p q = p ∙ ap (λ (l : List ℕ). x ++ l) q ∙ sym (append_assoc x y o)

pub Consumes-kept : (a b c : Option (List ℕ)) (x : List ℕ) → Consumes a b x → Keeps b c → Consumes a c x
Consumes-kept None b c x p q = tt
Consumes-kept (Some m) None c x p q = absurd p
Consumes-kept (Some m) (Some n) None x p q = absurd q
Consumes-kept (Some m) (Some n) (Some o) x p q = p ∙ ap (λ (l : List ℕ). x ++ l) (sym q)
