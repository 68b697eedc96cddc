-- A run over a source that is under way: what was taken, what is held of it, and what was told.
use Rattle.std.proofs.Common.{◌≡◌, ℕ, ◌+◌, ◌<◌, ◌≤◌, List, [], ◌++◌, Option, None, Some, length, refl, sym, ap, ◌∙◌, append_assoc, length-append, arith, subst}
use Rattle.std.specs.Io.KnownBytes.{Appends, Consumes, Keeps}
use Rattle.std.proofs.lemmas.List.{append-nil}
use Rattle.fault_io.specs.Faults.{WritesFront}
use Rattle.fault_io.proofs.Known.{Appends-append, Appends-none}
use Rattle.run_model.specs.declared.told.Stop.{Stop}
use Rattle.run_model.specs.declared.told.Stop.TheVariants.{Spent}
use Rattle.run_model.specs.World.{World, start}
use Rattle.run_model.specs.Run.{Outcome, outcome_of, text_of, reached, stops}
use Rattle.script_run.specs.Reach.{Ahead, ComesTo, HasNoFeed, Place, run_on, Leaves, StopsAt, Stopped, IsCut, GivenUp, IsPrompt, IsSpent}
use Rattle.script_run.proofs.Runs.{no_way, further, ends, at_last, reached_below, reaches_on, Consumes-append, Consumes-kept}

pub record Under (left_old left old now : Option (List ℕ)) (p : Place) (held script done : List ℕ) : Type 0 where
  pub taken : Consumes left_old left script
  pub written : Appends old now done
  pub ahead : (more : List ℕ) → Ahead done (run_on p (held ++ more)) (outcome_of (script ++ more))
  pub sizes : p.size + length held ≡ length script

Consumes-none : (left : Option (List ℕ)) → Consumes left left []
Consumes-none None = tt
Consumes-none (Some m) = refl

-- nothing was taken, told or held yet
pub begins : (left old : Option (List ℕ)) (p : Place) (held : List ℕ) → p.world ≡ start → p.lines ≡ 0 → p.size ≡ 0 → held ≡ [] → Under left left old old p held [] []
begins left old p held w n z h = record {
  taken = Consumes-none left;
  written = Appends-none old;
  ahead = λ more. rw (w, n, z, h) (no_way (outcome_of more));
  sizes = rw (z, h) refl;
}

-- a run begins within its limits
pub begins_within : (w : World) (size : ℕ) → w ≡ start → size ≡ 0 → reached w size ≡ None
unfolding reached
begins_within w size e z = rw (e, z) refl

-- bytes more were taken
pub took : (left_old left left_new old now : Option (List ℕ)) (p : Place) (held script done bytes : List ℕ) → Under left_old left old now p held script done → Consumes left left_new bytes
    → Under left_old left_new old now p (held ++ bytes) (script ++ bytes) done
took left_old left left_new old now p held script done bytes u c = record {
  taken = Consumes-append left_old left left_new script bytes u.taken c;
  written = u.written;
  ahead = λ more. rw (append_assoc held bytes more, append_assoc script bytes more) (u.ahead (bytes ++ more));
  sizes = rw (length-append held bytes, length-append script bytes) (omega (arith, u.sizes));
}

-- nothing was taken
pub took_none : (left_old left left_new old now : Option (List ℕ)) (p : Place) (held script done : List ℕ) → Under left_old left old now p held script done → Keeps left left_new → Under left_old left_new old now p held script done
took_none left_old left left_new old now p held script done u k = record { taken = Consumes-kept left_old left left_new script u.taken k; written = u.written; ahead = u.ahead; sizes = u.sizes }

-- what was told before, and a front of what is told next, are a front of all
front_of : (done told : List ℕ) (rest total : Outcome) (old now new : Option (List ℕ)) → Ahead done rest total → Appends old now done → (tail : List ℕ) → text_of rest.told ≡ told ++ tail → WritesFront now new told → WritesFront old new (text_of total.told)
front_of done told rest total old now new a w tail e f = (
  done ++ f.0,
  f.1 ++ tail,
  sym a.whole ∙ ap (λ (l : List ℕ). done ++ l) (e ∙ ap (λ (l : List ℕ). l ++ tail) f.2 ∙ append_assoc f.0 f.1 tail) ∙ sym (append_assoc done f.0 (f.1 ++ tail)),
  Appends-append old now new done f.0 w f.3,
)

-- all that was taken is lines whose run goes on, and they are written
pub record Waits (script : List ℕ) (old now : Option (List ℕ)) : Type 0 where
  pub goes_on : IsSpent (outcome_of script).stop
  pub written : Appends old now (text_of (outcome_of script).told)

-- less than a line is held, and no limit is reached
ends_here : (left_old left old now : Option (List ℕ)) (p : Place) (held script done : List ℕ) → Under left_old left old now p held script done → HasNoFeed held → length held ≤ 4096 → reached p.world p.size ≡ None
    → ComesTo done (outcome_of script) (Spent (p.lines + 1)) p.world
ends_here left_old left old now p held script done u f s b = ends done (run_on p held) (outcome_of script) p.world _ (rw (append-nil held, append-nil script) at (u.ahead [])) (at_last p.world p.lines p.size held b f s)

pub waits : (left_old left old now : Option (List ℕ)) (p : Place) (held script done : List ℕ) → Under left_old left old now p held script done → HasNoFeed held → length held ≤ 4096 → reached p.world p.size ≡ None → Waits script old now
waits left_old left old now p held script done u f s b =
    let r = ends_here left_old left old now p held script done u f s b in
    record { goes_on = subst IsSpent r.stop_is tt; written = rw (← r.told) u.written }

-- where nothing more was taken or written
pub prompt_here : (script : List ℕ) (old now : Option (List ℕ)) → Waits script old now → IsPrompt script old now
prompt_here script old now w = record {
  before = script;
  piece = [];
  parts = sym (append-nil script);
  small = omega arith;
  goes_on = w.goes_on;
  more = [];
  written = rw append-nil w.written;
}

-- a piece more was taken
pub prompt_piece : (script piece : List ℕ) (old now : Option (List ℕ)) → Waits script old now → length piece ≤ 8192 → IsPrompt (script ++ piece) old now
prompt_piece script piece old now w h = record {
  before = script;
  piece = piece;
  parts = refl;
  small = h;
  goes_on = w.goes_on;
  more = [];
  written = rw append-nil w.written;
}

-- something more was written
pub prompt_more : (script told : List ℕ) (old now new : Option (List ℕ)) → IsPrompt script old now → Appends now new told → IsPrompt script old new
prompt_more script told old now new p a = record {
  before = p.before;
  piece = p.piece;
  parts = p.parts;
  small = p.small;
  goes_on = p.goes_on;
  more = p.more ++ told;
  written = rw (← append_assoc (text_of (outcome_of p.before).told) p.more told) (Appends-append old now new (text_of (outcome_of p.before).told ++ p.more) told p.written a);
}

-- given up before anything more was put
pub gave_up_here : (left_old left old now : Option (List ℕ)) (p : Place) (held script done : List ℕ) → Under left_old left old now p held script done → length script < 67121153 → IsPrompt script old now → GivenUp left_old left old now
gave_up_here left_old left old now p held script done u h t = record {
  script = script;
  taken = record { taken = u.taken; few = h; prompt = t };
  front = rw append-nil at (front_of done [] (run_on p (held ++ [])) (outcome_of (script ++ [])) old now now (u.ahead []) u.written (text_of (run_on p (held ++ [])).told) refl ([], [], refl, Appends-none now));
}

-- given up while the lines of a piece were put
pub gave_up : (left_old left old now new : Option (List ℕ)) (p q : Place) (held rest script done told : List ℕ) → Under left_old left old now p held script done → length script < 67121153 → IsPrompt script old now → Leaves told p held q rest → WritesFront now new told
    → GivenUp left_old left old new
gave_up left_old left old now new p q held rest script done told u h t l f = record {
  script = script;
  taken = record { taken = u.taken; few = h; prompt = prompt_more script f.0 old now new t f.3 };
  front = rw append-nil at (front_of done told (run_on p (held ++ [])) (outcome_of (script ++ [])) old now new (u.ahead []) u.written (text_of (run_on q (rest ++ [])).told) (sym (l.ahead []).whole) f);
}

-- the lines of a piece were put
pub went_on : (left_old left old now new : Option (List ℕ)) (p q : Place) (held rest script done told : List ℕ) → Under left_old left old now p held script done → Leaves told p held q rest → Appends now new told
    → Under left_old left old new q rest script (done ++ told)
went_on left_old left old now new p q held rest script done told u l w = record {
  taken = u.taken;
  written = Appends-append old now new done told u.written w;
  ahead = λ more. further done told (run_on q (rest ++ more)) (run_on p (held ++ more)) (outcome_of (script ++ more)) (u.ahead more) (l.ahead more);
  sizes = l.sizes ∙ u.sizes;
}

pub stopped_here : (left_old left old now : Option (List ℕ)) (p : Place) (held script done told : List ℕ) (stop : Stop) (world : World) → Under left_old left old now p held script done → length script < 67121153 → IsPrompt script old now
    → StopsAt told p held stop world → Stopped left_old left old now stop world told
stopped_here left_old left old now p held script done told stop world u h t s = record {
  script = script;
  taken = record { taken = u.taken; few = h; prompt = t };
  done = done;
  written = u.written;
  own = s.own;
  reached = λ more. reaches_on done told (run_on p (held ++ more)) (outcome_of (script ++ more)) world stop (u.ahead more) (s.reached more);
}

pub cut_here : (left_old left old now : Option (List ℕ)) (p : Place) (held script done : List ℕ) → Under left_old left old now p held script done → HasNoFeed held → length held ≤ 4096 → reached p.world p.size ≡ None
    → IsCut left_old left old now (p.lines + 1) p.world
cut_here left_old left old now p held script done u f s b = record {
  script = script;
  taken = record { taken = u.taken; few = omega (arith, u.sizes, s, reached_below p.world p.size b); prompt = prompt_here script old now (waits left_old left old now p held script done u f s b) };
  done = done;
  written = u.written;
  reached = ends_here left_old left old now p held script done u f s b;
}

-- the run over nothing stands before its first line
nothing_said : outcome_of [] ≡ stops start (Spent 1)
nothing_said = at_last start 0 0 [] (begins_within start 0 refl refl) tt (omega arith)

-- nothing was taken
nothing_taken : (old : Option (List ℕ)) → IsPrompt [] old old
nothing_taken old = record {
  before = [];
  piece = [];
  parts = refl;
  small = omega arith;
  goes_on = subst (λ (o : Outcome). IsSpent o.stop) (sym nothing_said) tt;
  more = [];
  written = subst (λ (o : Outcome). Appends old old (text_of o.told ++ [])) (sym nothing_said) (Appends-none old);
}

-- given up before anything was taken
pub nothing_done : (left old : Option (List ℕ)) → GivenUp left left old old
nothing_done left old = record {
  script = [];
  taken = record { taken = Consumes-none left; few = omega arith; prompt = nothing_taken old };
  front = ([], text_of (outcome_of []).told, refl, Appends-none old);
}
