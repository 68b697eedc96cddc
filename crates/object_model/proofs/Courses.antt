-- A step more on a course.
use Rattle.std.proofs.Common.{◌≡◌, ℕ, List, [], ◌∷◌, ◌++◌, Bool, true, false, Option, Some, None, refl, ap, ◌∙◌, cond, max, ◌==◌, eqb-true}
use Rattle.std.specs.Prelude.{◌&&◌, not}
use Rattle.std.proofs.lemmas.List.{map-append, reverse-append}
use Rattle.host_ids.specs.declared.proposal.Proposal.{Proposal}
use Rattle.host_ids.specs.declared.proposal.Proposal.TheVariants as proposals
use Rattle.object_model.specs.declared.course.CourseStep.{CourseStep}
use Rattle.object_model.specs.Object.{Pairs}
use Rattle.object_model.specs.Sequence.{touched, standing, stands, raised, raised_by, found_by, effect_of, does_act, client_of, after_all, verdict}
use Rattle.object_model.specs.Course.{history_of, raised_on, found_on, Follows}

-- the newest step's proposal is the newest of the history
pub history_of-append : (steps : List CourseStep) (s : CourseStep) → history_of (steps ++ s ∷ []) ≡ s.proposal ∷ history_of steps
history_of-append steps s = rw (map-append, reverse-append) refl

raised_on-append : (client value : ℕ) (steps : List CourseStep) (s : CourseStep) → raised_on client value (steps ++ s ∷ []) ≡ raised_by client s.proposal s.stood (raised_on client value steps)
raised_on-append client value [] s = refl
raised_on-append client value (t ∷ steps) s = raised_on-append client (raised_by client t.proposal t.stood value) steps s

found_on-append : (client series : ℕ) (found : Option (List ℕ)) (steps : List CourseStep) (s : CourseStep)
    → found_on client series found (steps ++ s ∷ []) ≡ found_by client series s.proposal s.acts s.reply (found_on client series found steps)
found_on-append client series found [] s = refl
found_on-append client series found (t ∷ steps) s = found_on-append client series (found_by client series t.proposal t.acts t.reply found) steps s

raised_session : (client c value responded : ℕ) (b stood other : Bool) → (c == client) ≡ b → (b ≡ true → stood ≡ other) → cond (b && stood) (max value responded) value ≡ cond (b && other) (max value responded) value
raised_session client c value responded true stood other e h = ap (λ (x : Bool). cond x (max value responded) value) (h refl)
raised_session client c value responded false stood other e h = refl

raised_register : (client c value : ℕ) (b stood other : Bool) → (c == client) ≡ b → (b ≡ true → stood ≡ other) → cond (b && not stood) 0 value ≡ cond (b && not other) 0 value
raised_register client c value true stood other e h = ap (λ (x : Bool). cond (not x) 0 value) (h refl)
raised_register client c value false stood other e h = refl

-- whether a proposal raises a client's value depends on whether its own client stood
raised_own : (limit client value : ℕ) (p : Proposal) (older : List Proposal) (stood : Bool) → stood ≡ stands limit (client_of p) older → raised_by client p stood value ≡ raised_by client p (stands limit client older) value
raised_own limit client value proposals.Blank older stood h = refl
raised_own limit client value (proposals.Plain command) older stood h = refl
raised_own limit client value (proposals.Session c series responded command) older stood h =
    raised_session client c value responded (c == client) stood (stands limit client older) refl (λ e. h ∙ ap (λ (k : ℕ). stands limit k older) (eqb-true c client e))
raised_own limit client value (proposals.Register c) older stood h =
    raised_register client c value (c == client) stood (stands limit client older) refl (λ e. h ∙ ap (λ (k : ℕ). stands limit k older) (eqb-true c client e))
raised_own limit client value (proposals.Close c) older stood h = refl

not_acting : (b : Bool) (x y found : Option (List ℕ)) → cond (b && false) x found ≡ cond (b && false) y found
not_acting true x y found = refl
not_acting false x y found = refl

-- the reply of a proposal that doesn't act says nothing
found_same : (client series : ℕ) (p : Proposal) (acts : Bool) (reply other : List ℕ) (found : Option (List ℕ)) → (acts ≡ true → reply ≡ other) → found_by client series p acts reply found ≡ found_by client series p acts other found
found_same client series p true reply other found h = rw (h refl) refl
found_same client series proposals.Blank false reply other found h = refl
found_same client series (proposals.Plain command) false reply other found h = refl
found_same client series (proposals.Session c s responded command) false reply other found h = not_acting ((c == client) && (s == series)) (Some reply) (Some other) found
found_same client series (proposals.Register c) false reply other found h = refl
found_same client series (proposals.Close c) false reply other found h = refl

-- a step more: what is kept follows the history on
pub follows_more : (limit : ℕ) (steps more : List CourseStep) (clients touched_ones : List ℕ) (pairs changed_ones : Pairs) (s : CourseStep) → Follows limit steps clients pairs → more ≡ steps ++ s ∷ []
    → s.stood ≡ stands limit (client_of s.proposal) (history_of steps)
    → s.acts ≡ does_act (verdict limit (history_of steps) s.proposal)
    → (s.acts ≡ true → s.reply ≡ (effect_of s.proposal pairs).reply)
    → touched_ones ≡ touched limit s.proposal clients
    → changed_ones ≡ cond s.acts (effect_of s.proposal pairs).pairs pairs
    → Follows limit more touched_ones changed_ones
unfolding standing raised after_all
follows_more limit steps more clients touched_ones pairs changed_ones s f m stood acts reply t c =
    let h = history_of-append steps s in record {
      clients_are = rw (m, h) (t ∙ ap (touched limit s.proposal) f.clients_are);
      pairs_are = rw (m, h, ← acts, ← f.pairs_are) c;
      raised_is = λ client. rw (m, h, raised_on-append client 0 steps s, f.raised_is client) (raised_own limit client (raised limit client (history_of steps)) s.proposal (history_of steps) s.stood stood);
      found_is = λ client series. rw (m, h, found_on-append client series None steps s, f.found_is client series, ← acts, ← f.pairs_are) (found_same client series s.proposal s.acts s.reply (effect_of s.proposal pairs).reply _ reply);
    }

pub follows_none : (limit : ℕ) → Follows limit [] [] []
unfolding standing raised after_all
follows_none limit = record { clients_are = refl; pairs_are = refl; raised_is = λ client. refl; found_is = λ client series. refl }
