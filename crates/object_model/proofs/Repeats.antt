-- A repeat has the reply of the command of its client and series that acted in the session.
use Rattle.std.proofs.Common.{◌≡◌, ◌≢◌, ℕ, ◌==◌, ◌<◌, List, [], ◌∷◌, ◌++◌, Bool, true, false, Option, Some, None, cond, max, refl, sym, ap, ◌∙◌, subst, eqb-true, eq-eqb, append_assoc}
use Rattle.std.specs.Prelude.{◌&&◌, nat_le}
use Rattle.std.proofs.lemmas.Bool.{leb-false, lt-leb}
use Rattle.host_ids.specs.declared.proposal.Proposal.{Proposal}
use Rattle.host_ids.specs.declared.proposal.Proposal.TheVariants as proposals
use Rattle.host_ids.specs.declared.verdict.Verdict.{Verdict}
use Rattle.host_ids.specs.declared.verdict.Verdict.TheVariants as verdicts
use Rattle.object_model.specs.Object.{after}
use Rattle.object_model.specs.Sequence.{does_act, verdict, stands, raised, after_all, effect_of, found_by, command_verdict, state}
use Rattle.object_model.specs.Laws.{begins_session, NoneBegins, LastRegister, HasActed, RepeatsWhatActed}
use Rattle.object_model.proofs.Onces.{acts_once}
use Rattle.object_model.proofs.Registers.{stood_before, with_newer, raised_is_greatest}

-- ---- the verdict of a repeat

-- without a reply, nothing is a repeat
repeat_none : (b : Bool) (reply : List ℕ) → cond b verdicts.Responded verdicts.Acts ≢ verdicts.RepeatOf reply
repeat_none true reply e = cc
repeat_none false reply e = cc

-- with a reply, a repeat has it, and its series is not responded
repeat_some : (series bound : ℕ) (first reply : List ℕ) (b : Bool) → nat_le series bound ≡ b → cond b verdicts.Responded (verdicts.RepeatOf first) ≡ verdicts.RepeatOf reply → (bound < series) × (Some first ≡ Some reply)
repeat_some series bound first reply true q e = absurd cc
repeat_some series bound first reply false q e = (leb-false series bound q, cc)

-- what a repeat says
repeat_parts : (stood : Bool) (bound series : ℕ) (found : Option (List ℕ)) (reply : List ℕ) → command_verdict stood bound series found ≡ verdicts.RepeatOf reply → (stood ≡ true) × (bound < series) × (found ≡ Some reply)
repeat_parts false bound series found reply e = absurd cc
repeat_parts true bound series None reply e = absurd (repeat_none (nat_le series bound) reply e)
repeat_parts true bound series (Some first) reply e =
    let parts = repeat_some series bound first reply (nat_le series bound) refl e in
    (refl, parts.0, parts.1)

-- where it is said, it is a repeat
repeats : (bound series : ℕ) (reply : List ℕ) → bound < series → command_verdict true bound series (Some reply) ≡ verdicts.RepeatOf reply
repeats bound series reply lt = rw (lt-leb series bound lt) refl

-- ---- what a series was replied, from what acted

-- what is not replaced stays
keep : (b : Bool) (reply : List ℕ) (found : Option (List ℕ)) → b ≡ false → cond b (Some reply) found ≡ found
keep true reply found e = absurd cc
keep false reply found e = refl

-- what is not removed stays
keep_none : (b : Bool) (found : Option (List ℕ)) → b ≡ false → cond b None found ≡ found
keep_none true found e = absurd cc
keep_none false found e = refl

-- the only verdict that acts
acting : (v : Verdict) → does_act v ≡ true → v ≡ verdicts.Acts
acting verdicts.Nothing e = absurd cc
acting verdicts.NotStanding e = absurd cc
acting verdicts.Taken e = absurd cc
acting verdicts.Responded e = absurd cc
acting (verdicts.RepeatOf reply) e = absurd cc
acting verdicts.Acts e = refl

-- neither the same client and series, or it doesn't act
no_again : (client series c t : ℕ) (v : Verdict) (a b d : Bool) → (c == client) ≡ a → (t == series) ≡ b → does_act v ≡ d → (c ≡ client → t ≡ series → v ≢ verdicts.Acts) → (a && b && d) ≡ false
no_again client series c t v true true true p q r never = absurd (never (eqb-true c client p) (eqb-true t series q) (acting v r))
no_again client series c t v true true false p q r never = refl
no_again client series c t v true false d p q r never = refl
no_again client series c t v false b d p q r never = refl

-- a command that acts was replied what the object replies
reply_now : (limit client series responded : ℕ) (command : List ℕ) (older : List Proposal) → verdict limit older (proposals.Session client series responded command) ≡ verdicts.Acts
    → (after_all limit (proposals.Session client series responded command ∷ older)).found client series ≡ Some (after (state limit older) command).reply
unfolding after_all
reply_now limit client series responded command older e = rw (eq-eqb client client refl, eq-eqb series series refl, e) refl

-- a reply stays over a proposal that begins no session of its client, and is no command of its client and series that acts
reply_kept_by : (client series : ℕ) (p : Proposal) (v : Verdict) (reply : List ℕ) (found : Option (List ℕ)) → begins_session client p v ≡ false
    → ((responded : ℕ) (command : List ℕ) → p ≡ proposals.Session client series responded command → v ≢ verdicts.Acts) → found_by client series p (does_act v) reply found ≡ found
reply_kept_by client series proposals.Blank v reply found b never = refl
reply_kept_by client series (proposals.Plain command) v reply found b never = refl
reply_kept_by client series (proposals.Session c t responded command) v reply found b never =
    keep ((c == client) && (t == series) && does_act v) reply found
    (no_again client series c t v (c == client) (t == series) (does_act v) refl refl refl (λ same alike. never responded command (cc (same, alike))))
reply_kept_by client series (proposals.Register c) v reply found b never = keep_none ((c == client) && does_act v) found b
reply_kept_by client series (proposals.Close c) v reply found b never = refl

-- a reply stays until a session of its client begins
reply_kept : (limit client series responded : ℕ) (command reply : List ℕ) (older newer : List Proposal) → verdict limit older (proposals.Session client series responded command) ≡ verdicts.Acts
    → NoneBegins limit client newer (proposals.Session client series responded command ∷ older) → reply ≡ (after (state limit older) command).reply
    → (after_all limit (newer ++ proposals.Session client series responded command ∷ older)).found client series ≡ Some reply
unfolding NoneBegins after_all
reply_kept limit client series responded command reply older [] e n r = reply_now limit client series responded command older e ∙ ap (λ (x : List ℕ). Some x) (sym r)
reply_kept limit client series responded command reply older (p ∷ newer) e n r =
    let h : List Proposal = newer ++ proposals.Session client series responded command ∷ older in
    let kept = reply_kept_by client series p (verdict limit h p) (effect_of p (after_all limit h).pairs).reply ((after_all limit h).found client series) n.0
    (λ second again is acts. acts_once limit client series responded second command again older newer e n.1 (subst (λ (q : Proposal). verdict limit h q ≡ verdicts.Acts) is acts)) in
    kept ∙ reply_kept limit client series responded command reply older newer e n.1 r

-- the newer ones alone
none_front : (limit client : ℕ) (newer between older : List Proposal) → NoneBegins limit client (newer ++ between) older → NoneBegins limit client newer (between ++ older)
unfolding NoneBegins
none_front limit client [] between older n = tt
none_front limit client (p ∷ newer) between older n =
    (subst (λ (h : List Proposal). begins_session client p (verdict limit h p) ≡ false) (append_assoc newer between older) n.0, none_front limit client newer between older n.1)

-- what acted in the session was replied
acted_found : (limit client series : ℕ) (reply : List ℕ) (history : List Proposal) → HasActed limit client series reply history → (after_all limit history).found client series ≡ Some reply
acted_found limit client series reply history h =
    let base : List Proposal = proposals.Register client ∷ h.register.older in
    let rest : List Proposal = proposals.Session client series h.responded h.command ∷ h.between in
    let n : NoneBegins limit client (h.newer ++ rest) base = subst (λ (newer : List Proposal). NoneBegins limit client newer base) h.stood h.register.last in
    let whole : history ≡ h.newer ++ (rest ++ base) = h.register.whole ∙ ap (λ (newer : List Proposal). newer ++ base) h.stood ∙ append_assoc h.newer rest base in
    subst (λ (l : List Proposal). (after_all limit l).found client series ≡ Some reply) (sym whole)
    (reply_kept limit client series h.responded h.command reply (h.between ++ base) h.newer h.acts (none_front limit client h.newer rest base n) h.replied)

-- ---- what acted, from what a series was replied

-- what acted in a session acted in it after one proposal more that begins none
acted_more : (limit client series : ℕ) (reply : List ℕ) (p : Proposal) (older : List Proposal) → begins_session client p (verdict limit older p) ≡ false → HasActed limit client series reply older → HasActed limit client series reply (p ∷ older)
acted_more limit client series reply p older b h = record {
  register = with_newer limit client p older b h.register;
  responded = h.responded;
  command = h.command;
  newer = p ∷ h.newer;
  between = h.between;
  stood = ap (λ (l : List Proposal). p ∷ l) h.stood;
  acts = h.acts;
  replied = h.replied;
}

-- a command that acts now acted in the session
acted_now : (limit client series responded : ℕ) (command reply : List ℕ) (older : List Proposal) → stands limit client older ≡ true
    → verdict limit older (proposals.Session client series responded command) ≡ verdicts.Acts → reply ≡ (after (state limit older) command).reply
    → HasActed limit client series reply (proposals.Session client series responded command ∷ older)
acted_now limit client series responded command reply older stood e r =
    let register : LastRegister limit client older = (raised_is_greatest limit client older stood).0 in
    record {
      register = with_newer limit client (proposals.Session client series responded command) older refl register;
      responded = responded;
      command = command;
      newer = [];
      between = register.newer;
      stood = refl;
      acts = subst (λ (l : List Proposal). verdict limit l (proposals.Session client series responded command) ≡ verdicts.Acts) register.whole e;
      replied = subst (λ (l : List Proposal). reply ≡ (after (state limit l) command).reply) register.whole r;
    }

-- a command of any client and series, which is the one asked for and acts, or leaves the reply
acted_session : (limit client series c t responded : ℕ) (command reply : List ℕ) (older : List Proposal) (a b d : Bool)
    → (c == client) ≡ a → (t == series) ≡ b → does_act (verdict limit older (proposals.Session c t responded command)) ≡ d → stands limit client older ≡ true
    → cond (a && b && d) (Some (after (state limit older) command).reply) ((after_all limit older).found client series) ≡ Some reply
    → ((after_all limit older).found client series ≡ Some reply → HasActed limit client series reply older)
    → HasActed limit client series reply (proposals.Session c t responded command ∷ older)
acted_session limit client series c t responded command reply older true true true p q r stood e before =
    let same : c ≡ client = eqb-true c client p in
    let alike : t ≡ series = eqb-true t series q in
    let acts : verdict limit older (proposals.Session c t responded command) ≡ verdicts.Acts = acting (verdict limit older (proposals.Session c t responded command)) r in
    let is : proposals.Session c t responded command ≡ proposals.Session client series responded command = cc in
    subst (λ (s : Proposal). HasActed limit client series reply (s ∷ older)) (sym is)
    (acted_now limit client series responded command reply older stood (subst (λ (s : Proposal). verdict limit older s ≡ verdicts.Acts) is acts) cc)
acted_session limit client series c t responded command reply older true true false p q r stood e before = acted_more limit client series reply (proposals.Session c t responded command) older refl (before e)
acted_session limit client series c t responded command reply older true false d p q r stood e before = acted_more limit client series reply (proposals.Session c t responded command) older refl (before e)
acted_session limit client series c t responded command reply older false b d p q r stood e before = acted_more limit client series reply (proposals.Session c t responded command) older refl (before e)

-- a proposal that begins no session of the client
acted_by : (limit client series : ℕ) (reply : List ℕ) (p : Proposal) (older : List Proposal) → begins_session client p (verdict limit older p) ≡ false → stands limit client older ≡ true
    → (after_all limit (p ∷ older)).found client series ≡ Some reply → ((after_all limit older).found client series ≡ Some reply → HasActed limit client series reply older)
    → HasActed limit client series reply (p ∷ older)
unfolding after_all
acted_by limit client series reply proposals.Blank older b stood e before = acted_more limit client series reply proposals.Blank older b (before e)
acted_by limit client series reply (proposals.Plain command) older b stood e before = acted_more limit client series reply (proposals.Plain command) older b (before e)
acted_by limit client series reply (proposals.Session c t responded command) older b stood e before =
    acted_session limit client series c t responded command reply older (c == client) (t == series) (does_act (verdict limit older (proposals.Session c t responded command))) refl refl refl stood e before
acted_by limit client series reply (proposals.Register c) older b stood e before =
    acted_more limit client series reply (proposals.Register c) older b (before (sym (keep_none (c == client && does_act (verdict limit older (proposals.Register c))) ((after_all limit older).found client series) b) ∙ e))
acted_by limit client series reply (proposals.Close c) older b stood e before = acted_more limit client series reply (proposals.Close c) older b (before e)

-- what is removed is not there
none_found : (b : Bool) (found : Option (List ℕ)) (reply : List ℕ) → b ≡ true → cond b None found ≢ Some reply
none_found true found reply q e = cc
none_found false found reply q e = cc

-- a session that begins has no reply
found_gone : (limit client series : ℕ) (reply : List ℕ) (p : Proposal) (older : List Proposal) → begins_session client p (verdict limit older p) ≡ true → (after_all limit (p ∷ older)).found client series ≢ Some reply
unfolding after_all
found_gone limit client series reply proposals.Blank older b e = cc
found_gone limit client series reply (proposals.Plain command) older b e = cc
found_gone limit client series reply (proposals.Session c t responded command) older b e = cc
found_gone limit client series reply (proposals.Register c) older b e = none_found (c == client && does_act (verdict limit older (proposals.Register c))) ((after_all limit older).found client series) reply b e
found_gone limit client series reply (proposals.Close c) older b e = cc

acted_step : (limit client series : ℕ) (reply : List ℕ) (p : Proposal) (older : List Proposal) (b : Bool) → begins_session client p (verdict limit older p) ≡ b → stands limit client (p ∷ older) ≡ true
    → (after_all limit (p ∷ older)).found client series ≡ Some reply
    → (stands limit client older ≡ true → (after_all limit older).found client series ≡ Some reply → HasActed limit client series reply older) → HasActed limit client series reply (p ∷ older)
acted_step limit client series reply p older true b stood e before = absurd (found_gone limit client series reply p older b e)
acted_step limit client series reply p older false b stood e before =
    let stood2 = stood_before limit client p older b stood in
    acted_by limit client series reply p older b stood2 e (before stood2)

none_at_first : (limit client series : ℕ) (reply : List ℕ) → (after_all limit []).found client series ≢ Some reply
unfolding after_all
none_at_first limit client series reply e = cc

-- what was replied had acted in the session
found_acted : (limit client series : ℕ) (reply : List ℕ) (history : List Proposal) → stands limit client history ≡ true → (after_all limit history).found client series ≡ Some reply → HasActed limit client series reply history
found_acted limit client series reply [] stood e = absurd (none_at_first limit client series reply e)
found_acted limit client series reply (p ∷ older) stood e = acted_step limit client series reply p older (begins_session client p (verdict limit older p)) refl stood e (found_acted limit client series reply older)

repeat_acted : (limit client series responded : ℕ) (reply : List ℕ) (history : List Proposal)
    → (stands limit client history ≡ true) × (max (raised limit client history) responded < series) × ((after_all limit history).found client series ≡ Some reply)
    → (stands limit client history ≡ true) × (max (raised limit client history) responded < series) × HasActed limit client series reply history
repeat_acted limit client series responded reply history (stood, lt, e) = (stood, lt, found_acted limit client series reply history stood e)

acted_repeat : (limit client series responded : ℕ) (command reply : List ℕ) (history : List Proposal)
    → (stands limit client history ≡ true) × (max (raised limit client history) responded < series) × HasActed limit client series reply history
    → verdict limit history (proposals.Session client series responded command) ≡ verdicts.RepeatOf reply
acted_repeat limit client series responded command reply history (stood, lt, h) =
    ap (λ (s : Bool). command_verdict s (max (raised limit client history) responded) series ((after_all limit history).found client series)) stood
    ∙ ap (λ (f : Option (List ℕ)). command_verdict true (max (raised limit client history) responded) series f) (acted_found limit client series reply history h)
    ∙ repeats (max (raised limit client history) responded) series reply lt

pub repeats_what_acted : RepeatsWhatActed
repeats_what_acted limit client series responded command reply history = (
  λ e. repeat_acted limit client series responded reply history (repeat_parts (stands limit client history) (max (raised limit client history) responded) series ((after_all limit history).found client series) reply e),
  acted_repeat limit client series responded command reply history,
)
