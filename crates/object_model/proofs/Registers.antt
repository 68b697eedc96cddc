-- Where a client stands, a register of it acted, and the responded value is the greatest since.
use Rattle.std.proofs.Common.{◌≡◌, ℕ, ◌==◌, List, [], ◌∷◌, ◌++◌, Bool, true, false, cond, max, refl, sym, ap, subst, eqb-true, eq-eqb}
use Rattle.std.specs.Prelude.{◌&&◌}
use Rattle.host_ids.specs.declared.proposal.Proposal.{Proposal}
use Rattle.host_ids.specs.declared.proposal.Proposal.TheVariants as proposals
use Rattle.host_ids.specs.declared.verdict.Verdict.TheVariants as verdicts
use Rattle.object_model.specs.Sequence.{does_act, verdict, stands, standing, raised, raised_by}
use Rattle.object_model.specs.Laws.{begins_session, NoneBegins, LastRegister, greatest_responded, RaisedIsGreatest}
use Rattle.object_model.proofs.Gone.{gone_by}

-- a proposal after which the client stands, and which begins no session of it, found it standing
stood_by : (limit client : ℕ) (p : Proposal) (older : List Proposal) (b : Bool) → stands limit client older ≡ b → begins_session client p (verdict limit older p) ≡ false → stands limit client (p ∷ older) ≡ true → b ≡ true
unfolding standing
stood_by limit client p older true q n e = refl
stood_by limit client p older false q n e = let gone = gone_by limit client p older q n in absurd cc

pub stood_before : (limit client : ℕ) (p : Proposal) (older : List Proposal) → begins_session client p (verdict limit older p) ≡ false → stands limit client (p ∷ older) ≡ true → stands limit client older ≡ true
stood_before limit client p older n e = stood_by limit client p older (stands limit client older) refl n e

-- where none of the newer ones begins a session, nor one more, none of them all does
pub none_more : (limit client : ℕ) (p : Proposal) (older newer rest : List Proposal) → older ≡ newer ++ rest → begins_session client p (verdict limit older p) ≡ false → NoneBegins limit client newer rest → NoneBegins limit client (p ∷ newer) rest
unfolding NoneBegins
none_more limit client p older newer rest whole n none = (subst (λ (h : List Proposal). begins_session client p (verdict limit h p) ≡ false) whole n, none)

-- a proposal that begins no session leaves the last register
abbrev pub with_newer : (limit client : ℕ) (p : Proposal) (older : List Proposal) → begins_session client p (verdict limit older p) ≡ false → LastRegister limit client older → LastRegister limit client (p ∷ older)
with_newer limit client p older n register = record {
  newer = p ∷ register.newer;
  older = register.older;
  whole = ap (λ (h : List Proposal). p ∷ h) register.whole;
  acts = register.acts;
  last = none_more limit client p older register.newer (proposals.Register client ∷ register.older) register.whole n register.last;
}

-- a register that begins a session is of the client, which did not stand
begins_by : (client c : ℕ) (a b : Bool) → (c == client) ≡ a → (a && does_act (cond b verdicts.Taken verdicts.Acts)) ≡ true → (c ≡ client) × (b ≡ false)
begins_by client c true false q e = (eqb-true c client q, refl)
begins_by client c true true q e = absurd cc
begins_by client c false b q e = absurd cc

none_empty : (limit client : ℕ) (older : List Proposal) → NoneBegins limit client [] older
unfolding NoneBegins
none_empty limit client older = tt

-- a register that acts is the last one
abbrev now_register : (limit client c : ℕ) (older : List Proposal) → c ≡ client → stands limit client older ≡ false → LastRegister limit client (proposals.Register c ∷ older)
now_register limit client c older same gone = record {
  newer = [];
  older = older;
  whole = ap (λ (k : ℕ). proposals.Register k ∷ older) same;
  acts = rw gone refl;
  last = none_empty limit client (proposals.Register client ∷ older);
}

-- the last register, where the responded value is the greatest since
abbrev Registered : (limit client : ℕ) (history : List Proposal) → Type 0
Registered limit client history = (register : LastRegister limit client history) × (raised limit client history ≡ greatest_responded client register.newer)

raised_first : (limit client c : ℕ) (older : List Proposal) → c ≡ client → stands limit client older ≡ false → raised limit client (proposals.Register c ∷ older) ≡ 0
unfolding raised
raised_first limit client c older same gone = rw (same, gone, eq-eqb client client refl) refl

registered_first : (limit client c : ℕ) (older : List Proposal) → (c ≡ client) × (stands limit c older ≡ false) → Registered limit client (proposals.Register c ∷ older)
registered_first limit client c older (same, gone) =
    let here : stands limit client older ≡ false = rw same at gone in
    (now_register limit client c older same here, raised_first limit client c older same here)

-- a proposal that begins a session
registered_begins : (limit client : ℕ) (p : Proposal) (older : List Proposal) → begins_session client p (verdict limit older p) ≡ true → Registered limit client (p ∷ older)
registered_begins limit client proposals.Blank older b = absurd cc
registered_begins limit client (proposals.Plain command) older b = absurd cc
registered_begins limit client (proposals.Session c series responded command) older b = absurd cc
registered_begins limit client (proposals.Register c) older b = registered_first limit client c older (begins_by client c (c == client) (stands limit c older) refl b)
registered_begins limit client (proposals.Close c) older b = absurd cc

-- a command where the client stands
raised_command : (a : Bool) (responded value greatest : ℕ) → value ≡ greatest → cond (a && true) (max value responded) value ≡ cond a (max greatest responded) greatest
raised_command true responded value greatest e = ap (λ (n : ℕ). max n responded) e
raised_command false responded value greatest e = e

-- a register where the client stands
raised_register : (a : Bool) (value greatest : ℕ) → value ≡ greatest → cond (a && false) 0 value ≡ greatest
raised_register true value greatest e = e
raised_register false value greatest e = e

-- one proposal more, where the client stands and no session of it begins
raised_standing : (client : ℕ) (p : Proposal) (value : ℕ) (newer : List Proposal) → value ≡ greatest_responded client newer → raised_by client p true value ≡ greatest_responded client (p ∷ newer)
raised_standing client proposals.Blank value newer e = e
raised_standing client (proposals.Plain command) value newer e = e
raised_standing client (proposals.Session c series responded command) value newer e = raised_command (c == client) responded value (greatest_responded client newer) e
raised_standing client (proposals.Register c) value newer e = raised_register (c == client) value (greatest_responded client newer) e
raised_standing client (proposals.Close c) value newer e = e

-- a proposal that begins none, where the client stood
registered_keeps : (limit client : ℕ) (p : Proposal) (older : List Proposal) → begins_session client p (verdict limit older p) ≡ false → stands limit client older ≡ true → Registered limit client older → Registered limit client (p ∷ older)
unfolding raised
registered_keeps limit client p older b stood (register, e) =
    (with_newer limit client p older b register, subst (λ (s : Bool). raised_by client p s (raised limit client older) ≡ greatest_responded client (p ∷ register.newer)) (sym stood) (raised_standing client p (raised limit client older) register.newer e))

registered_step : (limit client : ℕ) (p : Proposal) (older : List Proposal) (b : Bool) → begins_session client p (verdict limit older p) ≡ b → stands limit client (p ∷ older) ≡ true
    → (stands limit client older ≡ true → Registered limit client older) → Registered limit client (p ∷ older)
registered_step limit client p older true b e before = registered_begins limit client p older b
registered_step limit client p older false b e before =
    let stood = stood_before limit client p older b e in
    registered_keeps limit client p older b stood (before stood)

none_stands : (limit client : ℕ) → stands limit client [] ≡ false
unfolding standing
none_stands limit client = refl

pub raised_is_greatest : RaisedIsGreatest
raised_is_greatest limit client [] e = let gone = none_stands limit client in absurd cc
raised_is_greatest limit client (p ∷ older) e = registered_step limit client p older (begins_session client p (verdict limit older p)) refl e (raised_is_greatest limit client older)
