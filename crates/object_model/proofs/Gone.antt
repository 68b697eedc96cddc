-- A client that doesn't stand stays so.
use Rattle.std.proofs.Common.{◌≡◌, ℕ, ◌==◌, List, [], ◌∷◌, ◌++◌, Bool, true, false, cond, drop, refl, length, eqb-true}
use Rattle.std.specs.Prelude.{◌&&◌, ◌||◌, nat_le, not}
use Rattle.std.proofs.lemmas.Bool.{cond_both}
use Rattle.std.proofs.lemmas.List.Folds.{list_any-append}
use Rattle.host_ids.specs.declared.proposal.Proposal.{Proposal}
use Rattle.host_ids.specs.declared.proposal.Proposal.TheVariants as proposals
use Rattle.host_ids.specs.declared.verdict.Verdict.TheVariants as verdicts
use Rattle.object_model.specs.Sequence.{does_act, verdict, stands, standing, has, without, with_room, touched}
use Rattle.object_model.specs.Laws.{begins_session, NoneBegins, StaysGone}

-- where neither holds, no one of the two does
or_both : (a b : Bool) → a ≡ false → b ≡ false → (a || b) ≡ false
or_both true b e f = absurd cc
or_both false b e f = f

or_left : (a b : Bool) → (a || b) ≡ false → a ≡ false
or_left true b e = e
or_left false b e = refl

or_right : (a b : Bool) → (a || b) ≡ false → b ≡ false
or_right true b e = absurd cc
or_right false b e = e

-- what fails beside true fails
and_true : (a : Bool) → (a && true) ≡ false → a ≡ false
and_true true e = e
and_true false e = refl

-- a client that is not among these is not among them without the first
gone_drop : (client : ℕ) (cs : List ℕ) → has client cs ≡ false → has client (drop 1 cs) ≡ false
gone_drop client [] e = refl
gone_drop client (c ∷ cs) e = or_right (c == client) (has client cs) e

-- nor once there is room
gone_room : (limit client : ℕ) (cs : List ℕ) → has client cs ≡ false → has client (with_room limit cs) ≡ false
gone_room limit client cs e = cond_both (nat_le limit (length cs)) (drop 1 cs) cs (λ (l : List ℕ). has client l ≡ false) (λ _. gone_drop client cs e) (λ _. e)

-- nor among one that is not it and the rest, or the rest alone
gone_without_by : (client c : ℕ) (rest : List ℕ) (b : Bool) → (c == client) ≡ false → has client rest ≡ false → has client (cond b (c ∷ rest) rest) ≡ false
gone_without_by client c rest true e f = or_both (c == client) (has client rest) e f
gone_without_by client c rest false e f = f

-- nor without another one
gone_without : (client other : ℕ) (cs : List ℕ) → has client cs ≡ false → has client (without other cs) ≡ false
gone_without client other [] e = refl
gone_without client other (c ∷ cs) e = gone_without_by client c (without other cs) (not (c == other)) (or_left (c == client) (has client cs) e) (gone_without client other cs (or_right (c == client) (has client cs) e))

-- nor with another one at the end
gone_last : (client other : ℕ) (cs : List ℕ) → has client cs ≡ false → (other == client) ≡ false → has client (cs ++ other ∷ []) ≡ false
gone_last client other cs e f = rw list_any-append (or_both (has client cs) (has client (other ∷ [])) e (or_both (other == client) false f refl))

-- another client, since that one stands
other_by : (client other : ℕ) (cs : List ℕ) (b : Bool) → (other == client) ≡ b → has other cs ≡ true → has client cs ≡ false → (other == client) ≡ false
other_by client other cs false q e f = q
other_by client other cs true q e f =
    let same : other ≡ client = eqb-true other client q in
    let h : has client cs ≡ true = rw same at e in
    absurd cc

-- nor after a command, whose client stands or is not added
gone_session : (client other : ℕ) (cs : List ℕ) (b : Bool) → has other cs ≡ b → has client cs ≡ false → has client (cond b (without other cs ++ other ∷ []) cs) ≡ false
gone_session client other cs false e f = f
gone_session client other cs true e f = gone_last client other (without other cs) (gone_without client other cs f) (other_by client other cs (other == client) refl e f)

-- a register of another client, or one that is taken
gone_register : (limit client other : ℕ) (cs : List ℕ) (b : Bool) → has other cs ≡ b → has client cs ≡ false → (other == client && does_act (cond b verdicts.Taken verdicts.Acts)) ≡ false
    → has client (cond b cs (with_room limit cs ++ other ∷ [])) ≡ false
gone_register limit client other cs true e f g = f
gone_register limit client other cs false e f g = gone_last client other (with_room limit cs) (gone_room limit client cs f) (and_true (other == client) g)

-- a client that does not stand does not after a proposal that begins no session of it
pub gone_by : (limit client : ℕ) (p : Proposal) (older : List Proposal) → stands limit client older ≡ false → begins_session client p (verdict limit older p) ≡ false → has client (touched limit p (standing limit older)) ≡ false
gone_by limit client proposals.Blank older e b = e
gone_by limit client (proposals.Plain command) older e b = e
gone_by limit client (proposals.Session c series responded command) older e b = gone_session client c (standing limit older) (has c (standing limit older)) refl e
gone_by limit client (proposals.Register c) older e b = gone_register limit client c (standing limit older) (has c (standing limit older)) refl e b
gone_by limit client (proposals.Close c) older e b = gone_without client c (standing limit older) e

-- nor after several
still_gone : (limit client : ℕ) (newer older : List Proposal) → NoneBegins limit client newer older → stands limit client older ≡ false → stands limit client (newer ++ older) ≡ false
unfolding NoneBegins standing
still_gone limit client [] older n e = e
still_gone limit client (p ∷ newer) older n e = gone_by limit client p (newer ++ older) (still_gone limit client newer older n.1 e) n.0

pub stays_gone : StaysGone
stays_gone limit client series responded command older newer e n = rw (still_gone limit client newer older n e) refl
