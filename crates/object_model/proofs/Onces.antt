-- A series acts at most once in a session.
use Rattle.std.proofs.Common.{◌≡◌, ◌≢◌, ℕ, ◌==◌, List, [], ◌∷◌, ◌++◌, Bool, true, false, Option, Some, None, cond, max, refl, ap, eq-eqb}
use Rattle.std.specs.Prelude.{◌&&◌, nat_le}
use Rattle.host_ids.specs.declared.proposal.Proposal.{Proposal}
use Rattle.host_ids.specs.declared.proposal.Proposal.TheVariants as proposals
use Rattle.object_model.specs.Object.{after}
use Rattle.host_ids.specs.declared.verdict.Verdict.{Verdict}
use Rattle.host_ids.specs.declared.verdict.Verdict.TheVariants as verdicts
use Rattle.object_model.specs.Sequence.{does_act, verdict, stands, raised, after_all, effect_of, found_by, command_verdict}
use Rattle.object_model.specs.Laws.{begins_session, NoneBegins, ActsOnce}

-- there is a reply
record Has (found : Option (List ℕ)) : Type 0 where
  reply : List ℕ
  is : found ≡ Some reply

-- a reply that is replaced by one is still there
has_cond : (b : Bool) (x : List ℕ) (found : Option (List ℕ)) → Has found → Has (cond b (Some x) found)
has_cond true x found h = record { reply = x; is = refl }
has_cond false x found h = h

-- a reply that is not removed is still there
has_not : (b : Bool) (found : Option (List ℕ)) → b ≡ false → Has found → Has (cond b None found)
has_not true found e h = absurd cc
has_not false found e h = h

-- a reply lasts over a proposal that begins no session of its client
has_by : (client series : ℕ) (p : Proposal) (v : Verdict) (reply : List ℕ) (found : Option (List ℕ)) → begins_session client p v ≡ false → Has found → Has (found_by client series p (does_act v) reply found)
has_by client series proposals.Blank v reply found e h = h
has_by client series (proposals.Plain command) v reply found e h = h
has_by client series (proposals.Session c s responded command) v reply found e h = has_cond ((c == client) && (s == series) && does_act v) reply found h
has_by client series (proposals.Register c) v reply found e h = has_not ((c == client) && does_act v) found e h
has_by client series (proposals.Close c) v reply found e h = h

-- and over several
has_after : (limit client series : ℕ) (newer older : List Proposal) → NoneBegins limit client newer older → Has ((after_all limit older).found client series) → Has ((after_all limit (newer ++ older)).found client series)
unfolding NoneBegins after_all
has_after limit client series [] older n h = h
has_after limit client series (p ∷ newer) older n h =
    has_by client series p (verdict limit (newer ++ older) p) (effect_of p (after_all limit (newer ++ older)).pairs).reply ((after_all limit (newer ++ older)).found client series) n.0 (has_after limit client series newer older n.1 h)

-- a command that acts has a reply from then on
has_first : (limit client series responded : ℕ) (command : List ℕ) (older : List Proposal) → verdict limit older (proposals.Session client series responded command) ≡ verdicts.Acts
    → Has ((after_all limit (proposals.Session client series responded command ∷ older)).found client series)
unfolding after_all
has_first limit client series responded command older e =
    record { reply = (after (after_all limit older).pairs command).reply; is = rw (eq-eqb client client refl, eq-eqb series series refl, e) refl }

-- where there is a reply, nothing acts
no_act_by : (b : Bool) (reply : List ℕ) → cond b verdicts.Responded (verdicts.RepeatOf reply) ≢ verdicts.Acts
no_act_by true reply e = let f : false ≡ true = ap does_act e in cc
no_act_by false reply e = let f : false ≡ true = ap does_act e in cc

no_act : (b : Bool) (bound series : ℕ) (reply : List ℕ) → command_verdict b bound series (Some reply) ≢ verdicts.Acts
no_act false bound series reply e = let f : false ≡ true = ap does_act e in cc
no_act true bound series reply e = no_act_by (nat_le series bound) reply e

pub acts_once : ActsOnce
acts_once limit client series first second command again older newer e n e2 =
    let h = has_after limit client series newer (proposals.Session client series first command ∷ older) n (has_first limit client series first command older e) in
    no_act (stands limit client (newer ++ proposals.Session client series first command ∷ older)) (max (raised limit client (newer ++ proposals.Session client series first command ∷ older)) second) series h.reply (rw h.is at e2)
