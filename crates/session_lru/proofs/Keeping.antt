-- A reply that is kept makes the table stand for the history with its command.
use Rattle.std.proofs.Common.{◌≡◌, ◌≢◌, ℕ, ◌<◌, ◌≤◌, List, ◌∷◌, Bool, true, false, cond, Option, Some, None, length, max, refl, sym, ap, ◌∙◌, subst, nat_eq, arith}
use Rattle.std.specs.Prelude.{nat_le, nat_lt}
use Rattle.std.specs.Map.{remove_entry}
use Rattle.std.proofs.lemmas.Bool.Decides.{nat_tests}
use Rattle.host_ids.specs.declared.proposal.Proposal.{Proposal}
use Rattle.host_ids.specs.declared.proposal.Proposal.TheVariants as proposals
use Rattle.host_ids.specs.declared.verdict.Verdict.TheVariants as verdicts
use Rattle.host_ids.specs.declared.proposal.TheConstants.{MOST_COMMAND}
use Rattle.object_model.specs.Object.{after}
use Rattle.object_model.specs.Sequence.{verdict, command_verdict, does_act, state}
use Rattle.session_lru.specs.declared.session.Session.{Session}
use Rattle.session_lru.specs.Table.{Table}
use Rattle.session_lru.specs.Calls.{session_of, kept_reply, admit_verdict, admitted, raised_to, kept_by, with_reply, MayKeep}
use Rattle.session_lru.specs.Law.{StandsFor, Awaits}
use Rattle.session_lru.proofs.Lookups.{turned, same_client}
use Rattle.session_lru.proofs.Holding.{holds_kept, kept_raised}
use Rattle.session_lru.proofs.Judging.{stands_some, held, admit_judged}
use Rattle.session_lru.proofs.Standing.{touched_stands}

responded_not : (bound series : ℕ) (found : Option (List ℕ)) → nat_le series bound ≡ true → command_verdict true bound series found ≢ verdicts.Acts
responded_not bound series None q e = let r : command_verdict true bound series None ≡ verdicts.Responded = rw q refl in cc
responded_not bound series (Some reply) q e = let r : command_verdict true bound series (Some reply) ≡ verdicts.Responded = rw q refl in cc

-- a command that acts has a series above the bound
acts_above : (bound series : ℕ) (found : Option (List ℕ)) → command_verdict true bound series found ≡ verdicts.Acts → bound < series
acts_above bound series found e = elim (nat_le series bound) as (λ b. nat_le series bound ≡ b → bound < series)
    [ true ↦ λ q. absurd (responded_not bound series found q e) | false ↦ λ q. grind (arith, nat_tests) ] refl

-- and no reply yet
acts_new : (bound series : ℕ) (found : Option (List ℕ)) → command_verdict true bound series found ≡ verdicts.Acts → found ≡ None
acts_new bound series None e = refl
acts_new bound series (Some reply) e = absurd (elim (nat_le series bound) as (λ b. cond b verdicts.Responded (verdicts.RepeatOf reply) ≢ verdicts.Acts) [ true ↦ λ q. cc | false ↦ λ q. cc ] e)

-- its reply may be kept
may_by : (client series responded : ℕ) (reply : List ℕ) (t : Table) (x : Session) → admit_verdict (Some x) series responded ≡ verdicts.Acts → length reply ≤ MOST_COMMAND → MayKeep client series reply (admitted client responded (Some x) t)
may_by client series responded reply t x acts short =
    let own = turned client client true (same_client client) in
    let m : ℕ = max x.responded responded in
    let above : m < series = acts_above m series (kept_reply series x) acts in
    let test : nat_lt m series ≡ true = grind (arith, nat_tests) in
    record {
      session = raised_to responded x;
      stands = rw own refl;
      above = above;
      new = kept_raised series responded x ∙ ap (λ (b : Bool). cond b (kept_reply series x) None) test ∙ acts_new m series (kept_reply series x) acts;
      short = short;
    }

pub may_keep : (client series responded : ℕ) (reply : List ℕ) (t : Table) → admit_verdict (session_of client t) series responded ≡ verdicts.Acts → length reply ≤ MOST_COMMAND → MayKeep client series reply (admitted client responded (session_of client t) t)
may_keep client series responded reply t acts short =
    elim (session_of client t) as (λ o. admit_verdict o series responded ≡ verdicts.Acts → MayKeep client series reply (admitted client responded o t))
    [ None ↦ λ e. absurd cc | Some x ↦ λ e. may_by client series responded reply t x e short ] acts

module _ (h : List Proposal) (client series responded : ℕ) (command reply : List ℕ) where
  abbrev next : Proposal
  next = proposals.Session client series responded command

  -- after the command, its client's session comes first
  first_keeps : (t : Table) (x : Session) → kept_by client series reply (session_of client (admitted client responded (Some x) t)) (admitted client responded (Some x) t)
      ≡ record t { sessions = (client, with_reply series reply (raised_to responded x)) ∷ remove_entry (nat_eq client) t.sessions }
  first_keeps t x = let own = turned client client true (same_client client) in rw own (rw own refl)

  kept_some : (t : Table) (x : Session) → 1 ≤ t.limit → StandsFor h t → session_of client t ≡ Some x → verdict t.limit h next ≡ verdicts.Acts → reply ≡ (after (state t.limit h) command).reply
      → StandsFor (next ∷ h) (kept_by client series reply (session_of client (admitted client responded (Some x) t)) (admitted client responded (Some x) t))
  kept_some t x one s e acts same =
      let st = stands_some h t client x s e in
      let judged : admit_verdict (Some x) series responded ≡ verdicts.Acts = subst (λ (o : Option Session). admit_verdict o series responded ≡ verdict t.limit h next) e (admit_judged h t client series responded command s) ∙ acts in
      let above = acts_above (max x.responded responded) series (kept_reply series x) judged in
      rw (first_keeps t x) (touched_stands h t client series responded command (with_reply series reply (raised_to responded x)) one st s
      (holds_kept t.limit client series responded command reply h x st (ap does_act acts) above same (held h t client x s e)))

  -- a command of a client without a session doesn't act
  refused_not : (t : Table) → session_of client t ≡ None → StandsFor h t → verdict t.limit h next ≢ verdicts.Acts
  refused_not t e s acts =
      let refused : verdicts.NotStanding ≡ verdict t.limit h next = subst (λ (o : Option Session). admit_verdict o series responded ≡ verdict t.limit h next) e (admit_judged h t client series responded command s) in
      let both : verdicts.NotStanding ≡ verdicts.Acts = refused ∙ acts in cc

  kept_before : (t : Table) → 1 ≤ t.limit → StandsFor h t → verdict t.limit h next ≡ verdicts.Acts → reply ≡ (after (state t.limit h) command).reply
      → StandsFor (next ∷ h) (kept_by client series reply (session_of client (admitted client responded (session_of client t) t)) (admitted client responded (session_of client t) t))
  kept_before t one s acts same = elim (session_of client t) as (λ o. session_of client t ≡ o → StandsFor (next ∷ h) (kept_by client series reply (session_of client (admitted client responded o t)) (admitted client responded o t)))
      [ None ↦ λ e. absurd (refused_not t e s acts) | Some x ↦ λ e. kept_some t x one s e acts same ] refl

  -- a limit stays
  same_limit : (t : Table) (o : Option Session) → (admitted client responded o t).limit ≡ t.limit
  same_limit t None = refl
  same_limit t (Some x) = refl

  pub keep_stands : (t : Table) → 1 ≤ t.limit → Awaits h client series responded command t → reply ≡ (after (state t.limit h) command).reply → StandsFor (next ∷ h) (kept_by client series reply (session_of client t) t)
  keep_stands t one a same =
      let limits : t.limit ≡ a.before.limit = ap (λ (x : Table). x.limit) a.admits ∙ same_limit a.before (session_of client a.before) in
      subst (λ (x : Table). StandsFor (next ∷ h) (kept_by client series reply (session_of client x) x)) (sym a.admits)
      (kept_before a.before (subst (λ (l : ℕ). 1 ≤ l) limits one) a.stood a.acts (subst (λ (l : ℕ). reply ≡ (after (state l h) command).reply) limits same))
