-- The calls follow a list of proposals.
use Rattle.std.proofs.Common.{◌≡◌, ◌≢◌, ℕ, List, ◌∷◌, None, Some, refl, sym, ◌∙◌}
use Rattle.host_ids.specs.declared.proposal.Proposal.{Proposal}
use Rattle.host_ids.specs.declared.proposal.Proposal.TheVariants as proposals
use Rattle.host_ids.specs.declared.verdict.Verdict.{Verdict}
use Rattle.host_ids.specs.declared.verdict.Verdict.TheVariants as verdicts
use Rattle.object_model.specs.Object.{after}
use Rattle.object_model.specs.Sequence.{state}
use Rattle.session_lru.specs.Table.{Table}
use Rattle.session_lru.specs.Calls.{session_of, admit_verdict, admitted, kept_by}
use Rattle.session_lru.specs.Law.{StandsFor}
use Rattle.session_lru.specs.Follow.{kept_where, RegistersFollow, ClosesFollow, CommandsFollow}
use Rattle.session_lru.proofs.Judging.{register_judged, close_judged, admit_judged}
use Rattle.session_lru.proofs.Standing.{register_stands, close_stands, admit_stands}
use Rattle.session_lru.proofs.Keeping.{keep_stands}

pub registers_follow : RegistersFollow
registers_follow h t client one s = (register_judged h t client s, register_stands h t client one s)

pub closes_follow : ClosesFollow
closes_follow h t client one s = (close_judged h t client s, close_stands h t client one s)

-- a reply is kept where the verdict is that the command acts
kept_follows : (history : List Proposal) (client series : ℕ) (reply : List ℕ) (t : Table) (v : Verdict) → (v ≢ verdicts.Acts → StandsFor history t) → (v ≡ verdicts.Acts → StandsFor history (kept_by client series reply (session_of client t) t))
    → StandsFor history (kept_where v client series reply t)
kept_follows history client series reply t verdicts.Nothing p q = p (λ e. cc)
kept_follows history client series reply t verdicts.NotStanding p q = p (λ e. cc)
kept_follows history client series reply t verdicts.Taken p q = p (λ e. cc)
kept_follows history client series reply t verdicts.Responded p q = p (λ e. cc)
kept_follows history client series reply t (verdicts.RepeatOf r) p q = p (λ e. cc)
kept_follows history client series reply t verdicts.Acts p q = q refl

same_limit : (client responded : ℕ) (t : Table) → (admitted client responded (session_of client t) t).limit ≡ t.limit
same_limit client responded t = elim (session_of client t) as (λ o. (admitted client responded o t).limit ≡ t.limit) [ None ↦ refl | Some x ↦ refl ]

pub commands_follow : CommandsFollow
commands_follow h t client series responded command one s =
    let judged = admit_judged h t client series responded command s in
    let limits = same_limit client responded t in
    let next = admitted client responded (session_of client t) t in (
      judged,
      kept_follows (proposals.Session client series responded command ∷ h) client series (after (state t.limit h) command).reply next (admit_verdict (session_of client t) series responded)
          (λ n. admit_stands h t client series responded command one s n)
          (λ e. keep_stands h client series responded command (after (state t.limit h) command).reply next (rw limits one) (record { before = t; stood = s; acts = sym judged ∙ e; admits = refl }) (rw limits refl)),
    )
