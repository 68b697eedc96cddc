-- The tests for the same proposal, the same request and the same ending decide it.
use Rattle.std.proofs.Common.{◌≡◌, ℕ, List, Option, Some, None, refl, ap, Decides}
use Rattle.std.proofs.lemmas.Slice.Eq.{bytes_eq-Decides}
use Rattle.std.proofs.lemmas.Bool.Decides.{Decides-and, Decides-like, Decides-eqb}
use Rattle.host_ids.specs.declared.proposal.Proposal.{Proposal}
use Rattle.host_ids.specs.declared.proposal.Proposal.TheVariants as proposals
use Rattle.object_model.specs.declared.mark.What.{What}
use Rattle.object_model.specs.declared.mark.What.TheVariants as whats
use Rattle.object_model.specs.declared.mark.Ending.{Ending}
use Rattle.object_model.specs.declared.mark.Ending.TheVariants as endings
use Rattle.object_model.specs.Decision.{is_blank, is_plain, is_session, is_register, is_close, same_proposal, proposes, is_done, is_rejected, is_responded, is_registered, is_closed, same_ending, gives_ending}

-- ---- proposals

pub blank_Decides : (q : Proposal) → Decides (is_blank q) (q ≡ proposals.Blank)
blank_Decides proposals.Blank = (λ e. refl, λ e. refl)
blank_Decides (proposals.Plain command) = (λ e. cc, λ e. cc)
blank_Decides (proposals.Session client series responded command) = (λ e. cc, λ e. cc)
blank_Decides (proposals.Register client) = (λ e. cc, λ e. cc)
blank_Decides (proposals.Close client) = (λ e. cc, λ e. cc)

plain_Decides : (text : List ℕ) (q : Proposal) → Decides (is_plain text q) (proposals.Plain text ≡ q)
plain_Decides text proposals.Blank = (λ e. cc, λ e. cc)
plain_Decides text (proposals.Plain command) = Decides-like _ (λ e. ap proposals.Plain e) (λ e. cc) (bytes_eq-Decides text command)
plain_Decides text (proposals.Session client series responded command) = (λ e. cc, λ e. cc)
plain_Decides text (proposals.Register client) = (λ e. cc, λ e. cc)
plain_Decides text (proposals.Close client) = (λ e. cc, λ e. cc)

session_Decides : (c s r : ℕ) (text : List ℕ) (q : Proposal) → Decides (is_session c s r text q) (proposals.Session c s r text ≡ q)
session_Decides c s r text proposals.Blank = (λ e. cc, λ e. cc)
session_Decides c s r text (proposals.Plain command) = (λ e. cc, λ e. cc)
session_Decides c s r text (proposals.Session client series responded command) =
    let numbers = Decides-and _ _ (Decides-and _ _ (Decides-eqb c client) (Decides-eqb s series)) (Decides-eqb r responded) in
    Decides-like _ (λ e. cc) (λ e. (((cc, cc), cc), cc)) (Decides-and _ _ numbers (bytes_eq-Decides text command))
session_Decides c s r text (proposals.Register client) = (λ e. cc, λ e. cc)
session_Decides c s r text (proposals.Close client) = (λ e. cc, λ e. cc)

register_Decides : (c : ℕ) (q : Proposal) → Decides (is_register c q) (proposals.Register c ≡ q)
register_Decides c proposals.Blank = (λ e. cc, λ e. cc)
register_Decides c (proposals.Plain command) = (λ e. cc, λ e. cc)
register_Decides c (proposals.Session client series responded command) = (λ e. cc, λ e. cc)
register_Decides c (proposals.Register client) = Decides-like _ (λ e. ap proposals.Register e) (λ e. cc) (Decides-eqb c client)
register_Decides c (proposals.Close client) = (λ e. cc, λ e. cc)

close_Decides : (c : ℕ) (q : Proposal) → Decides (is_close c q) (proposals.Close c ≡ q)
close_Decides c proposals.Blank = (λ e. cc, λ e. cc)
close_Decides c (proposals.Plain command) = (λ e. cc, λ e. cc)
close_Decides c (proposals.Session client series responded command) = (λ e. cc, λ e. cc)
close_Decides c (proposals.Register client) = (λ e. cc, λ e. cc)
close_Decides c (proposals.Close client) = Decides-like _ (λ e. ap proposals.Close e) (λ e. cc) (Decides-eqb c client)

pub same_proposal_Decides : (p q : Proposal) → Decides (same_proposal p q) (p ≡ q)
same_proposal_Decides proposals.Blank q = Decides-like _ (λ e. cc) (λ e. cc) (blank_Decides q)
same_proposal_Decides (proposals.Plain command) q = plain_Decides command q
same_proposal_Decides (proposals.Session client series responded command) q = session_Decides client series responded command q
same_proposal_Decides (proposals.Register client) q = register_Decides client q
same_proposal_Decides (proposals.Close client) q = close_Decides client q

-- ---- requests

pub proposes_Decides : (p : Proposal) (what : What) → Decides (proposes p what) (what ≡ whats.Proposes p)
proposes_Decides p (whats.Proposes proposal) = Decides-like _ (λ e. cc) (λ e. cc) (same_proposal_Decides p proposal)
proposes_Decides p (whats.Queries query) = (λ e. cc, λ e. cc)

-- ---- endings

done_Decides : (text : List ℕ) (f : Ending) → Decides (is_done text f) (endings.Done text ≡ f)
done_Decides text (endings.Done reply) = Decides-like _ (λ e. ap endings.Done e) (λ e. cc) (bytes_eq-Decides text reply)
done_Decides text endings.Rejected = (λ e. cc, λ e. cc)
done_Decides text endings.Responded = (λ e. cc, λ e. cc)
done_Decides text endings.Registered = (λ e. cc, λ e. cc)
done_Decides text endings.Closed = (λ e. cc, λ e. cc)

rejected_Decides : (f : Ending) → Decides (is_rejected f) (endings.Rejected ≡ f)
rejected_Decides (endings.Done reply) = (λ e. cc, λ e. cc)
rejected_Decides endings.Rejected = (λ e. refl, λ e. refl)
rejected_Decides endings.Responded = (λ e. cc, λ e. cc)
rejected_Decides endings.Registered = (λ e. cc, λ e. cc)
rejected_Decides endings.Closed = (λ e. cc, λ e. cc)

responded_Decides : (f : Ending) → Decides (is_responded f) (endings.Responded ≡ f)
responded_Decides (endings.Done reply) = (λ e. cc, λ e. cc)
responded_Decides endings.Rejected = (λ e. cc, λ e. cc)
responded_Decides endings.Responded = (λ e. refl, λ e. refl)
responded_Decides endings.Registered = (λ e. cc, λ e. cc)
responded_Decides endings.Closed = (λ e. cc, λ e. cc)

registered_Decides : (f : Ending) → Decides (is_registered f) (endings.Registered ≡ f)
registered_Decides (endings.Done reply) = (λ e. cc, λ e. cc)
registered_Decides endings.Rejected = (λ e. cc, λ e. cc)
registered_Decides endings.Responded = (λ e. cc, λ e. cc)
registered_Decides endings.Registered = (λ e. refl, λ e. refl)
registered_Decides endings.Closed = (λ e. cc, λ e. cc)

closed_Decides : (f : Ending) → Decides (is_closed f) (endings.Closed ≡ f)
closed_Decides (endings.Done reply) = (λ e. cc, λ e. cc)
closed_Decides endings.Rejected = (λ e. cc, λ e. cc)
closed_Decides endings.Responded = (λ e. cc, λ e. cc)
closed_Decides endings.Registered = (λ e. cc, λ e. cc)
closed_Decides endings.Closed = (λ e. refl, λ e. refl)

pub same_ending_Decides : (e f : Ending) → Decides (same_ending e f) (e ≡ f)
same_ending_Decides (endings.Done reply) f = done_Decides reply f
same_ending_Decides endings.Rejected f = rejected_Decides f
same_ending_Decides endings.Responded f = responded_Decides f
same_ending_Decides endings.Registered f = registered_Decides f
same_ending_Decides endings.Closed f = closed_Decides f

pub gives_ending_Decides : (o : Option Ending) (ending : Ending) → Decides (gives_ending o ending) (o ≡ Some ending)
gives_ending_Decides None ending = (λ e. cc, λ e. cc)
gives_ending_Decides (Some given) ending = Decides-like _ (λ e. cc) (λ e. cc) (same_ending_Decides given ending)
