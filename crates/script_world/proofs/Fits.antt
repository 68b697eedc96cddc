-- The numbers of proposals stay in their ranges.
use Rattle.std.proofs.Common.{◌≡◌, ℕ, ◌≤◌, true, length, refl, arith, leb-true}
use Rattle.std.proofs.lemmas.Bool.{and_parts}
use Rattle.std.proofs.lemmas.Bool.Decides.{nat_tests}
use Rattle.log_view.specs.Log.{Log, slice}
use Rattle.std.proofs.lemmas.List.{length-take}
use Rattle.wire_types.specs.Grammar.{are_fit_numbers, is_command}
use Rattle.host_ids.specs.declared.proposal.Proposal.{Proposal}
use Rattle.host_ids.specs.declared.proposal.Proposal.TheVariants as proposals
use Rattle.raft_model.specs.Saving.{payload}
use Rattle.script_world.specs.Fit.{is_ask, may_ask}
use Rattle.script_text.specs.Fit.{is_filled}
use Rattle.host_ids.specs.declared.proposal.TheConstants.{MOST_COMMAND}

-- what is asked may be proposed, where its command isn't too long
pub short_ask : (p : Proposal) → is_ask p ≡ true → length (payload p) ≤ MOST_COMMAND → may_ask p ≡ true
short_ask proposals.Blank h l = absurd (cc h)
short_ask (proposals.Plain command) h l = let filled : 1 ≤ length command = leb-true 1 (length command) h in grind (arith, nat_tests)
short_ask (proposals.Session client series responded command) h l =
    let p = and_parts (are_fit_numbers client series responded) (is_filled command) h in
    let filled : 1 ≤ length command = leb-true 1 (length command) p.1 in
    let short : is_command command ≡ true = grind (arith, nat_tests) in
    rw (p.0, short) refl
short_ask (proposals.Register client) h l = rw h refl
short_ask (proposals.Close client) h l = rw h refl

-- a part of a log has at most the number of entries that was asked for
pub length_slice : (log : Log) (first most : ℕ) → length (slice log first most) ≤ most
length_slice log first most = rw length-take (omega arith)
