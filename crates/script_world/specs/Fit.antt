-- What the world asks of the numbers of a line's proposal.
use Rattle.std.specs.Prelude.{Bool, false, not, ◌&&◌, nat_le}
use Rattle.host_ids.specs.declared.proposal.Proposal.{Proposal}
use Rattle.host_ids.specs.declared.proposal.Proposal.TheVariants as proposals
use Rattle.wire_types.specs.Grammar.{are_fit_numbers, is_proposal, is_blank}
use Rattle.script_text.specs.Fit.{is_filled}

-- what is asked, whose command may be too long
abbrev pub is_ask : Proposal → Bool
is_ask proposals.Blank = false
is_ask (proposals.Plain command) = is_filled command
is_ask (proposals.Session client series responded command) = are_fit_numbers client series responded && is_filled command
is_ask (proposals.Register client) = nat_le 1 client
is_ask (proposals.Close client) = nat_le 1 client

-- what may be proposed
abbrev pub may_ask : Proposal → Bool
may_ask p = is_proposal p && not (is_blank p)
