-- When the numbers of a proposal are in their ranges. Source: this project's own.
use Rattle.std.specs.Prelude.{List, Bool, true, nat_le}
use Rattle.std.specs.List.{list_all}
use Rattle.host_ids.specs.declared.entry.Entry.{Entry}
use Rattle.host_ids.specs.declared.proposal.Proposal.{Proposal}
use Rattle.host_ids.specs.declared.proposal.Proposal.TheVariants as proposals
use Rattle.wire_types.specs.Grammar.{are_fit_numbers}

-- the numbers of a proposal, where it has any, are in these ranges
abbrev pub is_fit : Proposal → Bool
is_fit proposals.Blank = true
is_fit (proposals.Plain command) = true
is_fit (proposals.Session client series responded command) = are_fit_numbers client series responded
is_fit (proposals.Register client) = nat_le 1 client
is_fit (proposals.Close client) = nat_le 1 client

-- so are those of all entries of a list
abbrev pub are_fit : List Entry → Bool
are_fit es = list_all (λ e. is_fit e.proposal) es
