-- What an event must meet is more than its input must.
use Rattle.std.proofs.Common.{◌≡◌, ◌≤◌, ◌<◌, ◌+◌, ◌^◌, ℕ, List, Bool, true, false, refl, arith, Option, Some, None}
use Rattle.std.proofs.lemmas.Bool.{and_parts}
use Rattle.std.proofs.lemmas.Bool.Decides.{nat_tests}
use Rattle.std.specs.List.{All}
use Rattle.std.specs.Prelude.{◌==◌, ◌&&◌, not, nat_le, nat_lt, length, IsSomeAnd}
use Rattle.host_ids.specs.declared.entry.Key.{Key}
use Rattle.host_ids.specs.declared.proposal.Proposal.{Proposal}
use Rattle.host_ids.specs.declared.proposal.Proposal.TheVariants as proposals
use Rattle.wire_types.specs.Grammar.{is_key, is_proposal, is_blank, is_request, is_command, are_fit_numbers, is_piece}
use Rattle.wire_types.specs.declared.grammar.TheConstants.{MOST_PIECE}
use Rattle.raft_model.specs.declared.chunk.Chunk.{Chunk}
use Rattle.raft_model.specs.declared.input.Input.TheVariants as inputs
use Rattle.raft_model.specs.declared.state.Inbox.{Inbox}
use Rattle.raft_model.specs.Fit.{is_fit}
use Rattle.raft_model.specs.Group.{Group, replica_at}
use Rattle.raft_model.specs.Given.{MaySend, MayInstall}
use Rattle.raft_core.specs.Range.{InRange, IsWithin}
use Rattle.group_world.proofs.Ranges.{range_at}

spelled_fit : (p : Proposal) → is_proposal p ≡ true → is_fit p ≡ true
spelled_fit proposals.Blank h = refl
spelled_fit (proposals.Plain command) h = refl
spelled_fit (proposals.Session client series responded command) h = (and_parts (are_fit_numbers client series responded) (is_command command) h).0
spelled_fit (proposals.Register client) h = h
spelled_fit (proposals.Close client) h = h

pub request_fit : (key : Key) (p : Proposal) → is_request key p ≡ true → is_fit p ≡ true
request_fit key p h = spelled_fit p (and_parts (is_key key) (is_proposal p) (and_parts (is_key key && is_proposal p) (not (is_blank p)) h).0).1

piece_numbers : (index last_term number count size : ℕ) (bytes : List ℕ) → is_piece index last_term number count size bytes ≡ true → (number + 1 < 2 ^ 32) × (count + 1 < 2 ^ 32)
piece_numbers index last_term number count size bytes h =
    let bytes_end = and_parts _ (nat_le (length bytes) MOST_PIECE) h in
    let size_end = and_parts _ (nat_le size MOST_PIECE) bytes_end.0 in
    let size_begin = and_parts _ (nat_le 1 size) size_end.0 in
    let count_end = and_parts _ (nat_lt (count + 1) (2 ^ 32)) size_begin.0 in
    let number_end = and_parts _ (nat_le number count) count_end.0 in
    let few : count + 1 < 2 ^ 32 = let e = count_end.1 in grind (arith, nat_tests) in
    let under : number ≤ count = let e = number_end.1 in grind (arith, nat_tests) in
    (omega (arith, few, under), few)

pub piece_within : (g : Group) (h to : ℕ) (c : Chunk) → All InRange g.replicas → MaySend g h to c → IsWithin (replica_at g h) (inputs.Chunk to c)
piece_within g h to c a s =
    let numbers = piece_numbers c.index c.last_term c.number c.count c.size c.bytes s.spelled in
    (omega (arith, s.term_reached, (range_at g.replicas h a).0.term_short), s.index_short, numbers.0, numbers.1)

named_within : (o : Option Inbox) (i t : ℕ) → (elim o as (λ _. Bool) [ None ↦ false | Some b ↦ (b.received.index == i) && (b.received.term == t) ]) ≡ true → IsSomeAnd o (λ b. b.received.index ≡ i)
named_within None i t h = absurd (cc h)
named_within (Some b) i t h = let e = (and_parts (b.received.index == i) (b.received.term == t) h).0 in grind (arith, nat_tests)

pub install_within : (g : Group) (h i t : ℕ) → MayInstall g h i t → IsWithin (replica_at g h) (inputs.Installed i t)
install_within g h i t m = named_within (replica_at g h).inbox i t m.named
