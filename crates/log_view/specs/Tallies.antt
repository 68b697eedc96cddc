-- What a log says of its entries without going over them: whether their terms rise, and how long their longest command is.
use Rattle.std.specs.Prelude.{ℕ, ◌≡◌, ◌≤◌, ◌&&◌, Bool, true, List, [], ◌∷◌, nat_le, max, length}
use Rattle.std.specs.List.{All}
use Rattle.host_ids.specs.declared.entry.Entry.{Entry}
use Rattle.host_ids.specs.declared.proposal.Proposal.{Proposal}
use Rattle.host_ids.specs.declared.proposal.Proposal.TheVariants.{Blank, Plain, Session, Register, Close}
use Rattle.log_view.specs.Log.{Log, last, term_at}
use Rattle.log_view.specs.declared.tally.Tally.{Tally}

-- no term falls below one before it, the front's among them
abbrev pub TermsRise : Log → Type 0
TermsRise l = (i j : ℕ) → i ≤ j → j ≤ last l → term_at l i ≤ term_at l j

-- the length of a proposal's command, 0 where it has none
abbrev pub command_length : Proposal → ℕ
command_length Blank = 0
command_length (Plain command) = length command
command_length (Session client series responded command) = length command
command_length (Register client) = 0
command_length (Close client) = 0

-- each term is at least the one before it, and the first at least this one
abbrev pub rises : ℕ → List Entry → Bool
rises before [] = true
rises before (e ∷ es) = nat_le before e.term && rises e.term es

-- what a tally says of entries after one of this term
pub record IsTally (before : ℕ) (es : List Entry) (t : Tally) : Type 0 where
  pub rising : t.rises ≡ true → rises before es ≡ true
  pub longest : All (λ e. command_length e.proposal ≤ t.longest) es

abbrev pub tally_of_none : Tally
tally_of_none = record { rises = true; longest = 0 }

-- a tally with one entry more, after one of this term
abbrev pub tally_with : Tally → ℕ → Entry → Tally
tally_with t before e = record { rises = t.rises && nat_le before e.term; longest = max t.longest (command_length e.proposal) }

abbrev pub tally_with_all : Tally → ℕ → List Entry → Tally
tally_with_all t before [] = t
tally_with_all t before (e ∷ es) = tally_with_all (tally_with t before e) e.term es
