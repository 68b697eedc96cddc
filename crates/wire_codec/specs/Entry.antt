-- Keys, proposals and entries as bytes, and how they are read. Source: this project's own.
use Rattle.std.specs.Prelude.{◌≡◌, ◌-◌, ◌^◌, ◌==◌, ◌&&◌, ℕ, List, [], ◌++◌, Bool, true, false, nat_le, nat_lt, length, if◌then◌else◌}
use Rattle.host_ids.specs.declared.entry.Entry.{Entry}
use Rattle.host_ids.specs.declared.entry.Key.{Key}
use Rattle.host_ids.specs.declared.proposal.Proposal.{Proposal}
use Rattle.host_ids.specs.declared.proposal.Proposal.TheVariants as proposals
use Rattle.host_ids.specs.declared.proposal.TheConstants.{MOST_COMMAND, MOST_SERIES}
use Rattle.wire_types.specs.Grammar.{is_entry}
use Rattle.wire_codec.specs.Reading.{Reader, number, number_bytes, text, both, made}
use Rattle.wire_codec.specs.declared.entry.TheConstants.{REGISTER, CLOSE}

-- the greatest number of eight bytes
abbrev pub greatest : ℕ
greatest = 2 ^ 64 - 1

-- ---- keys

-- the host, the start and the serial
abbrev pub key_bytes : Key → List ℕ
key_bytes key = number_bytes 1 key.host ++ (number_bytes 8 key.start ++ number_bytes 8 key.serial)

abbrev pub key_of : ℕ × (ℕ × ℕ) → Key
key_of p = record { host = p.0; start = p.1.0; serial = p.1.1 }

-- start and serial count from 1; without a host they are 0
abbrev pub least_of : ℕ → ℕ
least_of host = if host == 0 then 0 else 1

abbrev pub most_of : ℕ → ℕ
most_of host = if host == 0 then 0 else greatest

-- a key whose host is at least `least`: where that is 0, the key of zeros too
abbrev pub key_at : ℕ → Reader Key
key_at least = made key_of (both (number 1 least 9) (λ host. both (number 8 (least_of host) (most_of host)) (λ start. number 8 (least_of host) (most_of host))))

-- ---- proposals

abbrev pub client_of : Proposal → ℕ
client_of proposals.Blank = 0
client_of (proposals.Plain command) = 0
client_of (proposals.Session client series responded command) = client
client_of (proposals.Register client) = client
client_of (proposals.Close client) = client

-- a command's own series, and a series above those for registers and closes
abbrev pub series_of : Proposal → ℕ
series_of proposals.Blank = 0
series_of (proposals.Plain command) = 0
series_of (proposals.Session client series responded command) = series
series_of (proposals.Register client) = REGISTER
series_of (proposals.Close client) = CLOSE

abbrev pub responded_of : Proposal → ℕ
responded_of proposals.Blank = 0
responded_of (proposals.Plain command) = 0
responded_of (proposals.Session client series responded command) = responded
responded_of (proposals.Register client) = 0
responded_of (proposals.Close client) = 0

abbrev pub command_of : Proposal → List ℕ
command_of proposals.Blank = []
command_of (proposals.Plain command) = command
command_of (proposals.Session client series responded command) = command
command_of (proposals.Register client) = []
command_of (proposals.Close client) = []

-- the client, the series, the responded value, the length of the command and the command
abbrev pub proposal_bytes : Proposal → List ℕ
proposal_bytes p = number_bytes 8 (client_of p) ++ (number_bytes 8 (series_of p) ++ (number_bytes 8 (responded_of p) ++ (number_bytes 2 (length (command_of p)) ++ command_of p)))

abbrev pub Sized : Type 0
Sized = ℕ × List ℕ

-- the proposal of these numbers and this command
abbrev pub of_session : ℕ → ℕ → ℕ → List ℕ → Proposal
of_session client series responded command = if nat_le series MOST_SERIES then proposals.Session client series responded command else if series == REGISTER then proposals.Register client else proposals.Close client

abbrev pub proposal_of : Bool → ℕ × (ℕ × (ℕ × Sized)) → Proposal
proposal_of true p = proposals.Blank
proposal_of false p = if p.0 == 0 then proposals.Plain p.1.1.1.1 else of_session p.0 p.1.0 p.1.1.0 p.1.1.1.1

-- what only a client's session has
abbrev pub if_client : ℕ → ℕ → ℕ
if_client client n = if client == 0 then 0 else n

-- what only a command of a client's session has
abbrev pub if_series : ℕ → ℕ → ℕ
if_series series n = if nat_le 1 series && nat_le series MOST_SERIES then n else 0

-- registers and closes have no command
abbrev pub if_command : ℕ → ℕ → ℕ
if_command series n = if nat_le series MOST_SERIES then n else 0

abbrev pub unless : Bool → ℕ → ℕ
unless true n = 0
unless false n = n

-- the length of a command, and the command
abbrev pub command_at : Bool → ℕ → Reader Sized
command_at blank series = both (number 2 (unless blank (if_command series 1)) (unless blank (if_command series MOST_COMMAND))) text

abbrev pub responded_at : Bool → ℕ → Reader (ℕ × Sized)
responded_at blank series = both (number 8 0 (if_series series MOST_SERIES)) (λ responded. command_at blank series)

abbrev pub series_at : Bool → ℕ → Reader (ℕ × (ℕ × Sized))
series_at blank client = both (number 8 (if_client client 1) (if_client client greatest)) (responded_at blank)

-- a blank, or a proposal that is none
abbrev pub proposal_at : Bool → Reader Proposal
proposal_at blank = made (proposal_of blank) (both (number 8 0 (unless blank greatest)) (series_at blank))

-- ---- entries

-- the term, the key and the proposal; the index isn't among the bytes
abbrev pub entry_bytes : Entry → List ℕ
entry_bytes e = number_bytes 8 e.term ++ (key_bytes e.key ++ proposal_bytes e.proposal)

abbrev pub entry_of : ℕ → ℕ × (Key × Proposal) → Entry
entry_of index p = record { index = index; term = p.0; key = p.1.0; proposal = p.1.1 }

-- the entry of an index: a blank exactly where the key is that of zeros
unfoldable pub entry_at : ℕ → Reader Entry
entry_at index = made (entry_of index) (both (number 8 1 greatest) (λ term. both (key_at 0) (λ key. proposal_at (key.host == 0))))

-- each number fits in its field
abbrev pub fits : Entry → Bool
fits e = nat_lt e.term (2 ^ 64) && nat_lt e.key.start (2 ^ 64) && nat_lt e.key.serial (2 ^ 64) && nat_lt (client_of e.proposal) (2 ^ 64)

-- an entry of this index that bytes can hold
pub record IsEntryAt (number : ℕ) (e : Entry) : Type 0 where
  pub numbered : e.index ≡ number
  pub well_formed : is_entry e ≡ true
  pub fitting : fits e ≡ true
