-- A group as the definitions have it, from the parts that the code keeps; and what holds of these. Source: this project's own.
use Rattle.std.specs.Prelude.{◌≡◌, ◌≤◌, ◌⊎◌, ℕ, Bool, false, List, [], ◌∷◌, map, length, replicate}
use Rattle.std.specs.List.{All}
use Rattle.wire_types.specs.declared.envelope.Envelope.{Envelope}
use Rattle.roster.specs.Roster.{Seat}
use Rattle.raft_model.specs.Group.{Group}
use Rattle.raft_core.specs.Core.{Core, begun}
use Rattle.raft_core.specs.Range.{IsMail, InRange}
use Rattle.group_world.specs.declared.members.Members.{Members}

abbrev pub group_of : Members → Group
group_of w = record {
  number = w.number;
  voters = w.voters.items;
  replicas = map (λ (c : Core). c.state) w.replicas.items;
  up = w.up;
  wire = w.wire;
  saves = w.saves.items;
  decided = w.decided.items;
  asks = w.asks.entries;
}

-- a lane as clauses see it: its group, and whether every event that it acted on was an allowed one and memory never ran out
pub record Kept : Type 0 where
  pub group : Group
  pub faithful : Bool

-- nothing of a group is left but its number: nobody may act, so each event is refused
abbrev pub lost_group : ℕ → Group
lost_group number = record { number = number; voters = []; replicas = []; up = replicate 10 false; wire = []; saves = []; decided = []; asks = [] }

-- a lane after out of memory
abbrev pub lost : ℕ → Kept
lost number = record { group = lost_group number; faithful = false }

-- the seats of a table: the place 0 is no host's, and has the first host's seat
abbrev pub seat_of : ℕ → List ℕ → ℕ → Seat
seat_of number voters h = record { group = number; me = h; voters = voters }

abbrev pub seats : ℕ → List ℕ → List Seat
seats number voters = map (seat_of number voters) (1 ∷ 1 ∷ 2 ∷ 3 ∷ 4 ∷ 5 ∷ 6 ∷ 7 ∷ 8 ∷ 9 ∷ [])

-- the table of replicas that have just begun
abbrev pub begun_table : ℕ → List ℕ → List Core
begun_table number voters = map (λ h. begun number h voters) (1 ∷ 1 ∷ 2 ∷ 3 ∷ 4 ∷ 5 ∷ 6 ∷ 7 ∷ 8 ∷ 9 ∷ [])

-- nothing waits to be put on the wire
abbrev pub no_mail : List (List Envelope)
no_mail = replicate 10 []

pub record Sound (w : Members) : Type 0 where
  pub seated : map (λ (c : Core). c.seat) w.replicas.items ≡ seats w.number w.voters.items
  pub posted : map (λ (c : Core). c.out) w.replicas.items ≡ no_mail
  pub ranges : All InRange (map (λ (c : Core). c.state) w.replicas.items)
  pub table : length w.saves.items ≡ 10
  pub mail : All IsMail w.wire
  pub hosts : All (λ v. (1 ≤ v) × (v ≤ 9)) w.voters.items

-- a group that nothing is left of, or one whose parts fit
abbrev pub IsWhole : Members → Type 0
IsWhole w = (group_of w ≡ lost_group w.number) ⊎ Sound w
