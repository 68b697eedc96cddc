-- What the invariant means to those that run groups: one decided list, and one leader a term at each moment. Source: dissertation section 3.6.
use Rattle.std.specs.Prelude.{◌≡◌, ℕ, List, false}
use Rattle.raft_model.specs.declared.role.Role.TheVariants.{Leader}
use Rattle.raft_model.specs.declared.event.LaneEvent.{LaneEvent}
use Rattle.raft_model.specs.Group.{Group, replica_at, is_member, fresh_group, act}
use Rattle.raft_safety.specs.History.{Agree}
use Rattle.raft_safety.specs.Replicas.{whole}
use Rattle.raft_safety.specs.Invariant.{Kept}
use Rattle.raft_safety.specs.Events.{IsAllowed, IsPlain}

-- a group has agreed: up to its commit index each replica's whole log is the decided list, and no two hosts lead a term
pub record IsAgreed (g : Group) : Type 0 where
  pub decided : (v : ℕ) → Agree (replica_at g v).commit (whole g.decided (replica_at g v).log.front (replica_at g v).log.entries) g.decided
  pub leaders : (u v : ℕ) → (replica_at g u).role ≡ Leader → (replica_at g v).role ≡ Leader → (replica_at g u).term ≡ (replica_at g v).term → u ≡ v

-- a fresh group whose voters are hosts from 1 on has the invariant
abbrev pub BeginsKept : Type 0
BeginsKept = (number : ℕ) (voters : List ℕ) → is_member (fresh_group number voters) 0 ≡ false → Kept (fresh_group number voters)

-- each allowed event keeps it
abbrev pub StaysKept : Type 0
StaysKept = (e : LaneEvent) (g : Group) → IsAllowed g e → Kept g → Kept (act e g).group

-- so does each plain one, whatever the group
abbrev pub PlainKept : Type 0
PlainKept = (e : LaneEvent) → IsPlain e → (g : Group) → Kept g → Kept (act e g).group

-- and where it holds the group has agreed
abbrev pub AgreesWhereKept : Type 0
AgreesWhereKept = (g : Group) → Kept g → IsAgreed g
