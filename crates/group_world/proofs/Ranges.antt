-- Each replica of a group is in range.
use Rattle.std.proofs.Common.{◌≤◌, ℕ, zero, suc, List, [], ◌∷◌, refl, arith, ⊎_elim, sym, subst}
use Rattle.std.proofs.lemmas.List.Elements.{All-replicate}
use Rattle.std.specs.List.{All}
use Rattle.std.specs.Prelude.{slice_index_or, map}
use Rattle.raft_model.specs.declared.state.State.{State}
use Rattle.raft_model.specs.Replica.{fresh}
use Rattle.raft_model.specs.Group.{Group, replica_at}
use Rattle.raft_core.specs.Core.{Core}
use Rattle.raft_core.specs.Range.{InRange}
use Rattle.group_world.specs.declared.members.Members.{Members}
use Rattle.group_world.specs.Members.{group_of, Sound, IsWhole}

pub fresh_range : InRange fresh
fresh_range = (
  record { term_short = omega arith; round_short = omega arith; batches_short = omega arith },
  record {
    last_short = omega arith;
    may_lead = λ k. absurd (cc k);
    front_committed = omega arith;
    committed = omega arith;
    front_saved = omega arith;
    saved = omega arith;
    changed = omega arith;
  },
  record { matched_short = All-replicate (λ i. i ≤ 4611686018427387904) 10 0 (omega arith); in_place = tt; hand_short = omega arith; received = tt },
  refl,
)

-- so is that of a host, be it in the table or not
pub range_at : (rs : List State) (h : ℕ) → All InRange rs → InRange (slice_index_or rs h fresh)
range_at [] h a = fresh_range
range_at (r ∷ rs) zero a = a 0 r (omega arith)
range_at (r ∷ rs) (suc h) a = range_at rs h (λ k d l. a (suc k) d (omega (arith, l)))

-- and that of a host of a whole group
pub whole_range : (w : Members) (h : ℕ) → IsWhole w → InRange (replica_at (group_of w) h)
whole_range w h k =
    ⊎_elim (λ lost. subst (λ (g : Group). InRange (replica_at g h)) (sym lost) fresh_range)
    (λ (sound : Sound w). range_at (map (λ (c : Core). c.state) w.replicas.items) h sound.ranges)
    k
