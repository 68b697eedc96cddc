-- Where nothing of a group is left but its number, no log has an entry.
use Rattle.std.proofs.Common.{◌≡◌, ℕ, ◌-◌, List, [], take, drop, true, ap, ◌∙◌, ⊎_elim, sym, subst}
use Rattle.std.specs.Prelude.{map}
use Rattle.std.proofs.Math.Seq.{drop-nil, take-nil}
use Rattle.host_ids.specs.declared.entry.Entry.{Entry}
use Rattle.log_view.specs.Log.{slice}
use Rattle.raft_model.specs.Fit.{are_fit}
use Rattle.raft_model.specs.Group.{Group, replica_at}
use Rattle.raft_core.specs.Core.{Core}
use Rattle.group_world.specs.declared.members.Members.{Members}
use Rattle.group_world.specs.Members.{group_of, lost_group, Sound, IsWhole}
use Rattle.group_world.proofs.Tables.{slice_fit}

-- no log has an entry there
pub lost_fit : (number h first most : ℕ) → are_fit (slice (replica_at (lost_group number) h).log first most) ≡ true
lost_fit number h first most =
    let none : take most (drop (first - 0 - 1) []) ≡ [] = ap (λ (es : List Entry). take most es) (drop-nil (first - 0 - 1)) ∙ take-nil most in
    ap are_fit none

-- the proposals in each part of a log of a whole group are well formed
pub whole_fit : (w : Members) (h first most : ℕ) → IsWhole w → are_fit (slice (replica_at (group_of w) h).log first most) ≡ true
whole_fit w h first most k =
    ⊎_elim (λ lost. subst (λ (g : Group). are_fit (slice (replica_at g h).log first most) ≡ true) (sym lost) (lost_fit w.number h first most))
    (λ (sound : Sound w). slice_fit (map (λ (c : Core). c.state) w.replicas.items) h first most sound.ranges)
    k
