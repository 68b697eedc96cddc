-- What a crash leaves of a host: a replica that stands as its saved state does.
use Rattle.std.proofs.Common.{◌≡◌, ◌≢◌, ⊎_elim, ℕ, List, [], sym, ap, ◌∙◌, subst}
use Rattle.std.proofs.lemmas.List.{append-nil}
use Rattle.host_ids.specs.declared.entry.Entry.{Entry}
use Rattle.raft_model.specs.declared.saved.SavedState.{SavedState}
use Rattle.wire_types.specs.declared.envelope.Envelope.{Envelope}
use Rattle.raft_model.specs.declared.state.State.{State as Replica}
use Rattle.raft_model.specs.Group.{Group, replica_at, saved_at, merged}
use Rattle.raft_safety.specs.History.{History}
use Rattle.raft_safety.specs.Events.{IsLeft}
use Rattle.raft_safety.proofs.Frame.Opened.{Open}
use Rattle.raft_safety.proofs.Saving.Stored.{saved_step}
use Rattle.raft_safety.proofs.Crashes.Crash.{left_replica, crash_step}

-- a replica that stands as its saved state does, in some history
pub record Begun (g : Group) (v : ℕ) (c : SavedState) (d : List Entry) (w : List Envelope) : Type 0 where
  pub history : History
  pub holds : Open history g v c (left_replica c) d w

-- a crash leaves such a replica, with the pending batch saved whole or not at all
pub begun : {g : Group} {v : ℕ} {h : History} {r : Replica} {d : List Entry} {w : List Envelope} (c : SavedState) → v ≢ 0 → r ≡ replica_at g v → IsLeft g v c → Open h g v (saved_at g v) r d w
    → Begun g v c d w
begun {g} {v} {h} {r} {d} {w} c some is left o =
    ⊎_elim
    (λ same. subst (λ x. Begun g v x d w) (sym same) (record { history = _; holds = crash_step o }))
    (λ more.
    let p = more.0 in
    let saved = saved_step p (ap (λ (x : Replica). x.pending) is ∙ more.1) o [] (λ m on. absurd on) some in
    subst (λ x. Begun g v x d w) (sym more.2) (subst (λ x. Begun g v (merged (saved_at g v) p.batch) d x) (append-nil w)
    (record { history = _; holds = crash_step saved })))
    left
