-- A host that keeps nothing hears nothing.
use Rattle.std.proofs.Common.{◌≡◌, ℕ, ◌≤◌, List, [], ◌∷◌, None, length, refl}
use Rattle.std.proofs.lemmas.List.{get_or_past}
use Rattle.host_ids.specs.declared.proposal.TheConstants.{MOST_SESSIONS}
use Rattle.raft_model.specs.declared.note.Note.{Note}
use Rattle.raft_model.specs.declared.note.Note.TheVariants as notes
use Rattle.run_model.specs.World.{Open, World, new_node, node_at}
use Rattle.run_model.specs.Run.{answered, answers_due, at_rest, confirmed, listening, want_of}

-- no request is open, so notes confirm none
nobody_hears : (ns : List Note) (o : Open) → o.wants ≡ [] → confirmed ns o ≡ o
unfolding confirmed
nobody_hears [] o e = refl
nobody_hears (notes.Leader host term ∷ ns) o e = nobody_hears ns o e
nobody_hears (notes.Pending host id ∷ ns) o e = nobody_hears ns o e
nobody_hears (notes.Idle ∷ ns) o e = nobody_hears ns o e
nobody_hears (notes.Dropped key ∷ ns) o e = nobody_hears ns o e
nobody_hears (notes.Confirmed host key index ∷ ns) o e = let k : want_of key o.wants ≡ None = rw e refl in rw k (nobody_hears ns o e)

-- a host beyond the table keeps nothing, and hears nothing
pub nothing_heard : (w : World) (h : ℕ) (ns : List Note) → length w.nodes ≤ h → (answers_due w.contexts (listening ns (node_at w h)) (at_rest (listening ns (node_at w h)))).told ≡ []
unfolding answered
nothing_heard w h ns past =
    let e : node_at w h ≡ new_node MOST_SESSIONS = get_or_past w.nodes h (new_node MOST_SESSIONS) past in
    let k = nobody_hears ns (new_node MOST_SESSIONS).requests refl in
    rw (e, k) refl
