-- From a row at one host to the group after the event: how the list goes on, what is released, and the tables.
use Rattle.std.proofs.Common.{◌≡◌, ⊎_elim, ℕ, zero, suc, ◌-◌, ◌<◌, ◌≤◌, List, [], ◌∷◌, ◌++◌, length, take, drop, Bool, true, false, refl, sym, ap, subst, arith, inl, inr, Some, ◌&&◌, if◌then◌else◌}
use Rattle.std.proofs.Common.{slice_get, ltb-false}
use Rattle.std.specs.Prelude.{nat_lt, nat_le, slice_set, slice_index_or}
use Rattle.std.proofs.lemmas.Bool.{cond_both, le-ltb, ltb-true, cases_eq}
use Rattle.std.proofs.lemmas.List.{append-nil, append_assoc, set-get_or}
use Rattle.host_ids.specs.declared.entry.Entry.{Entry}
use Rattle.raft_model.specs.declared.saved.SavedState.{SavedState}
use Rattle.wire_types.specs.declared.envelope.Envelope.{Envelope}
use Rattle.raft_model.specs.declared.state.State.{State as Replica}
use Rattle.raft_model.specs.Replica.{Row, may_release, in_term}
use Rattle.raft_model.specs.Step.{Step, released}
use Rattle.raft_model.specs.Group.{Group, saved_at, nothing_saved, is_member, moved, continued, stepped, envelope_at}
use Rattle.raft_safety.specs.History.{History}
use Rattle.raft_safety.specs.Replicas.{Stage, of_batch, IsSecured}
use Rattle.raft_safety.specs.Envelopes.{Tells}
use Rattle.raft_safety.specs.Invariant.{IsOnWire, HasAnswer, HasTables, Inv, Kept}
use Rattle.raft_safety.proofs.Frame.Opened.{SecuredBut, Open, closed, inv_closed}
use Rattle.raft_safety.proofs.Frame.Words.{term_step}
use Rattle.raft_safety.proofs.Frame.Levels.{with_levels}
use Rattle.raft_safety.proofs.Frame.Release.{release_step}

-- a row leaves a replica so that some history fits, with the decided list that the group then has
pub record Reached (g : Group) (v : ℕ) (b : SavedState) (d : List Entry) (w : List Envelope) (r : Replica) : Type 0 where
  pub history : History
  pub holds : Open history g v b r (continued d r) w

-- a list that reaches the commit index goes on by nothing
pub continued_none : (d : List Entry) (r : Replica) → r.commit ≤ length d → continued d r ≡ d
continued_none d r m = ap (λ b. if b && nat_le r.log.front (length d) then d ++ take (r.commit - length d) (drop (length d - r.log.front) r.log.entries) else d) (le-ltb (length d) r.commit m)

-- a row after which the group is still at work on the host, with the decided list that it had, has reached its end
pub reached : {h : History} {g : Group} {v : ℕ} {b : SavedState} {d : List Entry} {w : List Envelope} {r : Replica} → Open h g v b r d w → Reached g v b d w r
reached {h} {g} {v} {b} {d} {w} {r} o = record { history = h; holds = subst (λ e. Open h g v b r e w) (sym (continued_none d r o.mine.stands.now.commit.right)) o }

-- a row that is one of two, as a test says
pub either_row : {g : Group} {v : ℕ} {b : SavedState} {d : List Entry} {w : List Envelope} (test : Bool) (x y : Row) → (test ≡ true → Reached g v b d w x.replica)
    → (test ≡ false → Reached g v b d w y.replica) → Reached g v b d w (if test then x else y).replica
either_row {g} {v} {b} {d} {w} test x y passed failed = cond_both test x y (λ z. Reached g v b d w z.replica) passed failed

-- a greater term is taken over, or all is as before
pub in_term_step : {h : History} {g : Group} {v : ℕ} {b : SavedState} {r : Replica} {d : List Entry} {w : List Envelope} (t : ℕ) → Open h g v b r d w → Open h g v b (in_term t r) d w
in_term_step {h} {g} {v} {b} {r} {d} {w} t o = cond_both (nat_lt r.term t) _ r (λ q. Open h g v b q d w) (λ e. term_step t (ltb-true r.term t e) o) (λ _. o)

-- after that the term isn't below the envelope's
pub in_term_most : (t : ℕ) (r : Replica) → t ≤ (in_term t r).term
in_term_most t r = cond_both (nat_lt r.term t) _ r (λ q. t ≤ q.term) (λ _. omega arith) (λ e. ltb-false r.term t e)

-- an envelope on the wire was sent by a host whose saved term and vote it binds
pub record Delivered (h : History) (g : Group) (v : ℕ) (b : SavedState) (d : List Entry) (w : List Envelope) (m : Envelope) : Type 0 where
  pub stage : Stage
  pub tells : Tells h d (HasAnswer w) h.answer m.from m.to m.term m.body stage
  pub secured : (t c : ℕ) → IsSecured stage.term stage.vote t c → SecuredBut g v b m.from t c

-- each envelope on the wire was, this host's own and another one's
pub delivered : {h : History} {g : Group} {v : ℕ} {b : SavedState} {r : Replica} {d : List Entry} {w : List Envelope} (m : Envelope) → Open h g v b r d w → IsOnWire w m → Delivered h g v b d w m
delivered {g} {v} {b} {d} m o on =
    ⊎_elim
    (λ e. record { stage = of_batch d b; tells = (o.sent m on e).saved; secured = λ t c s. inl (e, s) })
    (λ n. record { stage = of_batch d (saved_at g m.from); tells = (o.wire m on n).saved; secured = λ t c s. inr (n, s) })
    (cases_eq m.from v)

-- a place of the wire holds an envelope on the wire
pub on_wire_at : (w : List Envelope) (n : ℕ) (m : Envelope) → slice_get w n ≡ Some m → IsOnWire w m
on_wire_at [] n m e = absurd (cc)
on_wire_at (x ∷ w) zero m e = inl (let s : Some x ≡ Some m = e in cc)
on_wire_at (x ∷ w) (suc n) m e = inr (on_wire_at w n m e)

-- and so does a number that is given
pub on_wire : (w : List Envelope) (n : ℕ) (m : Envelope) → envelope_at w n ≡ Some m → IsOnWire w m
on_wire w zero m e = absurd (cc)
on_wire w (suc n) m e = on_wire_at w n m e

-- a host that is up has a place in each table
pub within_table : (xs : List Bool) (v : ℕ) → slice_index_or xs v false ≡ true → v < length xs
within_table [] v e = absurd (cc)
within_table (x ∷ xs) zero e = omega arith
within_table (x ∷ xs) (suc v) e = let m = within_table xs v e in omega (arith, m)

module _ {g : Group} {v : ℕ} (tables : HasTables g) (within : v < 10) (voters : is_member g 0 ≡ false) where
  -- after a row what may go on the wire goes, after the envelopes of a batch, and the group keeps the invariant
  pub settle : {h : History} {b : SavedState} (before : List Envelope) (w : Row) → Open h g v b w.replica (continued g.decided w.replica) (g.wire ++ before)
      → Kept (moved (record g { saves = slice_set g.saves v b }) v (released before w).replica (released before w).sent)
  settle {h} {b} before w o =
      let r = w.replica in
      let d = continued g.decided r in
      elim (may_release r) as (λ x. may_release r ≡ x →
      (let s : Step = if x then record { replica = record r { held = [] }; notes = w.notes; sent = before ++ r.held } else record { replica = r; notes = w.notes; sent = before } in
      Kept (moved (record g { saves = slice_set g.saves v b }) v s.replica s.sent))) [
        | true ↦ λ e.
            let k = release_step o e in
            record {
              history = with_levels v (h.told v) (h.told v) h;
              holds = subst (λ x. Inv (with_levels v (h.told v) (h.told v) h) (closed g v b (record r { held = [] }) d x)) (append_assoc g.wire before r.held)
                  (inv_closed tables within voters k);
            }
        | false ↦ λ e. record { history = h; holds = inv_closed tables within voters o }
      ] refl

  -- so it is after a row with which nothing was saved
  pub settle_row : (w : Row) → Reached g v (saved_at g v) g.decided g.wire w.replica → Kept (stepped g v (released [] w)).group
  settle_row w x =
      subst (λ s. Kept (moved (record g { saves = s }) v (released [] w).replica (released [] w).sent)) (set-get_or g.saves v nothing_saved)
      (settle [] w (subst (λ xs. Open x.history g v (saved_at g v) w.replica (continued g.decided w.replica) xs) (sym (append-nil g.wire)) x.holds))
