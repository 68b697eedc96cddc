-- A group at work on one host: the invariant with that host's saved state and replica, the decided list and the wire taken out of the group, so that an event is a list of small steps.
use Rattle.std.proofs.Common.{◌≡◌, ◌≢◌, ◌⊎◌, ⊎_elim, ℕ, ◌+◌, ◌<◌, List, ◌++◌, false, refl, sym, ◌∙◌, subst, arith, inl, inr}
use Rattle.std.specs.Prelude.{slice_set}
use Rattle.std.proofs.lemmas.Bool.{cases_eq}
use Rattle.std.proofs.lemmas.List.{get_or-set_same, get_or-set_other, length-set, set-get_or}
use Rattle.host_ids.specs.declared.entry.Entry.{Entry}
use Rattle.raft_model.specs.declared.saved.SavedState.{SavedState}
use Rattle.wire_types.specs.declared.envelope.Envelope.{Envelope}
use Rattle.raft_model.specs.declared.state.State.{State as Replica}
use Rattle.raft_model.specs.Replica.{fresh}
use Rattle.raft_model.specs.Group.{Group, replica_at, saved_at, nothing_saved, is_member, moved, continued}
use Rattle.raft_safety.specs.History.{History}
use Rattle.raft_safety.specs.Replicas.{IsSecured}
use Rattle.raft_safety.specs.Invariant.{Common, IsHost, IsTold, IsOnWire, HasAnswer, HasTables, Secured, Inv, Kept}
use Rattle.raft_safety.proofs.Frame.Extends.{extends_none}
use Rattle.raft_safety.proofs.Frame.Growth.{Grows, vote_grown}
use Rattle.raft_safety.proofs.Frame.Common.{Adds, common_grown}
use Rattle.raft_safety.proofs.Frame.Hosts.{host_grown, told_grown}

-- what is secured where this is what host v has saved
abbrev pub SecuredBut : Group → ℕ → SavedState → ℕ → ℕ → ℕ → Type 0
SecuredBut g v b u t c = ((u ≡ v) × IsSecured b.term b.vote t c) ⊎ ((u ≢ v) × Secured g u t c)

-- a group at work on host v: the invariant of the group in which v has saved b and stands as r, the decided list is d and the wire is w
pub record Open (h : History) (g : Group) (v : ℕ) (b : SavedState) (r : Replica) (d : List Entry) (w : List Envelope) : Type 0 where
  pub common : Common g.voters h d (SecuredBut g v b)
  pub mine : IsHost h d (SecuredBut g v b) (HasAnswer w) v b r
  pub others : (u : ℕ) → u ≢ v → IsHost h d (SecuredBut g v b) (HasAnswer w) u (saved_at g u) (replica_at g u)
  pub sent : (m : Envelope) → IsOnWire w m → m.from ≡ v → IsTold h d (HasAnswer w) m b r
  pub wire : (m : Envelope) → IsOnWire w m → m.from ≢ v → IsTold h d (HasAnswer w) m (saved_at g m.from) (replica_at g m.from)

-- what a step at host v owes: growth, what it adds to the common sentences, its own host, and its own envelopes
pub record Changes (g : Group) (v : ℕ) (h k : History) (b c : SavedState) (r q : Replica) (d e : List Entry) (w x : List Envelope) : Type 0 where
  pub grows : Grows v h k d e (SecuredBut g v b) (SecuredBut g v c) (HasAnswer w) (HasAnswer x)
  pub adds : Adds g.voters v h k d e (SecuredBut g v c)
  pub mine : IsHost k e (SecuredBut g v c) (HasAnswer x) v c q
  pub told : (m : Envelope) → IsOnWire w m → m.from ≡ v → IsTold h d (HasAnswer w) m b r → IsTold k e (HasAnswer x) m c q
  pub sent : (m : Envelope) → IsOnWire x m → IsOnWire w m ⊎ ((m.from ≡ v) × IsTold k e (HasAnswer x) m c q)

-- the frame: a step at one host that pays what it owes keeps everything, of all hosts
pub frame : {g : Group} {v : ℕ} {h k : History} {b c : SavedState} {r q : Replica} {d e : List Entry} {w x : List Envelope} → Open h g v b r d w → Changes g v h k b c r q d e w x → Open k g v c q e x
frame {g} {v} {h} {k} {b} {c} {d} {e} {w} {x} o s = record {
  common = common_grown o.common s.grows s.adds;
  mine = s.mine;
  others = λ u other. host_grown o.common s.grows other (o.others u other);
  sent = λ m on from. ⊎_elim (λ old. s.told m old from (o.sent m old from)) (λ new. new.1) (s.sent m on);
  wire = λ m on other. ⊎_elim
      (λ old. told_grown o.common s.grows other (o.others m.from other) (o.wire m old other))
      (λ new. absurd (other new.0))
      (s.sent m on);
}

-- the step that changes nothing, but for what is secured and answered
pub grows_none : (v : ℕ) (h : History) (d : List Entry) (Sec SecNow Ans AnsNow : ℕ → ℕ → ℕ → Type 0) → ((u t c : ℕ) → Sec u t c → SecNow u t c) → ((u t n : ℕ) → Ans u t n → AnsNow u t n)
    → Grows v h h d d Sec SecNow Ans AnsNow
grows_none v h d Sec SecNow Ans AnsNow secured heard = record {
  decided = record { left = omega arith; right = omega arith; same = refl };
  votes = λ u t c some s e. e;
  new_votes = λ u t c some e. inl e;
  campaigns = λ u t c some e. (refl, refl);
  forward = λ R led. record { reign = R; led = led; extends = extends_none R };
  back = λ S led. inl (record { reign = S; led = led; extends = extends_none S });
  others = λ R led o. led;
  told = λ u t o. refl;
  saving = λ u t o. refl;
  answer = λ u t o. refl;
  new_told = λ n t m. inl m;
  new_answer = λ t. omega arith;
  decided_in = λ n m. omega arith;
  secured = λ u t c some s. secured u t c s;
  heard = heard;
}

-- it adds nothing to the common sentences
pub adds_none : {voters : List ℕ} {v : ℕ} {h : History} {d : List Entry} {Sec SecNow Ans AnsNow : ℕ → ℕ → ℕ → Type 0} → Common voters h d Sec → Grows v h h d d Sec SecNow Ans AnsNow
    → Adds voters v h h d d SecNow
adds_none {voters} {v} {h} {d} {Sec} {SecNow} {Ans} {AnsNow} i g = record {
  reigns = λ S led new. absurd (new.unled S led refl);
  later = i.later;
  decided = λ n a b. absurd (omega (arith, a, b));
  lowered = λ n a b. inl (refl, refl);
  strict = λ n a b. absurd (omega (arith, a, b));
  votes = λ t c some voted last. vote_grown i g some voted (i.votes v t c some voted);
  campaigns = λ t c. inl (refl, refl);
  levels = i.levels v;
  bounded = i.bounded v;
}

module _ {h : History} {voters : List ℕ} {d : List Entry} {Sec : ℕ → ℕ → ℕ → Type 0} (SecNow Ans AnsNow : ℕ → ℕ → ℕ → Type 0) (secured : (u t c : ℕ) → Sec u t c → SecNow u t c)
    (heard : (u t n : ℕ) → Ans u t n → AnsNow u t n) (i : Common voters h d Sec) where
  -- the common sentences stay where more is secured and answered
  common_same : Common voters h d SecNow
  common_same = let g = grows_none 0 h d Sec SecNow Ans AnsNow secured heard in common_grown i g (adds_none i g)

  -- and so do those on a host
  host_same : (u : ℕ) (b : SavedState) (r : Replica) → IsHost h d Sec Ans u b r → IsHost h d SecNow AnsNow u b r
  host_same u b r q = host_grown i (grows_none (u + 1) h d Sec SecNow Ans AnsNow secured heard) (λ e. omega (arith, e)) q

module _ {h : History} {g : Group} (i : Inv h g) (v : ℕ) where
  -- what is secured in the group is secured with host v taken out
  but_is : (u t c : ℕ) → Secured g u t c → SecuredBut g v (saved_at g v) u t c
  but_is u t c s = ⊎_elim (λ e. inl (e, subst (λ w. Secured g w t c) e s)) (λ o. inr (o, s)) (cases_eq u v)

  -- a group with the invariant is opened at any host
  pub opened : Open h g v (saved_at g v) (replica_at g v) g.decided g.wire
  opened =
      let S = SecuredBut g v (saved_at g v) in
      let A = HasAnswer g.wire in
      let host = host_same S A A but_is (λ u t n a. a) i.common in
      record {
        common = common_same S A A but_is (λ u t n a. a) i.common;
        mine = host v (saved_at g v) (replica_at g v) (i.hosts v);
        others = λ u o. host u (saved_at g u) (replica_at g u) (i.hosts u);
        sent = λ m on e. subst (λ u. IsTold h g.decided A m (saved_at g u) (replica_at g u)) e (i.wire m on);
        wire = λ m on o. i.wire m on;
      }

-- the group with the host, the decided list and the wire put back
abbrev pub closed : Group → ℕ → SavedState → Replica → List Entry → List Envelope → Group
closed g v b r d w = record g { replicas = slice_set g.replicas v r; saves = slice_set g.saves v b; decided = d; wire = w }

module _ {h : History} {g : Group} {v : ℕ} {b : SavedState} {r : Replica} {d : List Entry} {w : List Envelope} (tables : HasTables g) (within : v < 10) (voters : is_member g 0 ≡ false)
    (o : Open h g v b r d w) where
  -- in it host v has saved this state
  saved_mine : saved_at (closed g v b r d w) v ≡ b
  saved_mine = get_or-set_same g.saves v b nothing_saved (omega (arith, within, tables.saves))

  -- and another host what it had
  saved_other : (u : ℕ) → u ≢ v → saved_at (closed g v b r d w) u ≡ saved_at g u
  saved_other u o = get_or-set_other g.saves v u b nothing_saved o

  -- host v stands as the replica
  stands_mine : replica_at (closed g v b r d w) v ≡ r
  stands_mine = get_or-set_same g.replicas v r fresh (omega (arith, within, tables.replicas))

  -- and another host as it stood
  stands_other : (u : ℕ) → u ≢ v → replica_at (closed g v b r d w) u ≡ replica_at g u
  stands_other u o = get_or-set_other g.replicas v u r fresh o

  -- what was secured with host v taken out is secured in it
  is_closed : (u t c : ℕ) → SecuredBut g v b u t c → Secured (closed g v b r d w) u t c
  is_closed u t c s = ⊎_elim
      (λ m. subst (λ x. Secured (closed g v b r d w) x t c) (sym m.0) (subst (λ x. IsSecured x.term x.vote t c) (sym saved_mine) m.1))
      (λ m. subst (λ x. IsSecured x.term x.vote t c) (sym (saved_other u m.0)) m.1)
      s

  -- a group at work on a host is closed again: the invariant holds of it
  pub inv_closed : Inv h (closed g v b r d w)
  inv_closed =
      let S = Secured (closed g v b r d w) in
      let A = HasAnswer w in
      let host = host_same S A A is_closed (λ u t n a. a) o.common in
      record {
        tables = record { replicas = length-set g.replicas v r ∙ tables.replicas; saves = length-set g.saves v b ∙ tables.saves; up = tables.up };
        voters = voters;
        common = common_same S A A is_closed (λ u t n a. a) o.common;
        hosts = λ u. ⊎_elim
            (λ e. subst (λ x. IsHost h d S A x (saved_at (closed g v b r d w) x) (replica_at (closed g v b r d w) x)) (sym e)
            (subst (λ x. IsHost h d S A v x (replica_at (closed g v b r d w) v)) (sym saved_mine) (subst (λ x. IsHost h d S A v b x) (sym stands_mine) (host v b r o.mine))))
            (λ n. subst (λ x. IsHost h d S A u x (replica_at (closed g v b r d w) u)) (sym (saved_other u n))
            (subst (λ x. IsHost h d S A u (saved_at g u) x) (sym (stands_other u n)) (host u (saved_at g u) (replica_at g u) (o.others u n))))
            (cases_eq u v);
        wire = λ m on. ⊎_elim
            (λ e. subst (λ x. IsTold h d A m (saved_at (closed g v b r d w) x) (replica_at (closed g v b r d w) x)) (sym e)
            (subst (λ x. IsTold h d A m x (replica_at (closed g v b r d w) v)) (sym saved_mine) (subst (λ x. IsTold h d A m b x) (sym stands_mine) (o.sent m on e))))
            (λ n. subst (λ x. IsTold h d A m x (replica_at (closed g v b r d w) m.from)) (sym (saved_other m.from n))
            (subst (λ x. IsTold h d A m (saved_at g m.from) x) (sym (stands_other m.from n)) (o.wire m on n)))
            (cases_eq m.from v);
      }

-- so it is where the host has saved nothing new, and the decided list goes on by its replica
pub inv_moved : {h : History} {g : Group} {v : ℕ} {r : Replica} (es : List Envelope) → HasTables g → v < 10 → is_member g 0 ≡ false
    → Open h g v (saved_at g v) r (continued g.decided r) (g.wire ++ es) → Kept (moved g v r es)
inv_moved {h} {g} {v} {r} es tables within voters o =
    record {
      history = h;
      holds = subst (λ xs. Inv h (record g { replicas = slice_set g.replicas v r; saves = xs; decided = continued g.decided r; wire = g.wire ++ es }))
          (set-get_or g.saves v nothing_saved) (inv_closed tables within voters o);
    }
