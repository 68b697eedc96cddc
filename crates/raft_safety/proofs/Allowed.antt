-- What the tests on events tell: an event that is allowed is so in the words of the proofs.
use Rattle.std.proofs.Common.{◌≡◌, ⊎_elim, ℕ, List, [], ◌∷◌, length, Bool, true, false, refl, sym, ap, ◌∙◌, subst, inl, inr, Option, Some, None, ◌==◌, ◌&&◌}
use Rattle.std.specs.Prelude.{nat_le, nat_eq}
use Rattle.std.specs.Cmp.Lexicographic.{pointwise}
use Rattle.std.proofs.lemmas.Bool.{and_parts, and_from, or_cases, eqb-true, leb-true}
use Rattle.host_ids.specs.declared.entry.Entry.{Entry}
use Rattle.host_ids.specs.declared.entry.Key.{Key}
use Rattle.host_ids.specs.declared.proposal.Proposal.{Proposal}
use Rattle.host_ids.specs.declared.proposal.Proposal.TheVariants.{Blank, Plain, Session, Register, Close}
use Rattle.log_view.specs.Log.{term_at}
use Rattle.raft_model.specs.declared.durable.Durable.{Durable}
use Rattle.raft_model.specs.declared.event.LaneEvent.{LaneEvent}
use Rattle.raft_model.specs.declared.saved.SavedState.{SavedState}
use Rattle.raft_model.specs.declared.state.Inbox.{Inbox}
use Rattle.raft_model.specs.declared.state.Pending.{Pending}
use Rattle.raft_model.specs.Restarting.{state_of, begun_log, beginning, is_fit}
use Rattle.raft_model.specs.Group.{Group, replica_at, saved_at, merged, is_decided, is_named, term_of, act}
use Rattle.raft_model.specs.Allowed.{same_key, same_text, same_proposal, same_entry, same_state, is_left_whole, is_left, is_allowed_start, is_allowed, are_allowed}
use Rattle.raft_safety.specs.Events.{IsAllowed, AreAllowed, IsLeft, IsAllowedStart, IsNamed}

-- keys that the test calls the same are the same
same_keys : (a b : Key) → same_key a b ≡ true → a ≡ b
same_keys a b e =
    let p = and_parts ((a.host == b.host) && (a.start == b.start)) (a.serial == b.serial) e in
    let q = and_parts (a.host == b.host) (a.start == b.start) p.0 in
    ap (λ x. record a { host = x }) (eqb-true a.host b.host q.0) ∙ ap (λ x. record a { host = b.host; start = x }) (eqb-true a.start b.start q.1)
    ∙ ap (λ x. record b { serial = x }) (eqb-true a.serial b.serial p.1)

-- so are lists, item by item, where the test of items tells that
same_items : {X : Type 0} (test : X → X → Bool) → ((x y : X) → test x y ≡ true → x ≡ y) → (xs ys : List X) → pointwise test xs ys ≡ true → xs ≡ ys
same_items test same [] [] e = refl
same_items test same [] (y ∷ ys) e = absurd (cc)
same_items test same (x ∷ xs) [] e = absurd (cc)
same_items test same (x ∷ xs) (y ∷ ys) e =
    let p = and_parts (test x y) (pointwise test xs ys) e in
    ap (λ z. z ∷ xs) (same x y p.0) ∙ ap (λ zs. y ∷ zs) (same_items test same xs ys p.1)

-- so are texts
same_texts : (a b : List ℕ) → same_text a b ≡ true → a ≡ b
same_texts a b e = same_items nat_eq (λ x y k. eqb-true x y k) a b e

-- so are proposals
same_proposals : (a b : Proposal) → same_proposal a b ≡ true → a ≡ b
same_proposals Blank Blank e = refl
same_proposals (Plain c) (Plain d) e = ap (λ x. Plain x) (same_texts c d e)
same_proposals (Session l s r c) (Session m t q d) e =
    let x = and_parts ((l == m) && (s == t) && (r == q)) (same_text c d) e in
    let y = and_parts ((l == m) && (s == t)) (r == q) x.0 in
    let z = and_parts (l == m) (s == t) y.0 in
    ap (λ n. Session n s r c) (eqb-true l m z.0) ∙ ap (λ n. Session m n r c) (eqb-true s t z.1) ∙ ap (λ n. Session m t n c) (eqb-true r q y.1)
    ∙ ap (λ n. Session m t q n) (same_texts c d x.1)
same_proposals (Register l) (Register m) e = ap (λ x. Register x) (eqb-true l m e)
same_proposals (Close l) (Close m) e = ap (λ x. Close x) (eqb-true l m e)
same_proposals a b e = absurd (cc)

-- so are entries
same_entries : (a b : Entry) → same_entry a b ≡ true → a ≡ b
same_entries a b e =
    let p = and_parts ((a.index == b.index) && (a.term == b.term) && same_key a.key b.key) (same_proposal a.proposal b.proposal) e in
    let q = and_parts ((a.index == b.index) && (a.term == b.term)) (same_key a.key b.key) p.0 in
    let t = and_parts (a.index == b.index) (a.term == b.term) q.0 in
    ap (λ x. record a { index = x }) (eqb-true a.index b.index t.0) ∙ ap (λ x. record a { index = b.index; term = x }) (eqb-true a.term b.term t.1)
    ∙ ap (λ x. record b { key = x; proposal = a.proposal }) (same_keys a.key b.key q.1) ∙ ap (λ x. record b { proposal = x }) (same_proposals a.proposal b.proposal p.1)

-- and so is what is saved
same_states : (a b : SavedState) → same_state a b ≡ true → a ≡ b
same_states a b e =
    let p = and_parts ((a.term == b.term) && (a.vote == b.vote) && (a.commit == b.commit) && (a.front == b.front) && (a.front_term == b.front_term)) (pointwise same_entry a.entries b.entries) e in
    let q = and_parts ((a.term == b.term) && (a.vote == b.vote) && (a.commit == b.commit) && (a.front == b.front)) (a.front_term == b.front_term) p.0 in
    let s = and_parts ((a.term == b.term) && (a.vote == b.vote) && (a.commit == b.commit)) (a.front == b.front) q.0 in
    let t = and_parts ((a.term == b.term) && (a.vote == b.vote)) (a.commit == b.commit) s.0 in
    let z = and_parts (a.term == b.term) (a.vote == b.vote) t.0 in
    ap (λ x. record a { term = x }) (eqb-true a.term b.term z.0)
    ∙ ap (λ x. record a { term = b.term; vote = x }) (eqb-true a.vote b.vote z.1)
    ∙ ap (λ x. record a { term = b.term; vote = b.vote; commit = x }) (eqb-true a.commit b.commit t.1)
    ∙ ap (λ x. record b { front = x; front_term = a.front_term; entries = a.entries }) (eqb-true a.front b.front s.1)
    ∙ ap (λ x. record b { front_term = x; entries = a.entries }) (eqb-true a.front_term b.front_term q.1)
    ∙ ap (λ x. record b { entries = x }) (same_items same_entry same_entries a.entries b.entries p.1)

-- what the test calls left is what a crash may leave
left_of : (g : Group) (v : ℕ) (b : SavedState) → is_left g v b ≡ true → IsLeft g v b
left_of g v b e = ⊎_elim
    (λ same. subst (IsLeft g v) (same_states (saved_at g v) b same) (inl refl))
    (λ more. inr (whole (replica_at g v).pending refl more))
    (or_cases (same_state (saved_at g v) b) (is_left_whole g v b) e)
  where
    whole : (x : Option Pending) → (replica_at g v).pending ≡ x → (elim x as (λ _. Bool) [ None ↦ false | Some p ↦ same_state (merged (saved_at g v) p.batch) b ]) ≡ true
        → (p : Pending) × ((replica_at g v).pending ≡ Some p) × (b ≡ merged (saved_at g v) p.batch)
    whole None is e = absurd (cc)
    whole (Some p) is e = (p, is, sym (same_states (merged (saved_at g v) p.batch) b e))

-- a start that the test allows is allowed
pub start_of : (g : Group) (v : ℕ) (s : Durable) → is_allowed_start g v s ≡ true → IsAllowedStart g v s
start_of g v s e =
    let left = is_left g v (state_of s.batch) in
    let mark = is_decided g.decided s.mark s.mark_term in
    let machine = nat_le s.machine (length g.decided) in
    let begins = term_at (begun_log s) (beginning s) == term_of g.decided (beginning s) in
    let p = and_parts (left && mark && machine && begins) (is_fit s) e in
    let q = and_parts (left && mark && machine) begins p.0 in
    let t = and_parts (left && mark) machine q.0 in
    let z = and_parts left mark t.0 in
    record {
      left = left_of g v (state_of s.batch) z.0;
      mark = z.1;
      machine = leb-true s.machine (length g.decided) t.1;
      begins = eqb-true (term_at (begun_log s) (beginning s)) (term_of g.decided (beginning s)) q.1;
      fit = p.1;
    }

-- so is an install
pub named_of : (g : Group) (v i t : ℕ) → is_named g v i t ≡ true → IsNamed g v i t
named_of g v i t e = received (replica_at g v).inbox refl e
  where
    received : (x : Option Inbox) → (replica_at g v).inbox ≡ x → (elim x as (λ _. Bool) [ None ↦ false | Some b ↦ (b.received.index == i) && (b.received.term == t) ]) ≡ true → IsNamed g v i t
    received None is e = absurd (cc)
    received (Some b) is e =
        let p = and_parts (b.received.index == i) (b.received.term == t) e in
        record { snapshot = b; inbox = is; index = eqb-true b.received.index i p.0; term = eqb-true b.received.term t p.1 }

-- of events that are allowed the first one is, and then the rest
pub parts_of : (e : LaneEvent) (es : List LaneEvent) (g : Group) → AreAllowed g (e ∷ es) → IsAllowed g e × AreAllowed (act e g).group es
parts_of e es g all = and_parts (is_allowed g e) (are_allowed (act e g).group es) all

-- and the other way round
pub all_of : (e : LaneEvent) (es : List LaneEvent) (g : Group) → IsAllowed g e → AreAllowed (act e g).group es → AreAllowed g (e ∷ es)
all_of e es g one all = and_from (is_allowed g e) (are_allowed (act e g).group es) one all
