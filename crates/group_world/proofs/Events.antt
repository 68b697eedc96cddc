-- What the events make of the group.
use Rattle.std.proofs.Common.{◌≡◌, ◌≤◌, ◌<◌, ℕ, zero, suc, List, [], ◌∷◌, true, false, refl, arith, sym, length, if◌then◌else◌, Option, Some, None}
use Rattle.std.proofs.lemmas.List.{append-nil}
use Rattle.std.proofs.lemmas.Bool.Decides.{nat_tests}
use Rattle.std.specs.Prelude.{not, ◌==◌, ◌||◌, slice_index_or, slice_set}
use Rattle.std.specs.Option.{option_map}
use Rattle.std.specs.List.{All, list_any}
use Rattle.host_ids.specs.declared.batch.Batch.{Batch}
use Rattle.host_ids.specs.declared.entry.Entry.{Entry}
use Rattle.raft_model.specs.declared.event.LaneFault.TheVariants as faults
use Rattle.raft_model.specs.declared.note.Note.TheVariants as notes
use Rattle.raft_model.specs.declared.state.State.{State}
use Rattle.raft_model.specs.Saving.{may_give, batch_of, gave_batch}
use Rattle.raft_model.specs.Step.{ready, after_ready}
use Rattle.raft_model.specs.Group.{Group, Acted, replica_at, continued, moved, did, readies, is_member, is_up, at_up, refuses}
use Rattle.raft_model.specs.Given.{host_refusal}
use Rattle.group_world.specs.Events.{batch_notes}
use Rattle.group_world.specs.declared.members.Members.{Members}
use Rattle.group_world.specs.Members.{group_of, Sound}

-- ---- tables

pub any_default : {A : Type 0} (xs : List A) (h : ℕ) (d e : A) → h < length xs → slice_index_or xs h d ≡ slice_index_or xs h e
any_default [] h d e l = absurd (omega (arith, l))
any_default (x ∷ xs) zero d e l = refl
any_default (x ∷ xs) (suc h) d e l = any_default xs h d e (omega (arith, l))

-- ---- who may act

pub acts : (g : Group) (h : ℕ) (a : Acted) → host_refusal g h ≡ None → at_up g h a ≡ a
acts g h a e =
    elim (is_member g h) as (λ b. (if not b then Some faults.NotMember else (if is_up g h then None else Some faults.IsDown)) ≡ None → (if not b then refuses g faults.NotMember else (if is_up g h then a else refuses g faults.IsDown)) ≡ a) [
      | true ↦ elim (is_up g h) as (λ b. (if b then None else Some faults.IsDown) ≡ None → (if b then a else refuses g faults.IsDown) ≡ a) [ true ↦ λ _. refl | false ↦ λ k. absurd (cc k) ]
      | false ↦ λ k. absurd (cc k)
    ]
    e

pub member : (g : Group) (h : ℕ) → host_refusal g h ≡ None → is_member g h ≡ true
member g h e = elim (is_member g h) as (λ b. (if not b then Some faults.NotMember else (if is_up g h then None else Some faults.IsDown)) ≡ None → b ≡ true) [ true ↦ λ _. refl | false ↦ λ k. absurd (cc k) ] e

-- ---- Ready

pub ready_group : (g : Group) (h : ℕ) (states : List State) (decided : List Entry)
    → states ≡ slice_set g.replicas h (after_ready (replica_at g h))
    → decided ≡ continued g.decided (after_ready (replica_at g h))
    → record g { replicas = states; decided = decided } ≡ (readies g h).group
ready_group g h states decided =
    let r = replica_at g h in
    elim (may_give r) as
    (λ b.
    let batch : Option Batch = if b then Some (batch_of r) else None in
    let after : State = if b then gave_batch r else r in
    let acted : Acted = elim batch as (λ _. Acted) [ None ↦ did (moved g h r []) (notes.Idle ∷ []) | Some x ↦ did (moved g h after []) (notes.Pending h x.id ∷ []) ] in
    states ≡ slice_set g.replicas h after → decided ≡ continued g.decided after → record g { replicas = states; decided = decided } ≡ acted.group) [
      | true ↦ λ a c. λ i. record g { replicas = a i; wire = sym (append-nil g.wire) i; decided = c i }
      | false ↦ λ a c. λ i. record g { replicas = a i; wire = sym (append-nil g.wire) i; decided = c i }
    ]

pub ready_notes : (g : Group) (h : ℕ) → batch_notes h (option_map (λ b. b.id) (ready (replica_at g h))) ≡ (readies g h).notes
ready_notes g h =
    let r = replica_at g h in
    elim (may_give r) as
    (λ b.
    let batch : Option Batch = if b then Some (batch_of r) else None in
    let after : State = if b then gave_batch r else r in
    let acted : Acted = elim batch as (λ _. Acted) [ None ↦ did (moved g h r []) (notes.Idle ∷ []) | Some x ↦ did (moved g h after []) (notes.Pending h x.id ∷ []) ] in
    batch_notes h (option_map (λ b. b.id) batch) ≡ acted.notes)
    [ true ↦ refl | false ↦ refl ]

-- ---- voters are hosts

in_range : (voters : List ℕ) (h : ℕ) → list_any (λ v. v == h) voters ≡ true → All (λ v. (1 ≤ v) × (v ≤ 9)) voters → (1 ≤ h) × (h ≤ 9)
in_range [] h e a = absurd (cc e)
in_range (v ∷ vs) h e a =
    elim (v == h) as (λ b. (v == h) ≡ b → (b || list_any (λ v. v == h) vs) ≡ true → (1 ≤ h) × (h ≤ 9)) [
      | true ↦ λ k _. (let x : v ≡ h = grind (arith, nat_tests) in let y = a 0 0 (omega arith) in (omega (arith, x, y.0), omega (arith, x, y.1)))
      | false ↦ λ _ k. in_range vs h k (λ i d l. a (suc i) d (omega (arith, l)))
    ]
    refl e

pub host_in : (g : Group) (h : ℕ) → host_refusal g h ≡ None → All (λ v. (1 ≤ v) × (v ≤ 9)) g.voters → (1 ≤ h) × (h ≤ 9)
host_in g h e a = in_range g.voters h (member g h e) a

-- the host of an event that isn't refused is one
pub is_host : (w : Members) (h : ℕ) → Sound w → host_refusal (group_of w) h ≡ None → (1 ≤ h) × (h ≤ 9)
is_host w h s e = host_in (group_of w) h e s.hosts

-- hosts from 1 on are none of them 0
pub none_zero : (voters : List ℕ) → All (λ v. (1 ≤ v) × (v ≤ 9)) voters → list_any (λ v. v == 0) voters ≡ false
none_zero voters a =
    elim (list_any (λ v. v == 0) voters) as (λ b. list_any (λ v. v == 0) voters ≡ b → b ≡ false)
    [ true ↦ λ e. absurd (let x = in_range voters 0 e a in omega (arith, x.0)) | false ↦ λ e. refl ] refl
