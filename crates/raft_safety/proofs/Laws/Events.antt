-- Every event that is allowed keeps the invariant, where each row of the step table keeps what it owes.
use Rattle.std.proofs.Common.{◌≡◌, ◌≢◌, ℕ, ◌<◌, List, [], length, true, false, refl, sym, subst, arith, Option, Some, None}
use Rattle.std.proofs.lemmas.List.{append-nil}
use Rattle.host_ids.specs.declared.entry.Key.{Key}
use Rattle.std.specs.BTreeMap.{insert_entry}
use Rattle.host_ids.specs.declared.entry.Entry.{Entry}
use Rattle.raft_model.specs.declared.saved.SavedState.{SavedState}
use Rattle.wire_types.specs.declared.envelope.Envelope.{Envelope}
use Rattle.wire_types.specs.declared.envelope.Body.{Body}
use Rattle.wire_types.specs.declared.envelope.Body.TheVariants as bodies
use Rattle.raft_model.specs.declared.event.LaneEvent.TheVariants as events
use Rattle.raft_model.specs.declared.state.State.{State as Replica}
use Rattle.raft_model.specs.Replica.{Row}
use Rattle.raft_model.specs.Saving.{gave_batch, saved_batch}
use Rattle.raft_model.specs.Step.{row, on_body, released}
use Rattle.raft_model.specs.Group.{Group, Acted, replica_at, saved_at, is_member, key_order, envelope_at, seat, continued, moved, stepped, act}
use Rattle.raft_model.specs.Group.{at_up, delivers, noted_ask, readies, saves_id, compacts}
use Rattle.raft_safety.specs.Invariant.{IsOnWire, Kept}
use Rattle.raft_safety.specs.Agreed.{StaysKept}
use Rattle.raft_safety.specs.History.{History}
use Rattle.raft_safety.proofs.Frame.Opened.{Open, opened, inv_moved}
use Rattle.raft_safety.proofs.Frame.Settle.{Reached, reached, settle, settle_row, within_table, on_wire}
use Rattle.raft_safety.proofs.Laws.Cases.{at_up_cases, readies_cases, saves_id_cases, compacts_cases, noted_ask_cases}
use Rattle.raft_safety.proofs.Laws.Owed.{EachOpen, Rows}
use Rattle.raft_safety.proofs.Crashes.Restart.{turned_kept, restart_kept}
use Rattle.raft_safety.proofs.Allowed.{start_of, named_of}

-- the invariant says nothing of what was asked
pub kept_asks : {g : Group} (asks : List (Key × ℕ)) → Kept g → Kept (record g { asks = asks })
kept_asks asks k =
    let i = k.holds in
    let tables = i.tables in
    record {
      history = k.history;
      holds = record { tables = record { replicas = tables.replicas; saves = tables.saves; up = tables.up }; voters = i.voters; common = i.common; hosts = i.hosts; wire = i.wire };
    }

-- so a read may be noted as asked
asked_kept : {g : Group} (key : Key) → Kept g → Kept (noted_ask g key)
asked_kept {g} key k = noted_ask_cases g key Kept (λ _. k) (λ _. kept_asks (insert_entry key_order g.asks key (length g.decided)) k)

-- an event at a host keeps the invariant if it does where the host is up; such a host isn't 0 and has a place in each table
at_up_kept : {g : Group} (v : ℕ) (a : Acted) → Kept g → (v ≢ 0 → v < 10 → Kept a.group) → Kept (at_up g v a).group
at_up_kept {g} v a k next = at_up_cases g v (λ b. Kept b.group) (λ f. k) a (λ member up. let m = within_table g.up v up in next (not_0 member) (omega (arith, m, k.holds.tables.up)))
  where
    not_0 : is_member g v ≡ true → v ≢ 0
    not_0 member z = let t : is_member g 0 ≡ true = subst (λ n. is_member g n ≡ true) z member in let f = k.holds.voters in absurd (cc)

-- what a row owes holds at a host of a group that has the invariant
at_host : {g : Group} {P : Group → ℕ → History → SavedState → Replica → List Entry → List Envelope → Type 0} (v : ℕ) (k : Kept g) → v ≢ 0 → EachOpen P
    → P g v k.history (saved_at g v) (replica_at g v) g.decided g.wire
at_host {g} v k some row = row g v k.history (saved_at g v) (replica_at g v) g.decided g.wire some (opened k.holds v)

-- an input keeps the invariant where its row keeps what it owes
input_kept : {g : Group} (v : ℕ) (w : Row) → Kept g → (v ≢ 0 → Reached g v (saved_at g v) g.decided g.wire w.replica) → Kept (at_up g v (stepped g v (released [] w))).group
input_kept v w k row = at_up_kept v _ k (λ some within. settle_row k.holds.tables within k.holds.voters w (row some))

module _ (rows : Rows) where
  module _ {g : Group} (v : ℕ) (k : Kept g) where
    -- the row that an envelope on the wire meets keeps what it owes, whatever the envelope's kind
    body_row : v ≢ 0 → (m : Envelope) → m.to ≡ v → IsOnWire g.wire m → (body : Body) → m.body ≡ body
        → Reached g v (saved_at g v) g.decided g.wire (on_body (seat g v) m.from m.term body (replica_at g v)).replica
    body_row some m to on (bodies.Vote l lt) e = at_host v k some (rows.vote m l lt e) to on
    body_row some m to on (bodies.VoteReply granted) e = at_host v k some (rows.vote_reply m granted e) to on
    body_row some m to on (bodies.Append prev pt c es) e = at_host v k some (rows.append m prev pt c es e) to on
    body_row some m to on (bodies.AppendReply ok i) e = at_host v k some (rows.append_reply m ok i e) to on
    body_row some m to on (bodies.Beat c round) e = at_host v k some (rows.beat m c round e) to on
    body_row some m to on (bodies.BeatReply round) e = at_host v k some (rows.beat_reply m round) to on
    body_row some m to on (bodies.SnapChunk index lt number count size bytes) e = at_host v k some (rows.chunk m index lt number count size bytes e) to on
    body_row some m to on (bodies.SnapReply i want all) e = at_host v k some (rows.snap_reply m i want all e) to on
    body_row some m to on (bodies.Propose key p) e = at_host v k some (rows.propose key p)
    body_row some m to on (bodies.ReadAsk key) e = at_host v k some (rows.read_ask m.from key)
    body_row some m to on (bodies.ReadAnswer key i) e = reached (opened k.holds v)

    -- a replica that is put in keeps the invariant where it has what a row leaves
    put_kept : (q : Replica) → v < 10 → Reached g v (saved_at g v) g.decided g.wire q → Kept (moved g v q [])
    put_kept q within x =
        inv_moved [] k.holds.tables within k.holds.voters (subst (λ w. Open x.history g v (saved_at g v) q (continued g.decided q) w) (sym (append-nil g.wire)) x.holds)

    -- Ready keeps the invariant
    ready_kept : Kept (at_up g v (readies g v)).group
    ready_kept = at_up_kept v _ k (λ some within. readies_cases g v (λ a. Kept a.group)
        (put_kept (replica_at g v) within (reached (opened k.holds v)))
        (λ gives. put_kept (gave_batch (replica_at g v)) within (at_host v k some rows.ready gives)))

    -- Saved keeps the invariant
    saved_kept : (id : ℕ) → Kept (at_up g v (saves_id g v id)).group
    saved_kept id = at_up_kept v _ k (λ some within. saves_id_cases g v (λ a. Kept a.group) (λ f. k) id (λ p e.
        settle k.holds.tables within k.holds.voters p.envelopes (saved_batch (seat g v) p.batch (replica_at g v)) (at_host v k some (rows.saved p) e).1))

    -- Compact keeps the invariant
    compact_kept : (i : ℕ) → Kept (at_up g v (compacts g v i)).group
    unfolding row
    compact_kept i = at_up_kept v _ k (λ some within. compacts_cases g v (λ a. Kept a.group) (λ f. k) i (settle_row k.holds.tables within k.holds.voters _ (at_host v k some (rows.compact i))))

  -- a delivery keeps the invariant
  delivered_kept : {g : Group} → Kept g → (x : Option Envelope) → ((m : Envelope) → x ≡ Some m → IsOnWire g.wire m) → Kept (delivers g x).group
  unfolding row
  delivered_kept k None on = k
  delivered_kept {g} k (Some m) on = input_kept m.to (on_body (seat g m.to) m.from m.term m.body (replica_at g m.to)) k (λ some. body_row m.to k some m refl (on m refl) m.body refl)

  -- each event that is allowed keeps the invariant
  pub event_kept : StaysKept
  unfolding act row
  event_kept (events.Timeout v) g allowed k = input_kept v _ k (λ some. at_host v k some rows.timeout)
  event_kept (events.Beat v) g allowed k = input_kept v _ k (λ some. at_host v k some rows.script_beat)
  event_kept (events.Deliver n) g allowed k = delivered_kept k (envelope_at g.wire n) (on_wire g.wire n)
  event_kept (events.Ready v) g allowed k = ready_kept v k
  event_kept (events.Saved v id) g allowed k = saved_kept v k id
  event_kept (events.Propose v key p) g allowed k = input_kept v _ k (λ some. at_host v k some (rows.local_proposal key p))
  event_kept (events.Ask v key) g allowed k = at_up_kept v _ k (λ some within. let a = asked_kept key k in settle_row a.holds.tables within a.holds.voters _ (at_host v a some (rows.ask key)))
  event_kept (events.Chunk v to c) g allowed k = input_kept v _ k (λ some. at_host v k some (rows.send_chunk to c) allowed)
  event_kept (events.Compact v i) g allowed k = compact_kept v k i
  event_kept (events.Installed v i t) g allowed k = input_kept v _ k (λ some.
      let n = named_of g v i t allowed in
      at_host v k some (rows.installed i t) (rw (n.index, n.term) at ((k.holds.hosts v).inbox n.snapshot n.inbox)))
  event_kept (events.Down v) g allowed k = at_up_kept v _ k (λ some within. turned_kept v false k)
  event_kept (events.Restart v s) g allowed k = restart_kept v s k (start_of g v s allowed)
