-- The rows of Append and AppendReply.
use Rattle.std.proofs.Common.{◌≤◌, ◌+◌, ◌-◌, ◌^◌, ℕ, List, Bool, true, false, refl, arith, length}
use Rattle.std.proofs.lemmas.Bool.{cond_both}
use Rattle.std.specs.Prelude.{◌==◌, ◌&&◌, min, max, Option, Some, None}
use Rattle.host_ids.specs.declared.entry.Entry.{Entry}
use Rattle.wire_types.specs.declared.envelope.Body.TheVariants as bodies
use Rattle.wire_types.specs.declared.envelope.Envelope.{Envelope}
use Rattle.raft_model.specs.declared.progress.Appended.TheVariants.{Stored}
use Rattle.raft_model.specs.declared.state.State.{State as Replica}
use Rattle.roster.specs.Roster.{Seat}
use Rattle.log_view.specs.Log.{last, laid}
use Rattle.raft_model.specs.Replica.{is_leader, lowered, commit_rule}
use Rattle.raft_model.specs.Appending.{answers_append, follows, on_append, progress, with_progress, heard, on_append_reply, Took}
use Rattle.raft_entries.specs.Mail.{Property, Following}
use Rattle.raft_entries.specs.Parts.{Parts, parts}
use Rattle.raft_entries.proofs.Rows.Words.{lowered_by, On, Words}
use Rattle.raft_entries.proofs.Rows.Sending.{pick, tells, appends_to, more, commits, takes_from}

module _ {Own : Property} {Follows : Following} {L : Type 0} {Mail : Envelope → Type 0} {s : Seat} {G : Parts → Type 0} (W : Words Own Follows L Mail s G) where
  -- what was stored is answered, and the commit index rises
  stores : (from c n : ℕ) (o : Option ℕ) (r : Replica) → (L → n ≤ 2 ^ 62) → (let y = lowered_by o (parts r) in G (record y { commit = max y.commit (min c n) }))
      → On G (answers_append s from c (Stored n o) r).replica
  stores from c n None r short k = tells W from (bodies.AppendReply true n) (record r { commit = max r.commit (min c n) }) tt short k
  stores from c n (Some i) r short k = tells W from (bodies.AppendReply true n) (record (lowered i r) { commit = max r.commit (min c n) }) tt short k

  -- Append: entries that fit a follower's log are laid into it
  pub append : (from t prev pt c : ℕ) (es : List Entry) (r : Replica) → t ≤ r.term → Follows t prev es → On G r
      → On G (on_append s from t prev pt c es r).replica
  append from t prev pt c es r new carried k =
      let q = follows from r in
      let f : On G q = W.follows (parts r) k in
      takes_from W _ _ _ _ (tells W from (bodies.AppendReply false 0) r tt (λ _. omega arith) k) k
      (cond_both _ _ _ (λ (w : Took). On G (answers_append s from c w.outcome (record q { log = w.log })).replica)
      (λ _. tells W from (bodies.AppendReply false (min (last q.log) (prev - 1))) q tt (λ l. omega (arith, (W.limits (parts q) f l).last_short)) f)
      (λ e.
      let w = laid q.log q.commit prev es in
      stores from c (max q.log.front (prev + length es)) w.changed_from (record q { log = w.log })
      (λ l. omega (arith, (W.limits (parts q) f l).last_short, W.reaches t prev es carried l))
      (W.lays (parts q) t prev pt c es refl new e carried f)))

  -- what a voter answered is counted
  hears : (from i : ℕ) (ok : Bool) (r : Replica) → (L → i ≤ 2 ^ 62) → On G r → On G (with_progress (heard from ok i (progress r)) r)
  hears from i ok r short k = cond_both ok _ _ (λ p. On G (with_progress p r)) (λ _. W.hears (parts r) from i short k) (λ _. k)

  -- AppendReply: the commit index rises by the commit rule, and a voter that lacks entries is sent more
  pub append_reply : (from t : ℕ) (ok : Bool) (i : ℕ) (r : Replica) → (L → i ≤ 2 ^ 62) → On G r → On G (on_append_reply s from t ok i r).replica
  append_reply from t ok i r short k =
      let q = with_progress (heard from ok i (progress r)) r in
      let h : On G q = hears from i ok r short k in
      pick G ((t == r.term) && is_leader r) _ _ (λ _. pick G ok _ _ (λ _. more W from (commit_rule s q) (commits W q h)) (λ _. appends_to W from q h)) (λ _. k)
