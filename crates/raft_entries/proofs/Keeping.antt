-- What all entries and proposals have that a host holds, has saved and sends, they have after each step, and so after every event of a group.
use Rattle.std.proofs.Common.{◌+◌, ◌-◌, ⊎_elim, sym, ℕ, List, [], ◌∷◌, take, drop, length, subst}
use Rattle.std.proofs.lemmas.Bool.{cond_both}
use Rattle.std.proofs.lemmas.List.Elements.{All-nil, All-push, All-take, All-drop, All-append, All-tail}
use Rattle.std.specs.Prelude.{Option, Some, None, IfSome}
use Rattle.std.specs.List.{All}
use Rattle.host_ids.specs.declared.batch.Batch.{Batch}
use Rattle.host_ids.specs.declared.entry.Entry.{Entry}
use Rattle.raft_model.specs.declared.durable.Durable.{Durable}
use Rattle.raft_model.specs.declared.input.Input.{Input}
use Rattle.raft_model.specs.declared.saved.SavedState.{SavedState}
use Rattle.raft_model.specs.declared.state.State.{State as Replica}
use Rattle.raft_model.specs.declared.state.Pending.{Pending}
use Rattle.roster.specs.Roster.{Seat}
use Rattle.log_view.specs.Log.{Log, Laid, is_kept, laid, append_after}
use Rattle.raft_model.specs.Restarting.{restarted}
use Rattle.raft_model.specs.Group.{continued, merged}
use Rattle.raft_model.specs.Saving.{may_give, gave_batch, stabilised, saved_batch}
use Rattle.raft_model.specs.Step.{step, after_ready, saved}
use Rattle.raft_entries.specs.Mail.{Property}
use Rattle.raft_entries.specs.Parts.{Parts, parts}
use Rattle.raft_entries.specs.Kept.{then_saved}
use Rattle.raft_entries.specs.Has.{OfBlank, OfEntry, OfMail, OfBatch, OfSaved, OfParts, OfReplica, OfPending, OfInput, OfStep, OfAll, Keeps}
use Rattle.raft_entries.proofs.Rows.Words.{Words, next_entry}
use Rattle.raft_entries.proofs.Rows.Steps.{step_by, released_by, saves_by}
use Rattle.raft_entries.proofs.Groups.Moves.{begins_with, Moves}
use Rattle.raft_entries.proofs.Groups.Events.{stays_by}

module _ (P : Property) where
  -- where a log's entries have it and those that are laid into it, the log's entries have it then
  pub laid_of : (l : Log) (commit prev : ℕ) (es : List Entry) → All (OfEntry P) l.entries → All (OfEntry P) es → All (OfEntry P) (laid l commit prev es).log.entries
  laid_of l commit prev [] k of = k
  laid_of l commit prev (e ∷ es) k of =
      let after : Laid = record { log = append_after l prev (e ∷ es); changed_from = Some (prev + 1) } in
      cond_both (is_kept l commit (prev + 1) e.term) (laid l commit (prev + 1) es) after (λ w. All (OfEntry P) w.log.entries)
      (λ _. laid_of l commit (prev + 1) es k (All-tail (OfEntry P) e es of))
      (λ _. All-append (OfEntry P) (take (prev - l.front) l.entries) (e ∷ es) (All-take (OfEntry P) (prev - l.front) l.entries k) of)

  -- the entries after a place of the log have it
  cut_of : (x : Parts) (n : ℕ) → OfParts P x → All (OfEntry P) (drop n x.log.entries)
  cut_of x n k = All-drop (OfEntry P) n x.log.entries k.0

  -- each word of the rows keeps it
  words_of : (s : Seat) → Words P (λ t prev es. All (OfEntry P) es) ⊥ (OfMail P) s (OfParts P)
  words_of s = record {
    carries = λ m mail. mail;
    bounds = λ m mail l. absurd l;
    writes = λ to t body carried bounded. carried;
    reaches = λ t prev es of l. absurd l;
    limits = λ x k l. absurd l;
    stretch = λ x next e k. All-take (OfEntry P) 64 (drop (next - x.log.front - 1) x.log.entries) (cut_of x (next - x.log.front - 1) k);
    holds = λ x m mail k. (k.0, All-push (OfMail P) x.held m k.1 mail, k.2);
    mailed = λ x k. k.1;
    empties = λ x k. (k.0, All-nil (OfMail P), k.2);
    enters = λ x t less short k. k;
    stands = λ x low short k. k;
    follows = λ x k. k;
    leads = λ x stood k. k;
    rounds = λ x low k. k;
    hears = λ x v i short k. k;
    matches = λ x k. k;
    commits = λ x c more within k. k;
    pushes = λ x key p led room own k. (All-push (OfEntry P) x.log.entries (next_entry key p x) k.0 own, k.1, k.2);
    lays = λ x t prev pt c es stood new has carried k. (laid_of x.log x.commit prev es k.0 carried, k.1, k.2);
    takes = λ x c piece k. k;
    receives = λ x b short k. k;
    cuts = λ x i above within k. (cut_of x (i - x.log.front) k, k.1, k.2);
    bases = λ x i t stood above has k. (cut_of x (i - x.log.front) k, k.1, k.2);
    resets = λ x i t stood above short k. (All-nil (OfEntry P), k.1, k.2);
  }

  -- a replica keeps it with each input
  step_keeps : (s : Seat) (input : Input) (r : Replica) → OfBlank P → OfInput P input → OfReplica P r → OfStep P (step s input r)
  step_keeps s input r blank of k = step_by (words_of s) blank input r of (λ l. absurd l) k

  -- a batch is taken from the log, and the held envelopes wait for it
  given_keeps : (r : Replica) → OfReplica P r → OfReplica P (gave_batch r)
  given_keeps r k = (k.0, All-nil (OfMail P), (cut_of (parts r) (r.from - r.log.front - 1) k, k.1))

  -- a replica keeps it with Ready
  ready_keeps : (r : Replica) → OfReplica P r → OfReplica P (after_ready r)
  ready_keeps r k = cond_both (may_give r) (gave_batch r) r (OfReplica P) (λ _. given_keeps r k) (λ _. k)

  -- a replica keeps it with Saved, where the batch's envelopes go on the wire
  save_keeps : (s : Seat) (p : Pending) (r : Replica) → OfBlank P → OfPending P p → OfReplica P r → OfStep P (saved s p r)
  save_keeps s p r blank of k = let q = saves_by (words_of s) blank p.batch.term p.batch.vote (stabilised p.batch r) k in released_by (words_of s) blank p.envelopes (saved_batch s p.batch r) of.1 (q.0, q.1, tt)

  -- a decided list that has it goes on by a log that has it
  continued_of : (d : List Entry) (r : Replica) → All (OfEntry P) d → OfReplica P r → All (OfEntry P) (continued d r)
  continued_of d r of k =
      let rest = drop (length d - r.log.front) r.log.entries in
      cond_both _ _ _ (All (OfEntry P))
      (λ _. All-append (OfEntry P) d (take (r.commit - length d) rest) of (All-take (OfEntry P) (r.commit - length d) rest (cut_of (parts r) (length d - r.log.front) k)))
      (λ _. of)

  -- where what is saved has it and a batch, the two joined have it
  merged_of : (b : SavedState) (p : Batch) → OfSaved P b → OfBatch P p → OfSaved P (merged b p)
  merged_of b p k of =
      let old = drop (p.front - b.front) b.entries in
      All-append (OfEntry P) (take (p.first - p.front - 1) old) p.entries (All-take (OfEntry P) (p.first - p.front - 1) old (All-drop (OfEntry P) (p.front - b.front) b.entries k)) of

  -- where what is saved has it and what is pending, what will be saved has it
  then_saved_of : (b : SavedState) (o : Option Pending) → OfSaved P b → IfSome o (OfPending P) → OfSaved P (then_saved b o)
  then_saved_of b None k of = k
  then_saved_of b (Some p) k of = merged_of b p.batch k of.0

  -- a replica that starts again has the log that was saved, or none
  restarted_of : (d : Durable) → OfBatch P d.batch → OfReplica P (restarted d)
  restarted_of d of = (begins_with d (λ l. All (OfEntry P) l.entries) (λ _. All-nil (OfEntry P)) of, All-nil (OfMail P), tt)

  -- each step of a host keeps it
  moves_of : OfBlank P → Moves (OfAll P)
  moves_of blank = record {
    begins = (All-nil (OfEntry P), (All-nil (OfEntry P), All-nil (OfMail P), tt));
    none = All-nil (OfEntry P);
    steps = λ b s input r of k. let x = step_keeps s input r blank of k.1 in ((k.0, x.0), x.1);
    readies = λ b r none k. (k.0, given_keeps r k.1);
    saves = λ b s p r e k.
        let waits : OfPending P p = subst (λ o. IfSome o (OfPending P)) e k.1.2 in
        let x = save_keeps s p r blank waits k.1 in
        ((merged_of b p.batch k.0 waits.0, x.0), x.1);
    leaves = λ b r d left k.
        ⊎_elim (λ e. subst (OfSaved P) (sym e) k.0) (λ e. subst (OfSaved P) (sym e) (then_saved_of b r.pending k.0 k.1.2)) left.batch;
    restarts = λ d left. (left, restarted_of d left);
    lists = λ d b r of k. continued_of d r of k.1;
  }

  -- every event of a group keeps it
  pub keeps : OfBlank P → Keeps P
  keeps blank = record {
    steps = λ s input r of k. step_keeps s input r blank of k;
    ready = ready_keeps;
    saved = λ s p r of k. save_keeps s p r blank of k;
    groups = stays_by (moves_of blank);
  }
