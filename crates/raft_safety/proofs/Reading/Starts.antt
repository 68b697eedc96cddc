-- A host that goes down, or starts again, keeps the invariant of reads: it begins with no read, and what it has saved has no lower term than before.
use Rattle.std.proofs.Common.{⊎_elim, ℕ, ◌≤◌, List, [], length, Bool, true, sym, subst, arith}
use Rattle.std.specs.Prelude.{slice_set}
use Rattle.std.proofs.lemmas.List.{append-nil, set_past}
use Rattle.raft_model.specs.declared.saved.SavedState.{SavedState}
use Rattle.wire_types.specs.declared.envelope.Envelope.{Envelope}
use Rattle.raft_model.specs.declared.durable.Durable.{Durable}
use Rattle.raft_model.specs.Restarting.{state_of, restarted}
use Rattle.raft_model.specs.Group.{Group, saved_at, moved, restarts}
use Rattle.raft_safety.specs.Invariant.{Kept}
use Rattle.raft_safety.specs.Events.{IsAllowedStart}
use Rattle.raft_safety.specs.Rounds.{HasReads, ReadsCommon, Rounds, aheads}
use Rattle.raft_safety.proofs.Argument.Agreement.{le_or}
use Rattle.raft_safety.proofs.Argument.WholeLogs.{decided_place}
use Rattle.raft_safety.proofs.Frame.Settle.{continued_none}
use Rattle.raft_safety.proofs.Crashes.Restart.{turned_kept}
use Rattle.raft_safety.proofs.Laws.Cases.{restarts_cases}
use Rattle.raft_safety.proofs.Reading.Steps.{Does, not_leading, Fronts, common_with, pending_fits, saves_rise, settled}

-- the part of the invariant of reads on the group holds where a host goes up or down
turned_common : {g : Group} (v : ℕ) (up : Bool) {x : Rounds} {ms : List Envelope} → ReadsCommon x ms g → ReadsCommon x ms (record g { up = slice_set g.up v up })
turned_common {g} v up c = common_with (slice_set g.up v up) g.asks (turned_kept v up c.kept) c.bounded c.wire c

-- and so does all of it
pub turned_reads : {g : Group} (v : ℕ) (up : Bool) → HasReads g → HasReads (record g { up = slice_set g.up v up })
turned_reads v up p = record { rounds = p.rounds; seals = p.seals; common = turned_common v up p.common; hosts = p.hosts }

module _ {g : Group} (v : ℕ) (s : Durable) (p : HasReads g) (allowed : IsAllowedStart g v s) where
  -- the group with the host up
  abbrev up : Group
  up = record g { up = slice_set g.up v true }

  -- what each host has saved then
  abbrev saves : List SavedState
  saves = slice_set g.saves v (state_of s.batch)

  -- what a crash leaves has no lower term than what was saved, and a commit index within the decided list
  left : ((saved_at g v).term ≤ s.batch.term) × (s.batch.commit ≤ length g.decided)
  left =
      let x = (p.common.kept.holds.hosts v).stands in
      let fits = λ (y : SavedState). ((saved_at g v).term ≤ y.term) × (y.commit ≤ length g.decided) in
      ⊎_elim (λ same. subst fits (sym same) (omega arith, x.saved.commit.right)) (λ more. subst fits (sym more.2) (pending_fits p.common v more.0 more.1)) allowed.left

  -- the replica that starts from it has a commit index within the decided list
  known : (restarted s).commit ≤ length g.decided
  known = let m = (decided_place g.decided s.mark s.mark_term allowed.mark).0 in let n = allowed.machine in let l = left.1 in omega (arith, m, n, l)

  -- it has what a row owes: it holds no envelope and no batch, and leads nothing
  begins : Does p.rounds up v (restarted s)
  begins = not_leading _ (λ e. absurd (cc)) known tt (λ q e. absurd (cc))

  -- the group after the start has the invariant of reads; a host with no place in the tables changes nothing in them
  started : Kept (aheads p.seals (moved (record up { saves = saves }) v (restarted s) [])) → HasReads (moved (record up { saves = saves }) v (restarted s) [])
  started post =
      let t = p.common.kept.holds.tables in
      ⊎_elim
      (λ past. rw (continued_none g.decided (restarted s) known) (rw (append-nil g.wire)
      (rw (set_past g.saves v (state_of s.batch) (omega (arith, past, t.saves))) (rw (set_past g.replicas v (restarted s) (omega (arith, past, t.replicas))) (turned_reads v true p)))))
      (λ within. settled v saves (saves_rise g v (state_of s.batch) (omega (arith, within, t.saves)) left.0) (turned_common v true p.common) (λ u o. p.hosts u)
      (restarted s) begins [] tt (omega (arith, within, t.replicas)) post)
      (le_or 10 v)

-- a start that is allowed keeps the invariant of reads
pub restart_fronted : {g : Group} (v : ℕ) (s : Durable) → HasReads g → IsAllowedStart g v s → Fronts g (restarts g v s)
restart_fronted {g} v s p allowed = restarts_cases g v (Fronts g) (λ f goes. record { reads = p; notes = tt }) s
    (λ _ goes. record { reads = started v s p allowed (goes p.seals p.common.kept); notes = tt })
