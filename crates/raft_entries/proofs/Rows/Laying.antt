-- Where a log ends that entries were laid into.
use Rattle.std.proofs.Common.{◌≡◌, ◌≤◌, ◌<◌, ◌+◌, ◌-◌, ⊎_elim, ℕ, suc, List, [], ◌∷◌, true, false, refl, arith, take, length, subst}
use Rattle.std.proofs.lemmas.Bool.{cond_both, or_cases, or_parts, and_parts, leb-true, leb-false}
use Rattle.std.proofs.lemmas.List.{length-append, length-take}
use Rattle.std.specs.Prelude.{◌==◌, ◌&&◌, nat_le, max, Some, MatchOption}
use Rattle.host_ids.specs.declared.entry.Entry.{Entry}
use Rattle.log_view.specs.Log.{Log, Laid, last, term_at, is_kept, laid, append_after}

-- a log after entries up to an end were laid into it: it reaches the commit index and the end, and no further than it did or they do; what changed is above the commit index
pub record Lies (l : Log) (commit end : ℕ) (w : Laid) : Type 0 where
  pub front : w.log.front ≡ l.front
  pub committed : commit ≤ last w.log
  pub ends : end ≤ last w.log
  pub short : last w.log ≤ max (last l) end
  pub from : MatchOption w.changed_from (w.log ≡ l) (λ i. (commit < i) × (i ≤ last w.log))

-- an entry that is passed over has its index in the log
pub kept_within : (l : Log) (commit i t : ℕ) → commit ≤ last l → is_kept l commit i t ≡ true → i ≤ last l
kept_within l commit i t c e =
    ⊎_elim (λ a. omega (arith, leb-true i commit a, c)) (λ a. leb-true i (last l) (and_parts (nat_le i (last l)) (term_at l i == t) a).0)
    (or_cases (nat_le i commit) (nat_le i (last l) && (term_at l i == t)) e)

-- an entry that isn't passed over has an index above the commit index
pub new_above : (l : Log) (commit i t : ℕ) → is_kept l commit i t ≡ false → commit < i
new_above l commit i t e = leb-false i commit (or_parts (nat_le i commit) (nat_le i (last l) && (term_at l i == t)) e).0

-- entries that follow an index of the log are laid into it: those that it holds are passed over, and from the first other one on they replace its rest
pub laid_lies : (l : Log) (commit prev : ℕ) (es : List Entry) → l.front ≤ commit → commit ≤ last l → prev ≤ last l → Lies l commit (prev + length es) (laid l commit prev es)
laid_lies l commit prev [] front committed up = record { front = refl; committed = committed; ends = omega (arith, up); short = omega arith; from = refl }
laid_lies l commit prev (e ∷ es) front committed up =
    let after : Laid = record { log = append_after l prev (e ∷ es); changed_from = Some (prev + 1) } in
    cond_both (is_kept l commit (prev + 1) e.term) (laid l commit (prev + 1) es) after (λ w. Lies l commit (prev + suc (length es)) w)
    (λ a.
    let step : prev + 1 + length es ≡ prev + suc (length es) = omega arith in
    subst (λ n. Lies l commit n (laid l commit (prev + 1) es)) step (laid_lies l commit (prev + 1) es front committed (kept_within l commit (prev + 1) e.term committed a)))
    (λ a.
    let above = new_above l commit (prev + 1) e.term a in
    let n : last after.log ≡ prev + suc (length es) = omega (arith, length-take (prev - l.front) l.entries, length-append (take (prev - l.front) l.entries) (e ∷ es), up, above, front) in
    record { front = refl; committed = omega (arith, n, above); ends = omega (arith, n); short = omega (arith, n); from = (omega (arith, above), omega (arith, n)) })
