-- Numbered entries that are laid into a numbered log.
use Rattle.std.proofs.Common.{◌≤◌, ◌+◌, ◌-◌, ℕ, List, [], ◌∷◌, arith, take}
use Rattle.std.proofs.lemmas.Bool.{cond_both}
use Rattle.std.proofs.lemmas.List.{length-take}
use Rattle.std.proofs.lemmas.List.Elements.{All-append, All-take, All-tail}
use Rattle.std.specs.Prelude.{Some}
use Rattle.host_ids.specs.declared.entry.Entry.{Entry}
use Rattle.log_view.specs.Log.{Log, Laid, last, is_kept, laid, append_after}
use Rattle.raft_entries.specs.Numbers.{Numbered, UpTo}
use Rattle.raft_entries.proofs.Numbering.Lists.{num_append, num_take}
use Rattle.raft_entries.proofs.Rows.Laying.{kept_within, new_above}

-- numbered entries that follow an index of a numbered log and are laid into it leave it numbered, and its terms no greater
pub laid_numbered : (l : Log) (commit prev t : ℕ) (es : List Entry) → l.front ≤ commit → commit ≤ last l → prev ≤ last l
    → Numbered (l.front + 1) l.entries → UpTo t l.entries → Numbered (prev + 1) es → UpTo t es
    → Numbered (l.front + 1) (laid l commit prev es).log.entries × UpTo t (laid l commit prev es).log.entries
laid_numbered l commit prev t [] front committed up h u k v = (h, u)
laid_numbered l commit prev t (e ∷ es) front committed up h u k v =
    let after : Laid = record { log = append_after l prev (e ∷ es); changed_from = Some (prev + 1) } in
    cond_both (is_kept l commit (prev + 1) e.term) (laid l commit (prev + 1) es) after (λ w. Numbered (l.front + 1) w.log.entries × UpTo t w.log.entries)
    (λ a. laid_numbered l commit (prev + 1) t es front committed (kept_within l commit (prev + 1) e.term committed a) h u k.2 (All-tail (λ e. e.term ≤ t) e es v))
    (λ a.
    let above = new_above l commit (prev + 1) e.term a in
    let some = take (prev - l.front) l.entries in (
      num_append (l.front + 1) (prev + 1) some (e ∷ es) (omega (arith, length-take (prev - l.front) l.entries, up, above, front)) (num_take (l.front + 1) (prev - l.front) l.entries h) k,
      All-append (λ e. e.term ≤ t) some (e ∷ es) (All-take (λ e. e.term ≤ t) (prev - l.front) l.entries u) v,
    ))
