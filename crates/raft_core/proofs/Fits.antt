-- Lists of entries whose proposals are well formed: what raft_entries says of any property, said of this one.
use Rattle.std.proofs.Common.{◌≡◌, ℕ, List, [], ◌∷◌, ◌++◌, true, take, drop}
use Rattle.std.proofs.lemmas.List.Elements.{All-push, All-take, All-drop}
use Rattle.std.proofs.lemmas.List.Sums.{AllPass-from_list_all, list_all-from_AllPass}
use Rattle.std.specs.List.{All}
use Rattle.host_ids.specs.declared.entry.Entry.{Entry}
use Rattle.log_view.specs.Log.{Log, laid}
use Rattle.raft_model.specs.Fit.{is_fit, are_fit}
use Rattle.raft_entries.specs.Mail.{Property}
use Rattle.raft_entries.specs.Has.{OfEntry}
use Rattle.raft_entries.proofs.Keeping.{laid_of}

-- the numbers of a proposal are in their ranges
abbrev pub Fit : Property
Fit key p = is_fit p ≡ true

-- a list of fit entries by its entries
each_fit : (es : List Entry) → are_fit es ≡ true → All (OfEntry Fit) es
each_fit es h = AllPass-from_list_all (λ (e : Entry). is_fit e.proposal) es h

all_fit : (es : List Entry) → All (OfEntry Fit) es → are_fit es ≡ true
all_fit es a = list_all-from_AllPass (λ (e : Entry). is_fit e.proposal) es a

pub fit_push : (es : List Entry) (e : Entry) → are_fit es ≡ true → is_fit e.proposal ≡ true → are_fit (es ++ e ∷ []) ≡ true
fit_push es e h k = all_fit (es ++ e ∷ []) (All-push (OfEntry Fit) es e (each_fit es h) k)

pub fit_drop : (n : ℕ) (es : List Entry) → are_fit es ≡ true → are_fit (drop n es) ≡ true
fit_drop n es h = all_fit (drop n es) (All-drop (OfEntry Fit) n es (each_fit es h))

pub fit_take : (n : ℕ) (es : List Entry) → are_fit es ≡ true → are_fit (take n es) ≡ true
fit_take n es h = all_fit (take n es) (All-take (OfEntry Fit) n es (each_fit es h))

pub fit_laid : (l : Log) (commit prev : ℕ) (es : List Entry) → are_fit l.entries ≡ true → are_fit es ≡ true → are_fit (laid l commit prev es).log.entries ≡ true
fit_laid l commit prev es h k = all_fit (laid l commit prev es).log.entries (laid_of Fit l commit prev es (each_fit l.entries h) (each_fit es k))
