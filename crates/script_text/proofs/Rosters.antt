-- The hosts of a roster, read one after another.
use Rattle.std.proofs.Common.{◌≡◌, ◌<◌, ◌≤◌, ◌+◌, ℕ, zero, suc, List, [], ◌∷◌, ◌++◌, Option, None, Some, length, get_or, map, drop, true, refl, ap, sym, arith, add-one, append_assoc}
use Rattle.std.specs.Option.{option_map}
use Rattle.std.specs.List.{list_all}
use Rattle.std.proofs.Math.ListN.{get_or-map}
use Rattle.std.proofs.lemmas.Bool.{and_parts}
use Rattle.std.proofs.Math.Seq.{drop-cons}
use Rattle.std.proofs.lemmas.List.{append-nil}
use Rattle.script_text.specs.Script.{ascending, next_host, is_host_number}

joined : (found : List ℕ) (host : ℕ) (o : Option (List ℕ)) → option_map (λ hosts. found ++ hosts) (option_map (λ hosts. host ∷ hosts) o) ≡ option_map (λ hosts. (found ++ host ∷ []) ++ hosts) o
joined found host None = refl
joined found host (Some hosts) = ap Some (sym (append_assoc found (host ∷ []) hosts))

-- the next text is a host after the last one
pub roster_next : (found : List ℕ) (low host i : ℕ) (texts : List (List ℕ)) → i < length texts → next_host low (get_or texts i []) ≡ Some host
    → option_map (λ hosts. found ++ hosts) (ascending low (drop i texts)) ≡ option_map (λ hosts. (found ++ host ∷ []) ++ hosts) (ascending host (drop (i + 1) texts))
roster_next found low host i texts h e = rw (add-one, drop-cons texts i [], e) (joined found host (ascending host (drop (suc i) texts)))

-- the next text isn't
pub roster_ends : (found : List ℕ) (low i : ℕ) (texts : List (List ℕ)) → i < length texts → next_host low (get_or texts i []) ≡ None
    → option_map (λ hosts. found ++ hosts) (ascending low (drop i texts)) ≡ None
roster_ends found low i texts h e = rw (drop-cons texts i [], e) refl

drop_all : (i : ℕ) (texts : List (List ℕ)) → length texts ≤ i → drop i texts ≡ []
drop_all zero [] h = refl
drop_all (suc i) [] h = refl
drop_all zero (x ∷ xs) h = absurd (omega (arith, h))
drop_all (suc i) (x ∷ xs) h = drop_all i xs (omega (arith, h))

-- no text is left
pub roster_done : (found : List ℕ) (low i : ℕ) (texts : List (List ℕ)) → length texts ≤ i → option_map (λ hosts. found ++ hosts) (ascending low (drop i texts)) ≡ Some found
roster_done found low i texts h = rw (drop_all i texts h) (ap Some (append-nil found))

-- the text at a place of a list of texts, seen through what they are read from
pub next_by : {A : Type 0} (text_of : A → List ℕ) (items : List A) (i low : ℕ) (other : A) (host : Option ℕ) → text_of other ≡ [] → host ≡ next_host low (text_of (get_or items i other)) → next_host low (get_or (map text_of items) i []) ≡ host
next_by text_of items i low other host e h = rw (← e, get_or-map text_of items i other) (sym h)

pub hosts_more : (found : List ℕ) (host : ℕ) → list_all is_host_number found ≡ true → is_host_number host ≡ true → list_all is_host_number (found ++ host ∷ []) ≡ true
hosts_more [] host p q = rw q refl
hosts_more (x ∷ xs) host p q =
    let b = and_parts (is_host_number x) (list_all is_host_number xs) p in
    rw (b.0, hosts_more xs host b.1 q) refl

same : (o : Option (List ℕ)) → option_map (λ hosts. [] ++ hosts) o ≡ o
same None = refl
same (Some hosts) = refl

-- nothing was read yet
pub roster_begins : (texts : List (List ℕ)) → option_map (λ hosts. [] ++ hosts) (ascending 0 (drop 0 texts)) ≡ ascending 0 texts
roster_begins texts = same (ascending 0 texts)
