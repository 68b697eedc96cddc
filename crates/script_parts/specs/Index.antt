-- An index of texts has each of them and no other.
use Rattle.std.specs.Prelude.{◌≡◌, ℕ, List, Bool, bytes_eq}
use Rattle.std.specs.List.{list_any}
use Rattle.std.specs.BTreeMap.{is_at}
use Rattle.object_model.specs.Object.{key_order}

abbrev pub has_key : List ℕ → List (List ℕ) → Bool
has_key text keys = list_any (is_at (key_order text)) keys

-- a text is in one of some lists
abbrev pub has_text : List ℕ → List (List (List ℕ)) → Bool
has_text text lists = list_any (λ list. list_any (bytes_eq text) list) lists

abbrev pub Indexes : List (List ℕ) → List (List (List ℕ)) → Type 0
Indexes keys lists = (text : List ℕ) → has_key text keys ≡ has_text text lists
