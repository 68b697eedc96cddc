-- Laws of what a sink holds, where it tells that.
use Rattle.std.proofs.Common.{ℕ, List, [], ◌++◌, sym, ◌∙◌, ap, append_assoc}
use Rattle.std.proofs.lemmas.List.{append-nil}
use Rattle.std.specs.declared.option.Option.{Option}
use Rattle.std.specs.Prelude.{None, Some}
use Rattle.std.specs.Io.KnownBytes.{Appends, Keeps}

-- one addition after another
pub Appends-append : (a b c : Option (List ℕ)) (x y : List ℕ) → Appends a b x → Appends b c y → Appends a c (x ++ y)
Appends-append None b c x y p q = tt
Appends-append (Some m) None c x y p q = absurd p
Appends-append (Some m) (Some n) None x y p q = absurd q
Appends-append (Some m) (Some n) (Some o) x y p q = q ∙ ap (λ (l : List ℕ). l ++ y) p ∙ append_assoc m x y

-- an addition, and then nothing
pub Appends-kept : (a b c : Option (List ℕ)) (x : List ℕ) → Appends a b x → Keeps b c → Appends a c x
Appends-kept None b c x p q = tt
Appends-kept (Some m) None c x p q = absurd p
Appends-kept (Some m) (Some n) None x p q = absurd q
Appends-kept (Some m) (Some n) (Some o) x p q = q ∙ p

-- nothing is added
pub Appends-none : (a : Option (List ℕ)) → Appends a a []
Appends-none None = tt
Appends-none (Some m) = sym (append-nil m)
