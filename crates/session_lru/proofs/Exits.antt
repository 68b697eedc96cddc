-- What holds on one of a result's two exits.
use Rattle.std.proofs.Common.{◌≡◌, ℕ, sym, ap, ◌∙◌}
use Rattle.std.specs.Prelude.{Result, Ok, Err, OnOk, OnErr}
use Rattle.std.specs.Result.{IsErrAnd}
use Rattle.session_lru.specs.declared.section.TableFault.{TableFault}
use Rattle.session_lru.specs.declared.section.TableFault.TheVariants.{NotTable}

pub on_ok : {A E : Type 0} {P Q : Type 0} (r : Result A E) → OnOk r P → (P → Q) → OnOk r Q
on_ok (Ok x) p f = f p
on_ok (Err e) p f = tt

pub on_err : {A E : Type 0} {P Q : Type 0} (r : Result A E) → OnErr r P → (P → Q) → OnErr r Q
on_err (Ok x) p f = tt
on_err (Err e) p f = f p

-- a fault that was handed on is the one that came
pub handed_on : {A B : Type 0} (r : Result A TableFault) (f : TableFault) (place : ℕ) → IsErrAnd r (λ e. e ≡ f) → r ≡ Err (NotTable place) → ◌≡◌ {A = Result B TableFault} (Err f) (Err (NotTable place))
handed_on (Ok x) f place h q = absurd h
handed_on (Err e) f place h q = let i : e ≡ NotTable place = cc in ap (λ (y : TableFault). Err y) (sym h ∙ i)
