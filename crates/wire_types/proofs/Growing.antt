-- What a run shows stays when it grows.
use Rattle.std.proofs.Common.{◌≡◌, ◌≤◌, ◌+◌, ◌-◌, ◌∙◌, ◌++◌, ℕ, List, [], ◌∷◌, length, take, drop, ap, sym, refl, arith, append_assoc}
use Rattle.std.proofs.lemmas.List.{drop-take, take-take, length-take, map_push}
use Rattle.std.proofs.lemmas.List.Elements.{All-head, All-tail, All-weaker, All-push}
use Rattle.host_ids.specs.declared.entry.Entry.{Entry}
use Rattle.host_ids.specs.Held.{part}
use Rattle.wire_types.specs.declared.append.AppendHead.{AppendHead}
use Rattle.wire_types.specs.declared.envelope.Envelope.{Envelope}
use Rattle.wire_types.specs.declared.slot.Slot.{Slot}
use Rattle.wire_types.specs.declared.slot.Slot.TheVariants.{Whole, Part}
use Rattle.wire_types.specs.Held.{append_of, shown, all_shown, IsShown, AreShown, IsGrown}

length-grown : (es more : List Entry) → IsGrown es more → length es ≤ length more
length-grown es more grown =
    omega (arith, ap length grown, length-take (length es) more)

part-grown : (es more : List Entry) (first count : ℕ) → IsGrown es more → first + count ≤ length es → part first count more ≡ part first count es
part-grown es more first count grown within =
    let rest : ℕ = length es - first in
    let e : length es ≡ first + rest = omega (arith, within) in
    let least : count ≤ rest = omega (arith, within) in
    sym
    (ap (part first count) (sym grown)
    ∙ ap (λ n. part first count (take n more)) e
    ∙ ap (take count) (drop-take first rest more)
    ∙ take-take count rest (drop first more) least)

shown-grown : (es more : List Entry) (slot : Slot) → IsGrown es more → IsShown es slot → shown more slot ≡ shown es slot
shown-grown es more (Whole envelope) grown within = refl
shown-grown es more (Part head first count) grown within =
    ap (append_of head) (part-grown es more first count grown within)

all_shown-grown : (es more : List Entry) (slots : List Slot) → IsGrown es more → AreShown es slots → all_shown more slots ≡ all_shown es slots
all_shown-grown es more [] grown within = refl
all_shown-grown es more (slot ∷ slots) grown within =
    ap (λ e. e ∷ all_shown more slots) (shown-grown es more slot grown (All-head (IsShown es) slot slots within))
    ∙ ap (λ l. shown es slot ∷ l) (all_shown-grown es more slots grown (All-tail (IsShown es) slot slots within))

is_shown-grown : (es more : List Entry) → IsGrown es more → (slot : Slot) → IsShown es slot → IsShown more slot
is_shown-grown es more grown (Whole envelope) within = within
is_shown-grown es more grown (Part head first count) within =
    omega (arith, within, length-grown es more grown)

are_shown-grown : (es more : List Entry) (slots : List Slot) → IsGrown es more → AreShown es slots → AreShown more slots
are_shown-grown es more slots grown within =
    All-weaker (IsShown es) (IsShown more) (is_shown-grown es more grown) slots within

-- slots that show parts of entries, and one more, once these have grown
pub are_shown-part : (es more : List Entry) (slots : List Slot) (head : AppendHead) (first count : ℕ) (entries : List Entry) → IsGrown es more → AreShown es slots → length entries ≡ count → first + length entries ≤ length more → AreShown more (slots ++ Part head first count ∷ [])
are_shown-part es more slots head first count entries grown within size room =
    All-push (IsShown more) slots (Part head first count) (are_shown-grown es more slots grown within) (omega (arith, size, room))

-- what these slots show then
pub all_shown-part : (done : List Envelope) (es more : List Entry) (slots : List Slot) (head : AppendHead) (first count : ℕ) (entries : List Entry) → IsGrown es more → AreShown es slots → length entries ≡ count → part first (length entries) more ≡ entries → done ++ all_shown more (slots ++ Part head first count ∷ []) ≡ (done ++ all_shown es slots) ++ append_of head entries ∷ []
all_shown-part done es more slots head first count entries grown within size same =
    ap (λ l. done ++ l)
    (map_push (shown more) slots (Part head first count)
    ∙ ap (λ l. l ++ append_of head (part first count more) ∷ []) (all_shown-grown es more slots grown within)
    ∙ ap (λ p. all_shown es slots ++ append_of head p ∷ []) (ap (λ n. part first n more) (sym size) ∙ same))
    ∙ sym (append_assoc done (all_shown es slots) (append_of head entries ∷ []))
