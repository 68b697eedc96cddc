-- A part of a part is a part.
use Rattle.std.proofs.Common.{◌≡◌, ◌≤◌, ◌+◌, ◌-◌, ◌∙◌, ℕ, List, length, take, drop, ap, arith}
use Rattle.std.proofs.lemmas.List.{drop-drop, drop-take, take-take, length-take}
use Rattle.host_ids.specs.declared.entry.Entry.{Entry}
use Rattle.host_ids.specs.Held.{part}

pub part_of_part : (before all first count : ℕ) (es : List Entry) → first + count ≤ length (part before all es) → part first count (part before all es) ≡ part (before + first) count es
part_of_part before all first count es l =
    let rest = drop before es in
    let size = length-take all rest in
    let e : all ≡ first + (all - first) = omega (arith, l, size) in
    let least : count ≤ all - first = omega (arith, l, size) in
    ap (λ n. take count (drop first (take n rest))) e
    ∙ ap (take count) (drop-take first (all - first) rest)
    ∙ take-take count (all - first) (drop first rest) least
    ∙ ap (take count) (drop-drop first before es)
