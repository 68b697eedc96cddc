-- What is read to the end: a value has these bytes, or none has them.
use Rattle.std.proofs.Common.{◌≡◌, ℕ, ◌+◌, ◌-◌, List, [], ◌++◌, Bool, true, false, Result, Ok, Err, length, drop, refl, sym, ap, ◌∙◌, subst, arith, length-append, append_assoc, inl, inr}
use Rattle.std.specs.Prelude.{◌==◌}
use Rattle.std.proofs.lemmas.Bool.{eqb-true, eq-eqb}
use Rattle.std.proofs.lemmas.List.{append-nil, drop_all}
use Rattle.wire_codec.specs.Reading.{Reader, to_end, whole, AreBytes, Exact, Front, IsLongestFront, Stands}
use Rattle.wire_codec.specs.laws.Joined.{two_parts}
use Rattle.wire_codec.specs.laws.Numbers.{ok_parts}

module _ {A : Type 0} (read : Reader A) (Good : A → Type 0) (spell : A → List ℕ) (e : Exact read Good spell) (bytes : List ℕ) where
  -- a good value's bytes are read as this value
  pub whole_back : (a : A) → Good a → bytes ≡ spell a → whole read bytes ≡ Ok a
  whole_back a g s =
      let back = e.back a bytes [] 0 g (omega arith) (s ∙ sym (append-nil (spell a))) in
      let sized : 0 + length (spell a) ≡ length bytes = (let l = ap (λ (x : List ℕ). length x) s in omega (arith, l)) in
      let last : (0 + length (spell a) == length bytes) ≡ true = eq-eqb (0 + length (spell a)) (length bytes) sized in
      rw (back, last) refl

  module _ (y : AreBytes bytes) where
    -- what is read has these bytes
    pub whole_spells : (a : A) → whole read bytes ≡ Ok a → Good a × (bytes ≡ spell a)
    whole_spells a o = by (read bytes 0) refl
      where
        by_end : (r : A × ℕ) (s : Stands Good spell bytes 0 r.0 r.1) (b : Bool) → (r.1 == length bytes) ≡ b → to_end bytes (Ok r) ≡ Ok a → Good a × (bytes ≡ spell a)
        by_end r s true t o =
            let same : r.0 ≡ a = (let u : to_end bytes (Ok r) ≡ Ok r.0 = rw t refl in cc) in
            let last = eqb-true r.1 (length bytes) t in
            let all : bytes ≡ spell r.0 = s.spelt ∙ ap (λ (l : List ℕ). spell r.0 ++ l) (drop_all r.1 bytes (omega (arith, last))) ∙ append-nil (spell r.0) in
            (subst Good same s.good, all ∙ ap spell same)
        by_end r s false t o = absurd (let u : to_end bytes (Ok r) ≡ Err r.1 = rw t refl in cc)

        by : (r : Result (A × ℕ) ℕ) → read bytes 0 ≡ r → Good a × (bytes ≡ spell a)
        by (Ok r) t = by_end r (e.spells r.0 bytes 0 r.1 y (omega arith) t) (r.1 == length bytes) refl (ap (to_end bytes) (sym t) ∙ o)
        by (Err at) t = absurd (let u : whole read bytes ≡ Err at = rw t refl in cc)

    -- where a value stands and more bytes come, no longer front begins a value
    left_longest : (at : ℕ) (a : A) → Stands Good spell bytes 0 a at → IsLongestFront Good spell bytes at
    left_longest at a s = (
      record { value = a; good = s.good; front = spell a; missing = []; rest = drop at bytes; begins = sym (append-nil (spell a)); stands = s.spelt; counted = omega (arith, s.after) },
      λ m f. elim (two_parts f.front f.rest (spell a) (drop at bytes) (sym f.stands ∙ s.spelt)) [
        | inl l ↦ (let sized = ap (λ (x : List ℕ). length x) l.front in let sum = length-append f.front l.between in omega (arith, sized, sum, f.counted, s.after))
        | inr l ↦ (
            let text = spell f.value in
            let one = e.back f.value text [] 0 f.good (omega arith) (sym (append-nil text)) in
            let other = e.back a text (l.between ++ f.missing) 0 s.good (omega arith) (f.begins ∙ ap (λ (x : List ℕ). x ++ f.missing) l.front ∙ append_assoc (spell a) l.between f.missing) in
            let same = ok_parts f.value a (0 + length (spell f.value)) (0 + length (spell a)) (sym one ∙ other) in
            let sized = ap (λ (x : List ℕ). length x) f.begins in
            let sum = length-append f.front f.missing in
            omega (arith, same.1, sized, sum, f.counted, s.after))
      ],
    )

    -- what is refused: no value has these bytes, and the place is that of the longest front
    pub whole_refused : (at : ℕ) → whole read bytes ≡ Err at → IsLongestFront Good spell bytes at
    whole_refused at o = by (read bytes 0) refl
      where
        by_end : (r : A × ℕ) (s : Stands Good spell bytes 0 r.0 r.1) (b : Bool) → (r.1 == length bytes) ≡ b → to_end bytes (Ok r) ≡ Err at → IsLongestFront Good spell bytes at
        by_end r s true t o = absurd (let u : to_end bytes (Ok r) ≡ Ok r.0 = rw t refl in cc)
        by_end r s false t o =
            let same : r.1 ≡ at = (let u : to_end bytes (Ok r) ≡ Err r.1 = rw t refl in cc) in
            subst (λ (n : ℕ). IsLongestFront Good spell bytes n) same (left_longest r.1 r.0 s)

        by : (r : Result (A × ℕ) ℕ) → read bytes 0 ≡ r → IsLongestFront Good spell bytes at
        by (Ok r) t = by_end r (e.spells r.0 bytes 0 r.1 y (omega arith) t) (r.1 == length bytes) refl (ap (to_end bytes) (sym t) ∙ o)
        by (Err p) t =
            let same : p ≡ at = (let u : whole read bytes ≡ Err p = rw t refl in cc) in
            let told : read bytes 0 ≡ Err at = t ∙ ap (λ (x : ℕ). Err x) same in
            let front = (e.begins bytes 0 at y (omega arith) told).1 in
            let less : at - 0 ≡ at = omega arith in
            (subst (λ (n : ℕ). Front Good spell bytes n) less front, λ m f. (let most = e.most bytes 0 at m y (omega arith) told f in omega (arith, most)))

    pub none_whole : (at : ℕ) → whole read bytes ≡ Err at → (a : A) → Good a → bytes ≡ spell a → ⊥
    none_whole at o a g s = let back = whole_back a g s in cc
