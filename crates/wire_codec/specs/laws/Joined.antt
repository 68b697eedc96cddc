-- Readings that are joined of exact ones are exact.
use Rattle.std.proofs.Common.{◌≡◌, ◌⊎◌, ℕ, zero, suc, ◌+◌, ◌-◌, ◌<◌, ◌≤◌, List, [], ◌∷◌, ◌++◌, Bool, true, false, Result, Ok, Err, length, take, drop, replicate, refl, sym, ap, ◌∙◌, subst, append_assoc, length-append, inl, inr, arith}
use Rattle.std.specs.Prelude.{nat_le}
use Rattle.std.specs.List.{flat_map}
use Rattle.std.proofs.lemmas.Bool.{le-leb, leb-true, lt-leb, leb-false}
use Rattle.std.proofs.lemmas.List.{append-nil, append_cancel_left, length-drop, drop-drop, drop_at, take-append-drop, length-take-le, length-replicate, take_at}
use Rattle.wire_codec.specs.laws.Numbers.{answer, ok_parts}
use Rattle.wire_codec.specs.Reading.{Reader, text, both, made, nothing, first_of_list, many, AreBytes, AreGood, Front, Stands, Exact}

-- ---- fronts of one list

-- of two ways to part a list, one front begins the other
pub record Longer {A : Type 0} (a b c d : List A) : Type 0 where
  pub between : List A
  pub front : c ≡ a ++ between
  pub rest : b ≡ between ++ d

pub two_parts : {A : Type 0} (a b c d : List A) → a ++ b ≡ c ++ d → Longer a b c d ⊎ Longer c d a b
two_parts [] b c d e = inl (record { between = c; front = refl; rest = e })
two_parts (x ∷ a) b [] d e = inr (record { between = x ∷ a; front = refl; rest = sym e })
two_parts (x ∷ a) b (y ∷ c) d e =
    let head : x ≡ y = cc in
    let tail : a ++ b ≡ c ++ d = cc in
    elim (two_parts a b c d tail) [
      | inl l ↦ inl (record { between = l.between; front = rw (head, l.front) refl; rest = l.rest })
      | inr l ↦ inr (record {
        between = l.between;
        front = rw
            (head, l.front) refl;
        rest = l.rest;
      })
    ]

-- ---- one after the other

module _ {A B : Type 0} (first : Reader A) (second : A → Reader B) (GoodA : A → Type 0) (GoodB : A → B → Type 0) (spell_a : A → List ℕ) (spell_b : A → B → List ℕ) where
  abbrev Good : A × B → Type 0
  Good p = GoodA p.0 × GoodB p.0 p.1

  abbrev spell : A × B → List ℕ
  spell p = spell_a p.0 ++ spell_b p.0 p.1

  module _ (ea : Exact first GoodA spell_a) (eb : (a : A) → GoodA a → Exact (second a) (GoodB a) (spell_b a)) (some : (a : A) → GoodA a → (b : B) × GoodB a b) where
    -- what stands after a value's bytes
    later : (a : A) (bytes more : List ℕ) (at : ℕ) → drop at bytes ≡ spell_a a ++ more → drop (at + length (spell_a a)) bytes ≡ more
    later a bytes more at e = sym (drop-drop (length (spell_a a)) at bytes) ∙ ap (λ (l : List ℕ). drop (length (spell_a a)) l) e ∙ drop_at (spell_a a) more (length (spell_a a)) refl

    reaches : (a : A) (bytes more : List ℕ) (at : ℕ) → at ≤ length bytes → drop at bytes ≡ spell_a a ++ more → at + length (spell_a a) ≤ length bytes
    reaches a bytes more at h e =
        let left = length-drop at bytes in
        let sized = ap (λ (l : List ℕ). length l) e ∙ length-append (spell_a a) more in
        omega (arith, h, left, sized)

    both_back : (p : A × B) (bytes rest : List ℕ) (at : ℕ) → Good p → at ≤ length bytes → drop at bytes ≡ spell p ++ rest → both first second bytes at ≡ Ok (p, at + length (spell p))
    both_back p bytes rest at g h e =
        let a = p.0 in
        let b = p.1 in
        let parted : drop at bytes ≡ spell_a a ++ (spell_b a b ++ rest) = e ∙ append_assoc (spell_a a) (spell_b a b) rest in
        let one = ea.back a bytes (spell_b a b ++ rest) at g.0 h parted in
        let two = (eb a g.0).back b bytes rest (at + length (spell_a a)) g.1 (reaches a bytes (spell_b a b ++ rest) at h parted) (later a bytes (spell_b a b ++ rest) at parted) in
        let sum : at + length (spell_a a) + length (spell_b a b) ≡ at + length (spell p) = (let l = length-append (spell_a a) (spell_b a b) in omega (arith, l)) in
        rw (one, two, sum) refl

    both_spell : (p : A × B) (bytes : List ℕ) (at next : ℕ) → AreBytes bytes → at ≤ length bytes → both first second bytes at ≡ Ok (p, next) → Stands Good spell bytes at p next
    both_spell p bytes at next y h e = by (first bytes at) refl
      where
        by_two : (a : A) (m : ℕ) → first bytes at ≡ Ok (a, m) → (s : Stands GoodA spell_a bytes at a m) (r : Result (B × ℕ) ℕ) → second a bytes m ≡ r → Stands Good spell bytes at p next
        by_two a m f s (Ok r) t =
            let whole : Ok ((a, r.0), r.1) ≡ Ok (p, next) = sym (let u : both first second bytes at ≡ Ok ((a, r.0), r.1) = rw (f, t) refl in u) ∙ e in
            let same = ok_parts (a, r.0) p r.1 next whole in
            let two = (eb a s.good).spells r.0 bytes m r.1 y s.within t in
            let joined : Stands Good spell bytes at (a, r.0) r.1 = record {
              good = (s.good, two.good);
              spelt = s.spelt ∙ ap (λ (l : List ℕ). spell_a a ++ l) two.spelt ∙ sym (append_assoc (spell_a a) (spell_b a r.0) (drop r.1 bytes));
              after = (let l = length-append (spell_a a) (spell_b a r.0) in omega (arith, s.after, two.after, l));
              within = two.within;
            } in
            subst (λ (n : ℕ). Stands Good spell bytes at p n) same.1 (subst (λ (q : A × B). Stands Good spell bytes at q r.1) same.0 joined)
        by_two a m f s (Err place) t = absurd (let u : both first second bytes at ≡ Err place = rw (f, t) refl in cc)

        by : (r : Result (A × ℕ) ℕ) → first bytes at ≡ r → Stands Good spell bytes at p next
        by (Ok r) f = by_two r.0 r.1 f (ea.spells r.0 bytes at r.1 y h f) (second r.0 bytes r.1) refl
        by (Err place) f = absurd (let u : both first second bytes at ≡ Err place = rw f refl in cc)

    front_of_first : (bytes : List ℕ) (n : ℕ) → Front GoodA spell_a bytes n → Front Good spell bytes n
    front_of_first bytes n f =
        let b = some f.value f.good in
        record {
          value = (f.value, b.0);
          good = (f.good, b.1);
          front = f.front;
          missing = f.missing ++ spell_b f.value b.0;
          rest = f.rest;
          begins = ap (λ (l : List ℕ). l ++ spell_b f.value b.0) f.begins ∙ append_assoc f.front f.missing (spell_b f.value b.0);
          stands = f.stands;
          counted = f.counted;
        }

    both_begin : (bytes : List ℕ) (at place : ℕ) → AreBytes bytes → at ≤ length bytes → both first second bytes at ≡ Err place → at ≤ place × Front Good spell (drop at bytes) (place - at)
    both_begin bytes at place y h e = by (first bytes at) refl
      where
        by_two : (a : A) (m : ℕ) → first bytes at ≡ Ok (a, m) → (s : Stands GoodA spell_a bytes at a m) (r : Result (B × ℕ) ℕ) → second a bytes m ≡ r → at ≤ place × Front Good spell (drop at bytes) (place - at)
        by_two a m f s (Ok r) t = absurd (let u : both first second bytes at ≡ Ok ((a, r.0), r.1) = rw (f, t) refl in cc)
        by_two a m f s (Err q) t =
            let u : both first second bytes at ≡ Err q = rw (f, t) refl in
            let same : q ≡ place = cc in
            let two = (eb a s.good).begins bytes m place y s.within (t ∙ ap (λ (x : ℕ). Err x) same) in
            let g = two.1 in (
              omega (arith, two.0, s.after),
              record {
                value = (a, g.value);
                good = (s.good, g.good);
                front = spell_a a ++ g.front;
                missing = g.missing;
                rest = g.rest;
                begins = ap (λ (l : List ℕ). spell_a a ++ l) g.begins ∙ sym (append_assoc (spell_a a) g.front g.missing);
                stands = s.spelt ∙ ap (λ (l : List ℕ). spell_a a ++ l) g.stands ∙ sym (append_assoc (spell_a a) g.front g.rest);
                counted = (let l = length-append (spell_a a) g.front in omega (arith, l, g.counted, two.0, s.after));
              },
            )

        by : (r : Result (A × ℕ) ℕ) → first bytes at ≡ r → at ≤ place × Front Good spell (drop at bytes) (place - at)
        by (Ok r) f = by_two r.0 r.1 f (ea.spells r.0 bytes at r.1 y h f) (second r.0 bytes r.1) refl
        by (Err q) f =
            let u : both first second bytes at ≡ Err q = rw f refl in
            let same : q ≡ place = cc in
            let one = ea.begins bytes at place y h (f ∙ ap (λ (x : ℕ). Err x) same) in
            (one.0, front_of_first (drop at bytes) (place - at) one.1)

    -- one value alone stands at the beginning of bytes
    one_value : (a b : A) (more other : List ℕ) → GoodA a → GoodA b → spell_a a ++ more ≡ spell_a b ++ other → a ≡ b
    one_value a b more other ga gb e =
        let bytes = spell_a a ++ more in
        let x = ea.back a bytes more 0 ga (omega arith) refl in
        let z = ea.back b bytes other 0 gb (omega arith) e in
        (ok_parts a b (0 + length (spell_a a)) (0 + length (spell_a b)) (sym x ∙ z)).0

    both_most : (bytes : List ℕ) (at place n : ℕ) → AreBytes bytes → at ≤ length bytes → both first second bytes at ≡ Err place → Front Good spell (drop at bytes) n → at + n ≤ place
    both_most bytes at place n y h e f = by (first bytes at) refl
      where
        whole : spell_a f.value.0 ++ spell_b f.value.0 f.value.1 ≡ f.front ++ f.missing
        whole = f.begins

        -- the second value is refused
        past : (a : A) (m : ℕ) (s : Stands GoodA spell_a bytes at a m) → second a bytes m ≡ Err place → Longer (spell_a a) (drop m bytes) f.front f.rest → at + n ≤ place
        past a m s t l =
            let is : a ≡ f.value.0 = one_value a f.value.0 (l.between ++ f.missing) (spell_b f.value.0 f.value.1) s.good f.good.0 (sym (append_assoc (spell_a a) l.between f.missing)
            ∙ ap (λ (x : List ℕ). x ++ f.missing) (sym l.front) ∙ sym whole) in
            let GoodNow = λ (x : A). GoodB x f.value.1 in
            let good : GoodB a f.value.1 = subst GoodNow (sym is) f.good.1 in
            let spelled : spell_a a ++ spell_b a f.value.1 ≡ spell_a a ++ (l.between ++ f.missing) =
            ap (λ (x : A). spell_a x ++ spell_b x f.value.1) is ∙ whole ∙ ap (λ (x : List ℕ). x ++ f.missing) l.front ∙ append_assoc (spell_a a) l.between f.missing in
            let second_front : Front (GoodB a) (spell_b a) (drop m bytes) (length l.between) =
            record {
              value = f.value.1;
              good = good;
              front = l.between;
              missing = f.missing;
              rest = f.rest;
              begins = append_cancel_left (spell_a a) (spell_b a f.value.1)
                  (l.between ++ f.missing) spelled;
              stands = l.rest;
              counted = refl;
            } in
            let bound = (eb a s.good).most bytes m place (length l.between) y s.within t second_front in
            let sized = ap (λ (x : List ℕ). length x) l.front ∙ length-append (spell_a a) l.between in
            omega (arith, bound, sized, s.after, f.counted)

        by_two : (a : A) (m : ℕ) → first bytes at ≡ Ok (a, m) → (s : Stands GoodA spell_a bytes at a m) (r : Result (B × ℕ) ℕ) → second a bytes m ≡ r → at + n ≤ place
        by_two a m g s (Ok r) t = absurd (let u : both first second bytes at ≡ Ok ((a, r.0), r.1) = rw (g, t) refl in cc)
        by_two a m g s (Err q) t =
            let u : both first second bytes at ≡ Err q = rw (g, t) refl in
            let same : q ≡ place = cc in
            let told : second a bytes m ≡ Err place = t ∙ ap (λ (x : ℕ). Err x) same in
            let two = (eb a s.good).begins bytes m place y s.within told in
            elim (two_parts (spell_a a) (drop m bytes) f.front f.rest (sym s.spelt ∙ f.stands)) [
              | inl l ↦ past a m s told l
              | inr l ↦ (let sized = ap (λ (x : List ℕ). length x) l.front ∙ length-append f.front l.between in omega (arith, sized, two.0, s.after, f.counted))
            ]

        by : (r : Result (A × ℕ) ℕ) → first bytes at ≡ r → at + n ≤ place
        by (Ok r) g = by_two r.0 r.1 g (ea.spells r.0 bytes at r.1 y h g) (second r.0 bytes r.1) refl
        by (Err q) g =
            let u : both first second bytes at ≡ Err q = rw g refl in
            let same : q ≡ place = cc in
            let told : first bytes at ≡ Err place = g ∙ ap (λ (x : ℕ). Err x) same in
            elim (two_parts f.front f.missing (spell_a f.value.0) (spell_b f.value.0 f.value.1) (sym whole)) [
              | inl l ↦ ea.most bytes at place n y h told (record { value = f.value.0; good = f.good.0; front = f.front; missing = l.between; rest = f.rest; begins = l.front; stands = f.stands; counted = f.counted })
              | inr l ↦ absurd (
                  let stands : drop at bytes ≡ spell_a f.value.0 ++ (l.between ++ f.rest) = f.stands ∙ ap (λ (x : List ℕ). x ++ f.rest) l.front ∙ append_assoc (spell_a f.value.0) l.between f.rest in
                  let read = ea.back f.value.0 bytes (l.between ++ f.rest) at f.good.0 h stands in
                  cc)
            ]

    pub are_both : Exact (both first second) Good spell
    are_both = record { back = both_back; spells = both_spell; begins = both_begin; most = both_most }

-- ---- a value that another one stands for

module _ {A C : Type 0} (f : A → C) (part : C → A) (read : Reader A) (GoodA : A → Type 0) (spell_a : A → List ℕ) (GoodC : C → Type 0) (spell_c : C → List ℕ) where
  -- each good value of the one type stands for one of the other, with the same bytes
  pub record Same : Type 0 where
    pub good_part : (c : C) → GoodC c → GoodA (part c)
    pub whole : (c : C) → GoodC c → f (part c) ≡ c
    pub spelt : (c : C) → GoodC c → spell_c c ≡ spell_a (part c)
    pub good_whole : (a : A) → GoodA a → GoodC (f a)
    pub parted : (a : A) → GoodA a → part (f a) ≡ a

  module _ (s : Same) (e : Exact read GoodA spell_a) where
    same_bytes : (a : A) → GoodA a → spell_c (f a) ≡ spell_a a
    same_bytes a g = s.spelt (f a) (s.good_whole a g) ∙ ap spell_a (s.parted a g)

    made_back : (c : C) (bytes rest : List ℕ) (at : ℕ) → GoodC c → at ≤ length bytes → drop at bytes ≡ spell_c c ++ rest → made f read bytes at ≡ Ok (c, at + length (spell_c c))
    made_back c bytes rest at g h d =
        let one = e.back (part c) bytes rest at (s.good_part c g) h (d ∙ ap (λ (l : List ℕ). l ++ rest) (s.spelt c g)) in
        let is = s.whole c g in
        let sized : at + length (spell_a (part c)) ≡ at + length (spell_c c) = ap (λ (l : List ℕ). at + length l) (sym (s.spelt c g)) in
        rw (one, is, sized) refl

    made_spell : (c : C) (bytes : List ℕ) (at next : ℕ) → AreBytes bytes → at ≤ length bytes → made f read bytes at ≡ Ok (c, next) → Stands GoodC spell_c bytes at c next
    made_spell c bytes at next y h d = by (read bytes at) refl
      where
        by : (r : Result (A × ℕ) ℕ) → read bytes at ≡ r → Stands GoodC spell_c bytes at c next
        by (Ok r) t =
            let made_is : made f read bytes at ≡ Ok (f r.0, r.1) = rw t refl in
            let same = ok_parts (f r.0) c r.1 next (sym made_is ∙ d) in
            let one = e.spells r.0 bytes at r.1 y h t in
            let sized = same_bytes r.0 one.good in
            let joined : Stands GoodC spell_c bytes at (f r.0) r.1 = record {
              good = s.good_whole r.0 one.good;
              spelt = one.spelt
                  ∙ ap (λ (l : List ℕ). l ++ drop r.1 bytes) (sym sized);
              after = one.after ∙ ap (λ (l : List ℕ). at + length l) (sym sized);
              within = one.within;
            } in
            subst (λ (n : ℕ). Stands GoodC spell_c bytes at c n) same.1 (subst (λ (q : C). Stands GoodC spell_c bytes at q r.1) same.0 joined)
        by (Err q) t = absurd (let u : made f read bytes at ≡ Err q = rw t refl in cc)

    refused : (bytes : List ℕ) (at place : ℕ) → made f read bytes at ≡ Err place → read bytes at ≡ Err place
    refused bytes at place d = by (read bytes at) refl
      where
        by : (r : Result (A × ℕ) ℕ) → read bytes at ≡ r → read bytes at ≡ Err place
        by (Ok r) t = absurd (let u : made f read bytes at ≡ Ok (f r.0, r.1) = rw t refl in cc)
        by (Err q) t = let u : made f read bytes at ≡ Err q = rw t refl in let same : q ≡ place = cc in t ∙ ap (λ (x : ℕ). Err x) same

    made_begin : (bytes : List ℕ) (at place : ℕ) → AreBytes bytes → at ≤ length bytes → made f read bytes at ≡ Err place → at ≤ place × Front GoodC spell_c (drop at bytes) (place - at)
    made_begin bytes at place y h d =
        let one = e.begins bytes at place y h (refused bytes at place d) in
        let g = one.1 in (
          one.0,
          record {
            value = f g.value;
            good = s.good_whole g.value g.good;
            front = g.front;
            missing = g.missing;
            rest = g.rest;
            begins = same_bytes g.value g.good
                ∙ g.begins;
            stands = g.stands;
            counted = g.counted;
          },
        )

    made_most : (bytes : List ℕ) (at place n : ℕ) → AreBytes bytes → at ≤ length bytes → made f read bytes at ≡ Err place → Front GoodC spell_c (drop at bytes) n → at + n ≤ place
    made_most bytes at place n y h d g =
        e.most bytes at place n y h (refused bytes at place d)
        (record { value = part g.value; good = s.good_part g.value g.good; front = g.front; missing = g.missing; rest = g.rest; begins = sym (s.spelt g.value g.good) ∙ g.begins; stands = g.stands; counted = g.counted })

    pub is_made : Exact (made f read) GoodC spell_c
    is_made = record { back = made_back; spells = made_spell; begins = made_begin; most = made_most }

-- ---- nothing

module _ {A : Type 0} (a : A) (Good : A → Type 0) (spell : A → List ℕ) (good : Good a) (only : (x : A) → Good x → x ≡ a) (empty : spell a ≡ []) where
  pub is_nothing : Exact (nothing a) Good spell
  is_nothing = record {
    back = λ x bytes rest at g h e. (let same = only x g in let long : at ≡ at + length (spell x) = (let l = ap (λ (y : A). length (spell y)) same
        ∙ ap (λ (l : List ℕ). length l) empty in omega (arith, l)) in ap (λ (n : ℕ). answer (a, n)) long ∙ ap (λ (y : A). answer (y, at + length (spell x))) (sym same));
    spells = λ x bytes at next y h e.
        (let parts = ok_parts a x at next e in
        let none : spell x ≡ [] = ap spell (sym parts.0) ∙ empty in
        record {
          good = subst Good parts.0 good;
          spelt = ap (λ (n : ℕ). drop n bytes) parts.1
              ∙ ap (λ (l : List ℕ). l ++ drop next bytes) (sym none);
          after = (let l = ap (λ (l : List ℕ). length l) none in omega (arith, l, parts.1));
          within = omega (arith, parts.1, h);
        });
    begins = λ bytes at place y h e. absurd cc;
    most = λ bytes at place n y h e f. absurd cc;
  }

-- ---- any n bytes

module _ (n : ℕ) where
  there : (bytes : List ℕ) (at : ℕ) → n ≤ length bytes - at → text n bytes at ≡ Ok (take n (drop at bytes), at + n)
  there bytes at h = rw (le-leb n (length bytes - at) h) refl

  cut : (bytes : List ℕ) (at : ℕ) → length bytes - at < n → text n bytes at ≡ Err (length bytes)
  cut bytes at h = rw (lt-leb n (length bytes - at) h) refl

  text_back : (l bytes rest : List ℕ) (at : ℕ) → length l ≡ n → at ≤ length bytes → drop at bytes ≡ l ++ rest → text n bytes at ≡ Ok (l, at + length l)
  text_back l bytes rest at g h e =
      let left = length-drop at bytes in
      let sized = ap (λ (x : List ℕ). length x) e ∙ length-append l rest in
      let taken : take n (drop at bytes) ≡ l = ap (λ (x : List ℕ). take n x) e ∙ take_at l rest n g in
      there bytes at (omega (arith, left, sized, g)) ∙ ap (λ (x : List ℕ). Ok (x, at + n)) taken ∙ ap (λ (k : ℕ). Ok (l, at + k)) (sym g)

  text_spell : (l bytes : List ℕ) (at next : ℕ) → at ≤ length bytes → text n bytes at ≡ Ok (l, next) → Stands (λ x. length x ≡ n) (λ x. x) bytes at l next
  text_spell l bytes at next h e = by (nat_le n (length bytes - at)) refl
    where
      by : (b : Bool) → nat_le n (length bytes - at) ≡ b → Stands (λ x. length x ≡ n) (λ x. x) bytes at l next
      by true t =
          let fits = leb-true n (length bytes - at) t in
          let parts = ok_parts (take n (drop at bytes)) l (at + n) next (sym (there bytes at fits) ∙ e) in
          let left = length-drop at bytes in
          let long : length l ≡ n = ap (λ (x : List ℕ). length x) (sym parts.0) ∙ length-take-le n (drop at bytes) (omega (arith, left, fits)) in
          record {
            good = long;
            spelt = sym (take-append-drop n (drop at bytes)) ∙ ap (λ (x : List ℕ). x ++ drop n (drop at bytes)) parts.0 ∙ ap (λ (x : List ℕ). l ++ x) (drop-drop n at bytes
                ∙ ap (λ (k : ℕ). drop k bytes) parts.1);
            after = omega (arith, parts.1, long);
            within = omega (arith, parts.1, fits, h);
          }
      by false t = absurd (let u : text n bytes at ≡ Err (length bytes) = rw t refl in cc)

  text_cut : (bytes : List ℕ) (at place : ℕ) → text n bytes at ≡ Err place → (length bytes - at < n) × (place ≡ length bytes)
  text_cut bytes at place e = by (nat_le n (length bytes - at)) refl
    where
      by : (b : Bool) → nat_le n (length bytes - at) ≡ b → (length bytes - at < n) × (place ≡ length bytes)
      by true t = absurd (let u : text n bytes at ≡ Ok (take n (drop at bytes), at + n) = rw t refl in cc)
      by false t = (leb-false n (length bytes - at) t, (let u : text n bytes at ≡ Err (length bytes) = rw t refl in let same : length bytes ≡ place = cc in sym same))

  text_begin : (bytes : List ℕ) (at place : ℕ) → at ≤ length bytes → text n bytes at ≡ Err place → at ≤ place × Front (λ x. length x ≡ n) (λ x. x) (drop at bytes) (place - at)
  text_begin bytes at place h e =
      let c = text_cut bytes at place e in
      let left = length-drop at bytes in
      let zeros : ℕ = 0 in
      let more = replicate (n - (length bytes - at)) zeros in
      let sized = length-append (drop at bytes) more in
      let count = length-replicate (n - (length bytes - at)) zeros in (
        omega (arith, c.1, h),
        record {
          value = drop at bytes ++ more;
          good = omega (arith, sized, count, left, c.0);
          front = drop at bytes;
          missing = more;
          rest = [];
          begins = refl;
          stands = sym
              (append-nil (drop at bytes));
          counted = omega (arith, left, c.1);
        },
      )

  text_most : (bytes : List ℕ) (at place m : ℕ) → at ≤ length bytes → text n bytes at ≡ Err place → Front (λ x. length x ≡ n) (λ x. x) (drop at bytes) m → at + m ≤ place
  text_most bytes at place m h e f =
      let c = text_cut bytes at place e in
      let left = length-drop at bytes in
      let sized = ap (λ (x : List ℕ). length x) f.stands ∙ length-append f.front f.rest in
      omega (arith, c.1, left, sized, f.counted, h)

  pub is_text : Exact (text n) (λ x. length x ≡ n) (λ x. x)
  is_text = record {
    back = λ l bytes rest at g h e. text_back l bytes rest at g h e;
    spells = λ l bytes at next y h e. text_spell l bytes at next h e;
    begins = λ bytes at place y h e. text_begin bytes at
        place h e;
    most = λ bytes at place m y h e f. text_most bytes at place m h e f;
  }

-- ---- many

module _ {A : Type 0} (read : ℕ → Reader A) (Good : ℕ → A → Type 0) (spell_one : A → List ℕ) (exact : (i : ℕ) → Exact (read i) (Good i) spell_one) (some : (i : ℕ) → (a : A) × Good i a) where
  some_many : (i n : ℕ) → (l : List A) × AreGood Good i n l
  some_many i zero = ([], tt)
  some_many i (suc n) = let a = some i in let l = some_many (i + 1) n in (a.0 ∷ l.0, (a.1, l.1))

  -- a list of which there is one element at least, as that and the others: where there is none, any element
  abbrev halves : A → List A → A × List A
  halves d [] = (d, [])
  halves d (a ∷ l) = (a, l)

  listed : (i n : ℕ) → Same first_of_list (halves (some i).0) (both (read i) (λ a. many read (i + 1) n)) (λ p. Good i p.0
      × AreGood Good (i + 1) n p.1) (λ p. spell_one p.0 ++ flat_map spell_one p.1) (AreGood Good i (suc n)) (flat_map spell_one)
  listed i n = record { good_part = good_part; whole = whole; spelt = spelt; good_whole = λ p g. g; parted = λ p g. refl }
    where
      good_part : (c : List A) → AreGood Good i (suc n) c → Good i (halves (some i).0 c).0 × AreGood Good (i + 1) n (halves (some i).0 c).1
      good_part [] g = absurd g
      good_part (a ∷ l) g = g

      whole : (c : List A) → AreGood Good i (suc n) c → first_of_list (halves (some i).0 c) ≡ c
      whole [] g = absurd g
      whole (a ∷ l) g = refl

      spelt : (c : List A) → AreGood Good i (suc n) c → flat_map spell_one c ≡ spell_one (halves (some i).0 c).0 ++ flat_map spell_one (halves (some i).0 c).1
      spelt [] g = absurd g
      spelt (a ∷ l) g = refl

  none_only : (i : ℕ) (l : List A) → AreGood Good i zero l → l ≡ []
  none_only i [] g = refl
  none_only i (a ∷ l) g = absurd g

  pub are_many : (i n : ℕ) → Exact (many read i n) (AreGood Good i n) (flat_map spell_one)
  unfolding many
  are_many i zero = is_nothing [] (AreGood Good i zero) (flat_map spell_one) tt (none_only i) refl
  are_many i (suc n) =
      is_made first_of_list (halves (some i).0) (both (read i) (λ a. many read (i + 1) n)) (λ p. Good i p.0
      × AreGood Good (i + 1) n p.1) (λ p. spell_one p.0 ++ flat_map spell_one p.1) (AreGood Good i (suc n)) (flat_map spell_one) (listed i n)
      (are_both (read i) (λ a. many read (i + 1) n) (Good i) (λ a l. AreGood Good (i + 1) n l) spell_one (λ a l. flat_map spell_one l) (exact i) (λ a g. are_many (i + 1) n) (λ a g. some_many (i + 1) n))
