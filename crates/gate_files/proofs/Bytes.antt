-- What the two writes of a record make of a file's bytes, done or torn.
use Rattle.std.proofs.Common.{◌≡◌, ◌≢◌, ◌⊎◌, ℕ, ◌+◌, ◌-◌, ◌≤◌, List, [], ◌∷◌, ◌++◌, length, take, drop, get_or, sym, ◌∙◌, ap, subst, refl, inl, inr, ⊎_elim, arith, append_assoc, length-append, take-append-drop}
use Rattle.std.proofs.lemmas.List.{take_at, take-take, take-append-le, drop_at, drop_more, flat_map_more}
use Rattle.std.proofs.lemmas.Bool.Decides.{eqb_tells}
use Rattle.disk_model.specs.Bytes.{written}
use Rattle.disk_model.specs.Crash.{Torn}
use Rattle.gate_files.specs.Gates.{opened, gated, framed, header, Opens, OldOrNew}

-- a gate after these records, and after it a record with a closed gate
abbrev pub Ready : List (List ℕ) → List ℕ → List ℕ → Type 0
Ready rs r bytes = (gate : ℕ) × (tail : List ℕ) × (bytes ≡ opened rs ++ gate ∷ (framed r ++ tail))

-- a write that leaves no gap
pub written_within : (at : ℕ) (bytes old : List ℕ) → at ≤ length old → written at bytes old ≡ take at old ++ bytes ++ drop (at + length bytes) old
written_within at bytes old within = ap (λ (l : List ℕ). l ++ bytes ++ drop (at + length bytes) old) (take-append-le at old _ within)

-- what a torn write left before its place, where it left no gap
before_torn : (at n : ℕ) (old new : List ℕ) → at ≤ length old → Torn at n old new → take at new ≡ take at old
before_torn at n old new within torn = sym (take-take at (length old) new within) ∙ torn.before

module _ (pre : List ℕ) (k : ℕ) (at : k ≡ length pre) where
  past : (g : ℕ) (rest : List ℕ) → pre ++ g ∷ rest ≡ (pre ++ g ∷ []) ++ rest
  past g rest = sym (append_assoc pre (g ∷ []) rest)

  long : (g : ℕ) → length (pre ++ g ∷ []) ≡ k + 1
  long g = omega (arith, length-append pre (g ∷ []), at)

  front : (g : ℕ) (rest : List ℕ) → take (k + 1) (pre ++ g ∷ rest) ≡ pre ++ g ∷ []
  front g rest = ap (λ (l : List ℕ). take (k + 1) l) (past g rest) ∙ take_at (pre ++ g ∷ []) rest (k + 1) (long g)

  back : (g : ℕ) (rest : List ℕ) → drop (k + 1) (pre ++ g ∷ rest) ≡ rest
  back g rest = ap (λ (l : List ℕ). drop (k + 1) l) (past g rest) ∙ drop_at (pre ++ g ∷ []) rest (k + 1) (long g)

  size : (g : ℕ) (rest : List ℕ) → length (pre ++ g ∷ rest) ≡ k + 1 + length rest
  size g rest = omega (arith, length-append pre (g ∷ rest), at)

  -- a torn write after the gate leaves the gate
  pub torn_after : (n g : ℕ) (junk c : List ℕ) → Torn (k + 1) n (pre ++ g ∷ junk) c → c ≡ pre ++ g ∷ drop (k + 1) c
  torn_after n g junk c torn =
      let first : take (k + 1) c ≡ pre ++ g ∷ [] = before_torn (k + 1) n (pre ++ g ∷ junk) c (omega (arith, size g junk)) torn ∙ front g junk in
      sym (take-append-drop (k + 1) c) ∙ ap (λ (l : List ℕ). l ++ drop (k + 1) c) first ∙ append_assoc pre (g ∷ []) (drop (k + 1) c)

  -- a write after the gate
  pub written_after : (g : ℕ) (junk body : List ℕ) → written (k + 1) body (pre ++ g ∷ junk) ≡ pre ++ g ∷ (body ++ drop (k + 1 + length body) (pre ++ g ∷ junk))
  written_after g junk body =
      let more = drop (k + 1 + length body) (pre ++ g ∷ junk) in
      written_within (k + 1) body (pre ++ g ∷ junk) (omega (arith, size g junk)) ∙ ap (λ (l : List ℕ). l ++ body ++ more) (front g junk) ∙ ap (λ (l : List ℕ). l ++ more) (append_assoc pre (g ∷ []) body) ∙ append_assoc pre (g ∷ body) more

  -- a torn write of the gate leaves what was before and after it, and may leave more
  pub torn_gate : (g : ℕ) (rest c : List ℕ) → Torn k 1 (pre ++ g ∷ rest) c → c ≡ pre ++ get_or c k 0 ∷ (rest ++ drop (length rest) (drop (k + 1) c))
  torn_gate g rest c torn =
      let len = size g rest in
      let many : length rest ≡ length (pre ++ g ∷ rest) - (k + 1) = omega (arith, len) in
      let tail : take (length rest) (drop (k + 1) c) ≡ rest = ap (λ (n : ℕ). take n (drop (k + 1) c)) many ∙ torn.after ∙ back g rest in
      let whole : drop (k + 1) c ≡ rest ++ drop (length rest) (drop (k + 1) c) = sym (take-append-drop (length rest) (drop (k + 1) c)) ∙ ap (λ (l : List ℕ). l ++ drop (length rest) (drop (k + 1) c)) tail in
      let first : take k c ≡ pre = before_torn k 1 (pre ++ g ∷ rest) c (omega (arith, len)) torn ∙ take_at pre (g ∷ rest) k (sym at) in
      let at_gate : drop k c ≡ get_or c k 0 ∷ drop (k + 1) c = drop_more c k 0 (omega (arith, torn.no_shorter, len)) in
      sym (take-append-drop k c) ∙ ap (λ (l : List ℕ). l ++ drop k c) first ∙ ap (λ (l : List ℕ). pre ++ l) (at_gate ∙ ap (λ (l : List ℕ). get_or c k 0 ∷ l) whole)

  -- a write of the gate
  pub written_gate : (g : ℕ) (rest : List ℕ) → written k (1 ∷ []) (pre ++ g ∷ rest) ≡ pre ++ 1 ∷ rest
  written_gate g rest =
      written_within k (1 ∷ []) (pre ++ g ∷ rest) (omega (arith, size g rest)) ∙ ap (λ (l : List ℕ). l ++ (1 ∷ []) ++ drop (k + 1) (pre ++ g ∷ rest)) (take_at pre (g ∷ rest) k (sym at)) ∙ ap (λ (l : List ℕ). (pre ++ 1 ∷ []) ++ l) (back g rest) ∙ append_assoc pre (1 ∷ []) rest

-- one record more
pub opened_push : (rs : List (List ℕ)) (r : List ℕ) → opened (rs ++ r ∷ []) ≡ opened rs ++ gated r
opened_push rs r = sym (flat_map_more gated header rs r)

is_open : (gate : ℕ) → (gate ≡ 1) ⊎ (gate ≢ 1)
is_open gate = ⊎_elim (λ p. inl p.1) (λ p. inr p.1) (eqb_tells gate 1)

-- an open gate before a record with a closed one
open_opens : (rs : List (List ℕ)) (r tail bytes : List ℕ) → bytes ≡ opened rs ++ 1 ∷ (framed r ++ tail) → Opens (rs ++ r ∷ []) bytes
open_opens rs r tail bytes e =
    let split : 1 ∷ (framed r ++ tail) ≡ gated r ++ 0 ∷ tail = append_assoc (gated r) (0 ∷ []) tail in
    (0 ∷ tail, e ∙ ap (λ (l : List ℕ). opened rs ++ l) split ∙ sym (append_assoc (opened rs) (gated r) (0 ∷ tail)) ∙ ap (λ (l : List ℕ). l ++ 0 ∷ tail) (sym (opened_push rs r)), (0, tail, refl, omega arith))

-- whatever the gate is, the records are those of before, or there is one more
pub ready_either : (rs : List (List ℕ)) (r bytes : List ℕ) → Ready rs r bytes → OldOrNew rs r bytes
ready_either rs r bytes ready =
    let tail = ready.1 in
    let new : ready.0 ≡ 1 → OldOrNew rs r bytes = λ e. inr (open_opens rs r tail bytes (ready.2 ∙ ap (λ (n : ℕ). opened rs ++ n ∷ (framed r ++ tail)) e)) in
    let old : ready.0 ≢ 1 → OldOrNew rs r bytes = λ e. inl (ready.0 ∷ (framed r ++ tail), ready.2, (ready.0, framed r ++ tail, refl, e)) in
    ⊎_elim new old (is_open ready.0)

module _ (rs : List (List ℕ)) (gate : ℕ) (place : gate ≡ length (opened rs)) where
  -- the first write, torn
  pub opens_torn : (n : ℕ) (old new : List ℕ) → Opens rs old → Torn (gate + 1) n old new → Opens rs new
  opens_torn n old new opens torn =
      let g = opens.2.0 in
      let junk = opens.2.1 in
      let stands : old ≡ opened rs ++ g ∷ junk = opens.1 ∙ ap (λ (l : List ℕ). opened rs ++ l) opens.2.2 in
      let T : List ℕ → Type 0 = λ b. Torn (gate + 1) n b new in
      (g ∷ drop (gate + 1) new, torn_after (opened rs) gate place n g junk new (subst T stands torn), (g, drop (gate + 1) new, refl, opens.2.3))

  -- the first write, done
  pub opens_written : (r old : List ℕ) → Opens rs old → Ready rs r (written (gate + 1) (framed r) old)
  opens_written r old opens =
      let g = opens.2.0 in
      let junk = opens.2.1 in
      let stands : old ≡ opened rs ++ g ∷ junk = opens.1 ∙ ap (λ (l : List ℕ). opened rs ++ l) opens.2.2 in
      (g, drop (gate + 1 + length (framed r)) (opened rs ++ g ∷ junk), ap (written (gate + 1) (framed r)) stands ∙ written_after (opened rs) gate place g junk (framed r))

  -- the second write, torn
  pub ready_torn : (r old new : List ℕ) → Ready rs r old → Torn gate 1 old new → Ready rs r new
  ready_torn r old new ready torn =
      let rest = framed r ++ ready.1 in
      let T : List ℕ → Type 0 = λ b. Torn gate 1 b new in
      let more = drop (length rest) (drop (gate + 1) new) in
      (get_or new gate 0, ready.1 ++ more, torn_gate (opened rs) gate place ready.0 rest new (subst T ready.2 torn) ∙ ap (λ (l : List ℕ). opened rs ++ get_or new gate 0 ∷ l) (append_assoc (framed r) ready.1 more))

  -- the second write, done
  pub ready_written : (r old : List ℕ) → Ready rs r old → Opens (rs ++ r ∷ []) (written gate (1 ∷ []) old)
  ready_written r old ready = open_opens rs r ready.1 _ (ap (written gate (1 ∷ [])) ready.2 ∙ written_gate (opened rs) gate place ready.0 (framed r ++ ready.1))

  -- the place of the next gate
  pub next_place : (r : List ℕ) → gate + length (framed r) ≡ length (opened (rs ++ r ∷ []))
  next_place r = omega (arith, place, ap length (opened_push rs r), length-append (opened rs) (gated r), length-append r (0 ∷ []))
