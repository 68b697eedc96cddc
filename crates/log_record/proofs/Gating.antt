-- The records of a file, one gate after the other.
use Rattle.std.proofs.Common.{◌≡◌, ℕ, suc, ◌+◌, ◌-◌, ◌<◌, ◌≢◌, List, [], ◌∷◌, ◌++◌, Bool, true, false, Some, None, Ok, Err, length, drop, get_or, refl, sym, ap, ◌∙◌, append_assoc, length-append, IsErrOf, arith}
use Rattle.std.specs.Prelude.{◌==◌, nat_lt, take, if◌then◌else◌}
use Rattle.std.specs.Str.{bytes_eq}
use Rattle.std.proofs.lemmas.Bool.{eq-eqb, eqb-true, ne_eqb, ltb-true, and_parts}
use Rattle.std.proofs.lemmas.List.{append-nil, take-append-drop}
use Rattle.log_record.specs.Record.{record_bytes}
use Rattle.log_record.proofs.Standing.{IsGated}
use Rattle.log_record.specs.declared.fault.StoreFault.TheVariants.{BadStore}
use Rattle.log_record.specs.declared.record.Record.{Record}
use Rattle.log_record.specs.declared.reached.Reached.{Reached}
use Rattle.gate_files.specs.Gates.{gated, header}
use Rattle.log_record.specs.Store.{AreSmall, IsSmall, IsWhole, Opening, all_gated, after, begins, follows, from_place, gated_at, nothing_yet, reached, store_of, with_record}

-- records before those that are read
abbrev pub before : List Record → Opening → Opening
before rs (Ok o) = Ok (rs ++ o.0, o.1)
before rs (Err at) = Err at

before_one : (rs : List Record) (r : Record) (o : Opening) → before rs (with_record r o) ≡ before (rs ++ r ∷ []) o
before_one rs r (Ok o) = ap (λ (l : List Record). let x : Opening = Ok (l, o.1) in x) (sym (append_assoc rs (r ∷ []) o.0))
before_one rs r (Err at) = refl

before_none : (o : Opening) → before [] o ≡ o
before_none (Ok o) = refl
before_none (Err at) = refl

pub reached_one : (file : ℕ) (s t : Reached) (rs : List Record) (r : Record) → reached file s rs ≡ Some t → follows file t r ≡ true → reached file s (rs ++ r ∷ []) ≡ Some (after t r)
reached_one file s t [] r e f = let same : s ≡ t = cc in rw (same, f) refl
reached_one file s t (q ∷ rs) r e f = by (follows file s q) (λ e'. reached_one file (after s q) t rs r e' f) e
  where
    by : (b : Bool) → (reached file (after s q) rs ≡ Some t → reached file (after s q) (rs ++ r ∷ []) ≡ Some (after t r)) → (if b then reached file (after s q) rs else None) ≡ Some t → (if b then reached file (after s q) (rs ++ r ∷ []) else None) ≡ Some (after t r)
    by true more e = more e
    by false more e = absurd cc

pub small_push : (rs : List Record) (r : Record) → AreSmall rs → IsSmall r → AreSmall (rs ++ r ∷ [])
small_push [] r a s = (s, tt)
small_push (q ∷ rs) r a s = (a.0, small_push rs r a.1 s)

-- one record more after its gate
pub all_gated_push : (rs : List Record) (r : Record) → all_gated rs ++ gated (record_bytes r) ≡ all_gated (rs ++ r ∷ [])
all_gated_push [] r = sym (append-nil (gated (record_bytes r)))
all_gated_push (q ∷ rs) r = append_assoc (gated (record_bytes q)) (all_gated rs) (gated (record_bytes r)) ∙ ap (λ (l : List ℕ). gated (record_bytes q) ++ l) (all_gated_push rs r)

pub gated_push : (rs : List Record) (r : Record) → (header ++ all_gated rs) ++ gated (record_bytes r) ≡ header ++ all_gated (rs ++ r ∷ [])
gated_push rs r = append_assoc header (all_gated rs) (gated (record_bytes r)) ∙ ap (λ (l : List ℕ). header ++ l) (all_gated_push rs r)

bytes_eq_true : (a b : List ℕ) → bytes_eq a b ≡ true → a ≡ b
bytes_eq_true [] [] e = refl
bytes_eq_true [] (y ∷ b) e = absurd cc
bytes_eq_true (x ∷ a) [] e = absurd cc
bytes_eq_true (x ∷ a) (y ∷ b) e =
    let p = and_parts (x == y) (bytes_eq a b) e in
    let head = eqb-true x y p.0 in
    rw head (ap (λ (l : List ℕ). y ∷ l) (bytes_eq_true a b p.1))

-- bytes that begin with the header
begun : (bytes : List ℕ) → begins bytes ≡ true → bytes ≡ (header ++ all_gated []) ++ drop 8 bytes
begun bytes b =
    let same = bytes_eq_true (take 8 bytes) header (and_parts (nat_lt 8 (length bytes)) (bytes_eq (take 8 bytes) header) b).1 in
    sym (take-append-drop 8 bytes) ∙ ap (λ (l : List ℕ). l ++ drop 8 bytes) same

-- what a refusal names
pub named : {T : Type 0} (file f place at : ℕ) → IsErrOf {T = T} (Err (BadStore file place)) (BadStore f at) → (file ≡ f) × (place ≡ at)
named file f place at e = (cc, cc)

module _ (file : ℕ) (bytes : List ℕ) where
  module _ (n : ℕ) (s : Reached) (at : ℕ) where
    closed : (get_or bytes at 0 == 1) ≡ false → from_place (suc n) file s bytes at ≡ Ok ([], at)
    unfolding from_place
    closed e = rw e refl

    nothing_gated : (get_or bytes at 0 == 1) ≡ true → gated_at bytes at ≡ None → from_place (suc n) file s bytes at ≡ Err at
    unfolding from_place
    nothing_gated e g = rw (e, g) refl

    module _ (r : Record) (next : ℕ) (e : (get_or bytes at 0 == 1) ≡ true) (g : gated_at bytes at ≡ Some (r, next)) where
      not_following : follows file s r ≡ false → from_place (suc n) file s bytes at ≡ Err at
      unfolding from_place
      not_following f = rw (e, g, f) refl

      following : follows file s r ≡ true → from_place (suc n) file s bytes at ≡ with_record r (from_place n file (after s r) bytes next)
      unfolding from_place
      following f = rw (e, g, f) refl

  -- what was read, with what the rest gives, is the whole; each record took five bytes at least
  pub record Goes (rs : List Record) (gate : ℕ) (s : Reached) : Type 0 where
    pub within : gate < length bytes
    pub moved : length rs < gate
    pub small : AreSmall rs
    pub stands : bytes ≡ (header ++ all_gated rs) ++ drop gate bytes
    pub place : gate ≡ length (header ++ all_gated rs)
    pub reaches : reached file nothing_yet rs ≡ Some s
    pub whole : before rs (from_place (length bytes - length rs) file s bytes gate) ≡ store_of file bytes

  pub refused : begins bytes ≡ false → store_of file bytes ≡ Err 0
  unfolding store_of
  refused b = rw b refl

  pub start : begins bytes ≡ true → 8 < length bytes → Goes [] 8 nothing_yet
  unfolding store_of
  start b l =
      let n : length bytes - 0 ≡ length bytes = omega arith in
      record { within = l; moved = omega arith; small = tt; stands = begun bytes b; place = refl; reaches = refl; whole = before_none (from_place (length bytes - 0) file nothing_yet bytes 8) ∙ ap (λ (k : ℕ). from_place k file nothing_yet bytes 8) n ∙ sym (let whole : store_of file bytes ≡ from_place (length bytes) file nothing_yet bytes 8 = rw b refl in whole) }

  module _ (rs : List Record) (gate : ℕ) (s : Reached) (g : Goes rs gate s) where
    n : ℕ
    n = length bytes - length rs - 1

    left : from_place (length bytes - length rs) file s bytes gate ≡ from_place (suc (length bytes - length rs - 1)) file s bytes gate
    left = let k : length bytes - length rs ≡ suc (length bytes - length rs - 1) = omega (arith, g.within, g.moved) in ap (λ (x : ℕ). from_place x file s bytes gate) k

    pub stops : get_or bytes gate 0 ≢ 1 → store_of file bytes ≡ Ok (rs, gate)
    stops e = sym g.whole ∙ ap (before rs) (left ∙ closed (length bytes - length rs - 1) s gate (ne_eqb (get_or bytes gate 0) 1 e)) ∙ ap (λ (l : List Record). let x : Opening = Ok (l, gate) in x) (append-nil rs)

    pub is_whole : get_or bytes gate 0 ≢ 1 → IsWhole file bytes rs gate s
    is_whole e = record { small = g.small; stands = g.stands; place = g.place; within = g.within; shut = e; reaches = g.reaches }

    module _ (open_gate : get_or bytes gate 0 ≡ 1) where
      is_open : (get_or bytes gate 0 == 1) ≡ true
      is_open = eq-eqb (get_or bytes gate 0) 1 open_gate

      pub no_record : gated_at bytes gate ≡ None → store_of file bytes ≡ Err gate
      no_record e = sym g.whole ∙ ap (before rs) (left ∙ nothing_gated (length bytes - length rs - 1) s gate is_open e)

      module _ (r : Record) (next : ℕ) (e : gated_at bytes gate ≡ Some (r, next)) where
        pub must_not_follow : follows file s r ≡ false → store_of file bytes ≡ Err gate
        must_not_follow f = sym g.whole ∙ ap (before rs) (left ∙ not_following (length bytes - length rs - 1) s gate r next is_open e f)

        pub goes_on : follows file s r ≡ true → gate < next → next < length bytes → IsGated bytes gate r next → Goes (rs ++ r ∷ []) next (after s r)
        goes_on f more within there =
            let sized = length-append rs (r ∷ []) in
            let k : length bytes - length (rs ++ r ∷ []) ≡ length bytes - length rs - 1 = omega (arith, sized) in
            record {
              within = within;
              moved = omega (arith, sized, g.moved, more);
              small = small_push rs r g.small there.small;
              stands = g.stands ∙ ap (λ (l : List ℕ). (header ++ all_gated rs) ++ l) there.spelt_there ∙ sym (append_assoc (header ++ all_gated rs) (gated (record_bytes r)) (drop next bytes)) ∙ ap (λ (l : List ℕ). l ++ drop next bytes) (gated_push rs r);
              place = there.place ∙ ap (λ (k : ℕ). k + length (gated (record_bytes r))) g.place ∙ sym (length-append (header ++ all_gated rs) (gated (record_bytes r))) ∙ ap (λ (l : List ℕ). length l) (gated_push rs r);
              reaches = reached_one file nothing_yet s rs r g.reaches f;
              whole =
                  sym (before_one rs r (from_place (length bytes - length (rs ++ r ∷ [])) file (after s r) bytes next))
                  ∙ ap (λ (x : ℕ). before rs (with_record r (from_place x file (after s r) bytes next))) k
                  ∙ ap (before rs) (sym (left ∙ following (length bytes - length rs - 1) s gate r next is_open e f))
                  ∙ g.whole;
            }

pub begins_long : (bytes : List ℕ) → begins bytes ≡ true → 8 < length bytes
begins_long bytes b = ltb-true 8 (length bytes) (and_parts (nat_lt 8 (length bytes)) (bytes_eq (take 8 bytes) header) b).0
