-- Many entries, one after the other.
use Rattle.std.proofs.Common.{◌≡◌, ℕ, suc, ◌+◌, ◌-◌, ◌<◌, ◌≤◌, List, [], ◌∷◌, ◌++◌, Result, Ok, Err, length, refl, sym, ap, ◌∙◌, append_assoc, length-append, arith}
use Rattle.std.proofs.lemmas.List.{append-nil}
use Rattle.host_ids.specs.declared.entry.Entry.{Entry}
use Rattle.wire_codec.specs.Reading.{many}
use Rattle.wire_codec.specs.Entry.{entry_at}

abbrev pub Read : Type 0
Read = Result (List Entry × ℕ) ℕ

-- entries before those that are read
abbrev pub prepend : List Entry → Read → Read
prepend es (Ok r) = Ok (es ++ r.0, r.1)
prepend es (Err place) = Err place

prepend_twice : (es fs : List Entry) (r : Read) → prepend es (prepend fs r) ≡ prepend (es ++ fs) r
prepend_twice es fs (Ok r) = ap (λ (l : List Entry). let x : Read = Ok (l, r.1) in x) (sym (append_assoc es fs r.0))
prepend_twice es fs (Err place) = refl

pub prepend_none : (r : Read) → prepend [] r ≡ r
prepend_none (Ok r) = refl
prepend_none (Err place) = refl

module _ (bytes : List ℕ) where
  none_more : (i next : ℕ) → many entry_at i 0 bytes next ≡ Ok ([], next)
  unfolding many
  none_more i next = refl

  refused_more : (i n next place : ℕ) → entry_at i bytes next ≡ Err place → many entry_at i (suc n) bytes next ≡ Err place
  unfolding many
  refused_more i n next place e = rw e refl

  one_more : (i n next after : ℕ) (e : Entry) → entry_at i bytes next ≡ Ok (e, after) → many entry_at i (suc n) bytes next ≡ prepend (e ∷ []) (many entry_at (i + 1) n bytes after)
  unfolding many
  one_more i n next after e o = by (many entry_at (i + 1) n bytes after) refl
    where
      by : (r : Read) → many entry_at (i + 1) n bytes after ≡ r → many entry_at i (suc n) bytes next ≡ prepend (e ∷ []) r
      by (Ok r) t = rw (o, t) refl
      by (Err place) t = rw (o, t) refl

  module _ (first count at : ℕ) where
    -- what was read, and what the rest gives, are the whole
    abbrev pub Goes : List Entry → ℕ → ℕ → Type 0
    Goes es read next = (next ≤ length bytes) × (length es ≡ read) × (prepend es (many entry_at (first + read) (count - read) bytes next) ≡ many entry_at first count bytes at)

    pub begins : at ≤ length bytes → Goes [] 0 at
    begins h =
        let i : first + 0 ≡ first = omega arith in
        let n : count - 0 ≡ count = omega arith in
        (h, refl, prepend_none (many entry_at (first + 0) (count - 0) bytes at) ∙ ap (λ (k : ℕ). many entry_at k (count - 0) bytes at) i ∙ ap (λ (k : ℕ). many entry_at first k bytes at) n)

    module _ (es : List Entry) (read next : ℕ) (g : Goes es read next) where
      left : read < count → many entry_at (first + read) (count - read) bytes next ≡ many entry_at (first + read) (suc (count - (read + 1))) bytes next
      left l = let n : count - read ≡ suc (count - (read + 1)) = omega (arith, l) in ap (λ (k : ℕ). many entry_at (first + read) k bytes next) n

      pub one_read : (after : ℕ) (e : Entry) → read < count → entry_at (first + read) bytes next ≡ Ok (e, after) → after ≤ length bytes → Goes (es ++ e ∷ []) (read + 1) after
      one_read after e l o h =
          let i : first + read + 1 ≡ first + (read + 1) = omega arith in
          let rest = many entry_at (first + (read + 1)) (count - (read + 1)) bytes after in
          let step = left l ∙ one_more (first + read) (count - (read + 1)) next after e o ∙ ap (λ (k : ℕ). prepend (e ∷ []) (many entry_at k (count - (read + 1)) bytes after)) i in
          (h, (let sized = length-append es (e ∷ []) in omega (arith, sized, g.1)), sym (prepend_twice es (e ∷ []) rest) ∙ ap (prepend es) (sym step) ∙ g.2)

      pub refused : (place : ℕ) → read < count → entry_at (first + read) bytes next ≡ Err place → many entry_at first count bytes at ≡ Err place
      refused place l o = sym g.2 ∙ ap (prepend es) (left l ∙ refused_more (first + read) (count - (read + 1)) next place o)

      pub all_read : count ≤ read → many entry_at first count bytes at ≡ Ok (es, next)
      all_read l =
          let n : count - read ≡ 0 = omega (arith, l) in
          sym g.2 ∙ ap (prepend es) (ap (λ (k : ℕ). many entry_at (first + read) k bytes next) n ∙ none_more (first + read) next) ∙ ap (λ (x : List Entry). let y : Read = Ok (x, next) in y) (append-nil es)
