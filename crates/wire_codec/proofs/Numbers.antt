-- Numbers as the bodies read them: by the word, and byte by byte.
use Rattle.std.proofs.Common.{◌≡◌, ◌⊎◌, ℕ, zero, suc, ◌+◌, ◌-◌, ◌*◌, ◌/◌, ◌^◌, ◌<◌, ◌≤◌, List, [], ◌∷◌, ◌++◌, true, false, Result, Ok, Err, length, take, drop, get_or, refl, sym, ap, ◌∙◌, subst, inl, inr, arith, length-append, IsErrOf}
use Rattle.std.specs.Prelude.{nat_le, nat_lt}
use Rattle.std.proofs.Math.Nat.{pow-suc, pow-succ', one-le-pow}
use Rattle.std.proofs.lemmas.Bool.{le-leb, lt-leb, and_from, and_left as bool_left, and_right as bool_right}
use Rattle.std.proofs.lemmas.List.{length-drop, length-take-le, take-append-drop, drop_more, take_rest}
use Rattle.std.proofs.lemmas.Nat.{pow-add, mul-le, div-add-mod'}
use Rattle.byteorder.specs.Endian.{big_from, big_number}
use Rattle.byteorder.specs.Numbers.{big_from-take, big_number-reads_back, length-bytes_high_first}
use Rattle.wire_codec.specs.declared.fault.DecodeFault.TheVariants.{NotEnvelope as RefusedAt}
use Rattle.wire_codec.specs.Reading.{passes, digits, number, number_bytes, place_of, AreBytes}
use Rattle.wire_codec.specs.laws.Numbers.{and_left, and_right, worth, worth_is, digits_back, is_number, bytes_drop}

pub bytes_take : (n : ℕ) (bytes : List ℕ) → AreBytes bytes → AreBytes (take n bytes)
bytes_take zero bytes a = refl
bytes_take (suc n) [] a = refl
bytes_take (suc n) (b ∷ bytes) a = and_from _ _ (and_left (nat_lt b 256) _ a) (bytes_take n bytes (and_right (nat_lt b 256) _ a))

module _ (k lo hi : ℕ) (bytes : List ℕ) (at : ℕ) (a : AreBytes bytes) (h : at ≤ length bytes) where
  -- a word that is there and in its range is read
  pub word_there : (n : ℕ) → k ≤ length bytes - at → n ≡ big_number k (drop at bytes) → lo ≤ n → n ≤ hi → number k lo hi bytes at ≡ Ok (n, at + k)
  word_there n there is low high =
      let left = length-drop at bytes in
      let read = take k (drop at bytes) in
      let sized : length read ≡ k = length-take-le k (drop at bytes) (omega (arith, left, there)) in
      let worthy : worth 0 read ≡ n = (let w = worth_is 0 read in let same : big_from 0 (length read) read ≡ big_from 0 k (drop at bytes) = ap (λ (m : ℕ). big_from 0 m read) sized ∙ big_from-take 0 k k (drop at bytes) (omega arith) in omega (arith, w, same, is)) in
      ap (λ (l : List ℕ). digits k lo hi 0 l at) (sym (take-append-drop k (drop at bytes)))
      ∙ ap (λ (m : ℕ). digits m lo hi 0 (read ++ drop k (drop at bytes)) at) (sym sized)
      ∙ digits_back lo hi 0 read (drop k (drop at bytes)) at (bytes_take k (drop at bytes) (bytes_drop at bytes a)) (omega (arith, worthy, low)) (omega (arith, worthy, high))
      ∙ (let place : at + length read ≡ at + k = omega (arith, sized) in rw (worthy, place) refl)

  -- a word that is cut short or out of its range is refused
  pub word_refused : lo ≤ hi → hi < 256 ^ k → ((n : ℕ) → k ≤ length bytes - at → n ≡ big_number k (drop at bytes) → lo ≤ n → n ≤ hi → ⊥) → number k lo hi bytes at ≡ Err (place_of (number k lo hi bytes at))
  word_refused le fits never = by (number k lo hi bytes at) refl
    where
      by : (r : Result (ℕ × ℕ) ℕ) → number k lo hi bytes at ≡ r → r ≡ Err (place_of r)
      by (Ok r) e =
          absurd (
          let s = (is_number k lo hi le fits).spells r.0 bytes at r.1 a h e in
          let n = r.0 in
          let left = length-drop at bytes in
          let long = length-bytes_high_first k n in
          let sized = ap (λ (l : List ℕ). length l) s.spelt ∙ length-append (number_bytes k n) (drop r.1 bytes) in
          let back : big_number k (drop at bytes) ≡ n = ap (λ (l : List ℕ). big_from 0 k l) s.spelt ∙ big_number-reads_back k n (drop r.1 bytes) (omega (arith, fits, s.good.1)) in
          never n (omega (arith, left, sized, long)) (sym back) s.good.0 s.good.1)
      by (Err place) e = refl

-- ---- byte by byte

two_256 : (k : ℕ) → 2 ^ (8 * k) ≡ 256 ^ k
two_256 zero = refl
two_256 (suc k) =
    let more : 8 * suc k ≡ 8 * k + 8 = omega arith in
    ap (λ (n : ℕ). 2 ^ n) more ∙ pow-add 2 (8 * k) 8 ∙ ap (λ (n : ℕ). n * 256) (two_256 k) ∙ sym (pow-suc 256 k)

module _ (lo hi p b : ℕ) (rest : List ℕ) (at : ℕ) where
  pub byte_passes : (k : ℕ) → passes k lo hi (p * 256 + b) ≡ true → digits (suc k) lo hi p (b ∷ rest) at ≡ digits k lo hi (p * 256 + b) rest (at + 1)
  unfolding digits
  byte_passes k t = rw t refl

  pub byte_refused : (k : ℕ) → passes k lo hi (p * 256 + b) ≡ false → digits (suc k) lo hi p (b ∷ rest) at ≡ Err at
  unfolding digits
  byte_refused k t = rw t refl

pub no_byte : (lo hi p k at : ℕ) (bytes : List ℕ) → length bytes ≡ 0 → place_of (digits k lo hi p bytes at) ≡ at
unfolding digits
no_byte lo hi p zero at bytes e = refl
no_byte lo hi p (suc k) at [] e = refl
no_byte lo hi p (suc k) at (b ∷ bytes) e = absurd (omega (arith, e))

pub no_more : (lo hi p at : ℕ) (bytes : List ℕ) → place_of (digits 0 lo hi p bytes at) ≡ at
unfolding digits
no_more lo hi p at bytes = refl

pub small_read : (read left most : ℕ) → 0 < left → read * 256 ^ left ≤ most → most < 2 ^ 64 → read * 256 + 255 < 2 ^ 64
small_read read zero most there low fits = absurd (omega (arith, there))
small_read read (suc k) most there low fits =
    let one = one-le-pow k 256 (omega arith) in
    let wide : 256 ≤ 256 ^ suc k = rw (pow-succ' 256 k) (omega (arith, one)) in
    let more = mul-le read 256 read (256 ^ suc k) (omega arith) wide in
    omega (arith, more, low, fits)

module _ (lo hi q k : ℕ) where
  pub passing : lo / 2 ^ (8 * k) ≤ q → q ≤ hi / 2 ^ (8 * k) → passes k lo hi q ≡ true
  passing low high =
      let same = two_256 k in
      and_from _ _ (le-leb (lo / 256 ^ k) q (subst (λ (n : ℕ). lo / n ≤ q) same low)) (le-leb q (hi / 256 ^ k) (subst (λ (n : ℕ). q ≤ hi / n) same high))

  pub still_fits : q ≤ hi / 2 ^ (8 * k) → q * 256 ^ k ≤ hi
  still_fits high =
      let same = two_256 k in
      let under : q ≤ hi / 256 ^ k = subst (λ (n : ℕ). q ≤ hi / n) same high in
      let split = div-add-mod' hi (256 ^ k) in
      let top = mul-le q (256 ^ k) (hi / 256 ^ k) (256 ^ k) under (omega arith) in
      omega (arith, split, top)

  pub too_low : q < lo / 2 ^ (8 * k) → passes k lo hi q ≡ false
  too_low low = bool_left (nat_le (lo / 256 ^ k) q) (nat_le q (hi / 256 ^ k)) (lt-leb (lo / 256 ^ k) q (subst (λ (n : ℕ). q < lo / n) (two_256 k) low))

  pub too_high : hi / 2 ^ (8 * k) < q → passes k lo hi q ≡ false
  too_high high = bool_right (nat_le (lo / 256 ^ k) q) (nat_le q (hi / 256 ^ k)) (lt-leb q (hi / 256 ^ k) (subst (λ (n : ℕ). hi / n < q) (two_256 k) high))

-- one byte more, where some are left and the bytes go on
pub turned : (lo hi p left next : ℕ) (bytes : List ℕ) → 0 < left → next < length bytes → digits left lo hi p (drop next bytes) next ≡ digits (suc (left - 1)) lo hi p (get_or bytes next 0 ∷ drop (next + 1) bytes) next
turned lo hi p left next bytes there l =
    let one : left ≡ suc (left - 1) = omega (arith, there) in
    ap (λ (k : ℕ). digits k lo hi p (drop next bytes) next) one ∙ ap (λ (x : List ℕ). digits (suc (left - 1)) lo hi p x next) (drop_more bytes next 0 l)

module _ (lo hi p left next b : ℕ) (bytes : List ℕ) (there : 0 < left) (l : next < length bytes) (is : b ≡ get_or bytes next 0) where
  moved : digits left lo hi p (drop next bytes) next ≡ digits (suc (left - 1)) lo hi p (b ∷ drop (next + 1) bytes) next
  moved = turned lo hi p left next bytes there l ∙ ap (λ (x : ℕ). digits (suc (left - 1)) lo hi p (x ∷ drop (next + 1) bytes) next) (sym is)

  -- a byte that fits no number is the place
  pub stops : passes (left - 1) lo hi (p * 256 + b) ≡ false → place_of (digits left lo hi p (drop next bytes) next) ≡ next
  stops r = ap place_of (moved ∙ byte_refused lo hi p b (drop (next + 1) bytes) next (left - 1) r)

  -- after a byte that fits one the others come
  pub goes_on : passes (left - 1) lo hi (p * 256 + b) ≡ true → place_of (digits left lo hi p (drop next bytes) next) ≡ place_of (digits (left - 1) lo hi (p * 256 + b) (drop (next + 1) bytes) (next + 1))
  goes_on r = ap place_of (moved ∙ byte_passes lo hi p b (drop (next + 1) bytes) next (left - 1) r)

-- ---- the place that a refusal names

pub refused_place : {T : Type 0} (wrong place : ℕ) → IsErrOf {T = T} (Err (RefusedAt wrong)) (RefusedAt place) → wrong ≡ place
refused_place wrong place e = cc

-- the slice from a place on is what stands there
pub sliced : (k n at : ℕ) (bytes : List ℕ) → n ≡ big_number k (take (length bytes - at) (drop at bytes)) → n ≡ big_number k (drop at bytes)
sliced k n at bytes e = e ∙ ap (λ (l : List ℕ). big_number k l) (take_rest bytes at)

module _ (k lo hi least most : ℕ) (bytes : List ℕ) (at : ℕ) (a : AreBytes bytes) (h : at ≤ length bytes) (le : lo ≤ hi) (fit : hi < 256 ^ k) (wrong place : ℕ) (low_is : least ≡ lo) (high_is : most ≡ hi) (is : wrong ≡ place_of (number k least most bytes at)) (e : wrong ≡ place) where
  named : number k lo hi bytes at ≡ Err (place_of (number k lo hi bytes at)) → number k lo hi bytes at ≡ Err place
  named r = r ∙ ap (λ (x : ℕ). Err x) (ap (λ (x : ℕ). place_of (number k x hi bytes at)) (sym low_is) ∙ ap (λ (x : ℕ). place_of (number k least x bytes at)) (sym high_is) ∙ sym is ∙ e)

  pub cut_short : length bytes - at < k → number k lo hi bytes at ≡ Err place
  cut_short short = named (word_refused k lo hi bytes at a h le fit (λ n there same low high. omega (arith, short, there)))

  pub out_of_range : (n : ℕ) → n ≡ big_number k (drop at bytes) → ((lo ≤ n) × (hi < n)) ⊎ (n < lo) → number k lo hi bytes at ≡ Err place
  out_of_range n word out =
      named (word_refused k lo hi bytes at a h le fit (λ m there same low high.
      (let one : m ≡ n = same ∙ sym word in elim out [ inl over ↦ omega (arith, one, over.1, high) | inr under ↦ omega (arith, one, under, low) ])))

-- a byte is a number of one byte
pub one_byte : (at : ℕ) (bytes : List ℕ) → at < length bytes → get_or bytes at 0 ≡ big_number 1 (drop at bytes)
one_byte at bytes l = let e = ap (λ (x : List ℕ). big_number 1 x) (drop_more bytes at 0 l) in omega (arith, e)
