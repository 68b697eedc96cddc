-- Numbers of k bytes are read exactly.
use Rattle.std.proofs.Common.{◌≡◌, ℕ, zero, suc, ◌+◌, ◌-◌, ◌*◌, ◌/◌, ◌%◌, ◌^◌, ◌<◌, ◌≤◌, List, [], ◌∷◌, ◌++◌, Bool, true, false, Result, Ok, Err, length, drop, max, refl, sym, ap, ◌∙◌, subst, length-append, arith}
use Rattle.std.specs.Prelude.{nat_le, nat_lt, ◌&&◌}
use Rattle.std.specs.Int.{byte_at, bytes_high_first}
use Rattle.std.proofs.Math.Nat.{pow-succ', one-le-pow, div-one}
use Rattle.std.proofs.lemmas.Nat.{mul-le, div_below, le-div, div-add-mod', mod_below, div-mul-add, mod-mul-add}
use Rattle.std.proofs.lemmas.Bool.{le-leb, leb-true, lt-ltb, ltb-true, and_from}
use Rattle.std.proofs.lemmas.List.{append-nil, length-drop, drop-drop, drop_at}
use Rattle.byteorder.specs.Endian.{big_from}
use Rattle.byteorder.specs.Numbers.{big_from-cons, big_number-reads_back, length-bytes_high_first}
use Rattle.wire_codec.specs.Reading.{passes, digits, number, number_bytes, AreBytes, Front, Stands, Exact}

-- ---- what bytes after others make

-- the number of bytes whose first ones made p
abbrev pub worth : ℕ → List ℕ → ℕ
worth p [] = p
worth p (b ∷ ds) = worth (p * 256 + b) ds

-- an answer of a reading
abbrev pub answer : {A : Type 0} → A × ℕ → Result (A × ℕ) ℕ
answer r = Ok r

pub ok_parts : {A : Type 0} (a b : A) (m n : ℕ) → answer (a, m) ≡ answer (b, n) → (a ≡ b) × (m ≡ n)
ok_parts {A} a b m n e = let pair : (a, m) ≡ (b, n) = cc in (ap (λ (r : A × ℕ). r.0) pair, ap (λ (r : A × ℕ). r.1) pair)

pub and_left : (a b : Bool) → a && b ≡ true → a ≡ true
and_left true b h = refl
and_left false b h = absurd cc

pub and_right : (a b : Bool) → a && b ≡ true → b ≡ true
and_right true b h = h
and_right false b h = absurd cc

pub bytes_drop : (n : ℕ) (bytes : List ℕ) → AreBytes bytes → AreBytes (drop n bytes)
bytes_drop zero bytes a = a
bytes_drop (suc n) [] a = refl
bytes_drop (suc n) (b ∷ bytes) a = bytes_drop n bytes (and_right (nat_lt b 256) _ a)

pub worth_low : (p : ℕ) (ds : List ℕ) → p * 256 ^ length ds ≤ worth p ds
worth_low p [] = omega arith
worth_low p (b ∷ ds) = let ih = worth_low (p * 256 + b) ds in rw (pow-succ' 256 (length ds)) (omega (arith, ih))

pub worth_high : (p : ℕ) (ds : List ℕ) → AreBytes ds → worth p ds < (p + 1) * 256 ^ length ds
worth_high p [] a = omega arith
worth_high p (b ∷ ds) a =
    let small = ltb-true b 256 (and_left (nat_lt b 256) _ a) in
    let ih = worth_high (p * 256 + b) ds (and_right (nat_lt b 256) _ a) in
    let top = mul-le (b + 1) (256 ^ length ds) 256 (256 ^ length ds) (omega (arith, small)) (omega arith) in
    rw (pow-succ' 256 (length ds)) (omega (arith, ih, top))

pub worth_is : (p : ℕ) (ds : List ℕ) → worth p ds ≡ p * 256 ^ length ds + big_from 0 (length ds) ds
worth_is p [] = omega arith
worth_is p (b ∷ ds) =
    let ih = worth_is (p * 256 + b) ds in
    let moved = big_from-cons 0 (length ds) b ds in
    rw (pow-succ' 256 (length ds), ih, moved) (omega arith)

power_there : (k : ℕ) → 0 < 256 ^ k
power_there k = let h = one-le-pow k 256 (omega arith) in omega (arith, h)

byte_at_is : (k x : ℕ) → byte_at k x ≡ x / 256 ^ k % 256
byte_at_is zero x = ap (λ (y : ℕ). y % 256) (sym (div-one x))
byte_at_is (suc k) x = refl

byte_of_worth : (p b : ℕ) (ds : List ℕ) → b < 256 → AreBytes ds → byte_at (length ds) (worth (p * 256 + b) ds) ≡ b
byte_of_worth p b ds small a =
    let low = worth_low (p * 256 + b) ds in
    let high = worth_high (p * 256 + b) ds a in
    let w = worth (p * 256 + b) ds in
    let r = w - (p * 256 + b) * 256 ^ length ds in
    let split : (p * 256 + b) * 256 ^ length ds + r ≡ w = omega (arith, low) in
    let below : r < 256 ^ length ds = omega (arith, low, high) in
    let divided : w / 256 ^ length ds ≡ p * 256 + b = ap (λ (x : ℕ). x / 256 ^ length ds) (sym split) ∙ div-mul-add (p * 256 + b) (256 ^ length ds) r below in
    byte_at_is (length ds) w ∙ ap (λ (x : ℕ). x % 256) divided ∙ mod-mul-add p 256 b small

-- the bytes of what bytes make are these
pub bytes_of_worth : (p : ℕ) (ds : List ℕ) → AreBytes ds → bytes_high_first (length ds) (worth p ds) ≡ ds
bytes_of_worth p [] a = refl
bytes_of_worth p (b ∷ ds) a =
    let small = ltb-true b 256 (and_left (nat_lt b 256) _ a) in
    let bytes = and_right (nat_lt b 256) _ a in
    rw (byte_of_worth p b ds small bytes, bytes_of_worth (p * 256 + b) ds bytes) refl

small_byte : (k x : ℕ) → nat_lt (byte_at k x) 256 ≡ true
small_byte k x = let e = byte_at_is k x in let l = mod_below (x / 256 ^ k) 256 (omega arith) in lt-ltb (byte_at k x) 256 (omega (arith, e, l))

pub number_is_bytes : (k x : ℕ) → AreBytes (number_bytes k x)
number_is_bytes zero x = refl
number_is_bytes (suc k) x = and_from _ _ (small_byte k x) (number_is_bytes k x)

-- what the bytes of a number make, after p
pub worth_of_bytes : (p k x : ℕ) → x < 256 ^ k → worth p (number_bytes k x) ≡ p * 256 ^ k + x
worth_of_bytes p k x fits =
    let long = length-bytes_high_first k x in
    let back : big_from 0 k (number_bytes k x) ≡ x = ap (λ (l : List ℕ). big_from 0 k l) (sym (append-nil (number_bytes k x))) ∙ big_number-reads_back k x [] fits in
    worth_is p (number_bytes k x) ∙ ap (λ (n : ℕ). p * 256 ^ n + big_from 0 n (number_bytes k x)) long ∙ ap (λ (y : ℕ). p * 256 ^ k + y) back

-- ---- digits

module _ (lo hi : ℕ) where
  passes_at : (k p v : ℕ) → p * 256 ^ k ≤ v → v < (p + 1) * 256 ^ k → lo ≤ v → v ≤ hi → passes k lo hi p ≡ true
  passes_at k p v low high l h =
      let under : lo / 256 ^ k < p + 1 = div_below lo (256 ^ k) (p + 1) (power_there k) (omega (arith, l, high)) in
      and_from _ _ (le-leb (lo / 256 ^ k) p (omega (arith, under))) (le-leb p (hi / 256 ^ k) (le-div p hi (256 ^ k) (power_there k) (omega (arith, low, h))))

  pub passes_before : (p : ℕ) (ds : List ℕ) → AreBytes ds → lo ≤ worth p ds → worth p ds ≤ hi → passes (length ds) lo hi p ≡ true
  passes_before p ds a l h = passes_at (length ds) p (worth p ds) (worth_low p ds) (worth_high p ds a) l h

  passed_low : (k p : ℕ) → passes k lo hi p ≡ true → lo < (p + 1) * 256 ^ k
  passed_low k p e =
      let under = leb-true (lo / 256 ^ k) p (and_left (nat_le (lo / 256 ^ k) p) _ e) in
      let split = div-add-mod' lo (256 ^ k) in
      let rest = mod_below lo (256 ^ k) (power_there k) in
      let top = mul-le (lo / 256 ^ k) (256 ^ k) p (256 ^ k) under (omega arith) in
      omega (arith, split, rest, top)

  passed_high : (k p : ℕ) → passes k lo hi p ≡ true → p * 256 ^ k ≤ hi
  passed_high k p e =
      let under = leb-true p (hi / 256 ^ k) (and_right (nat_le (lo / 256 ^ k) p) _ e) in
      let split = div-add-mod' hi (256 ^ k) in
      let top = mul-le p (256 ^ k) (hi / 256 ^ k) (256 ^ k) under (omega arith) in
      omega (arith, split, top)

  pub digits_back : (p : ℕ) (ds rest : List ℕ) (at : ℕ) → AreBytes ds → lo ≤ worth p ds → worth p ds ≤ hi → digits (length ds) lo hi p (ds ++ rest) at ≡ Ok (worth p ds, at + length ds)
  unfolding digits
  digits_back p [] rest at a l h = let same : at ≡ at + 0 = omega arith in ap (λ (x : ℕ). Ok (p, x)) same
  digits_back p (b ∷ ds) rest at a l h =
      let bytes = and_right (nat_lt b 256) _ a in
      let next : at + 1 + length ds ≡ at + length (b ∷ ds) = omega arith in
      rw (passes_before (p * 256 + b) ds bytes l h, digits_back (p * 256 + b) ds rest (at + 1) bytes l h, next) refl

  digit_taken : (k p b : ℕ) (bytes : List ℕ) (at : ℕ) → passes k lo hi (p * 256 + b) ≡ true → digits (suc k) lo hi p (b ∷ bytes) at ≡ digits k lo hi (p * 256 + b) bytes (at + 1)
  unfolding digits
  digit_taken k p b bytes at t = rw t refl

  digit_refused : (k p b : ℕ) (bytes : List ℕ) (at : ℕ) → passes k lo hi (p * 256 + b) ≡ false → digits (suc k) lo hi p (b ∷ bytes) at ≡ Err at
  unfolding digits
  digit_refused k p b bytes at t = rw t refl

  -- digits that were read
  pub record Digits (k p : ℕ) (bytes : List ℕ) (at v next : ℕ) : Type 0 where
    pub read : List ℕ
    pub rest : List ℕ
    pub stands : bytes ≡ read ++ rest
    pub counted : length read ≡ k
    pub worthy : worth p read ≡ v
    pub low : lo ≤ v
    pub high : v ≤ hi
    pub after : next ≡ at + k
    pub bytely : AreBytes read

  pub digits_spell : (k p : ℕ) (bytes : List ℕ) (at v next : ℕ) → passes k lo hi p ≡ true → AreBytes bytes → digits k lo hi p bytes at ≡ Ok (v, next) → Digits k p bytes at v next
  unfolding digits
  digits_spell zero p bytes at v next s a e =
      let low = passed_low zero p s in
      let high = passed_high zero p s in
      let parts = ok_parts p v at next e in
      let value : p ≡ v = parts.0 in
      let place : at ≡ next = parts.1 in
      record { read = []; rest = bytes; stands = refl; counted = refl; worthy = value; low = omega (arith, low, value); high = omega (arith, high, value); after = omega (arith, place); bytely = refl }
  digits_spell (suc k) p [] at v next s a e = absurd cc
  digits_spell (suc k) p (b ∷ bytes) at v next s a e = by (passes k lo hi (p * 256 + b)) refl (λ t. digits_spell k (p * 256 + b) bytes (at + 1) v next t (and_right (nat_lt b 256) _ a) (sym (digit_taken k p b bytes at t) ∙ e))
    where
      by : (t : Bool) → passes k lo hi (p * 256 + b) ≡ t → (passes k lo hi (p * 256 + b) ≡ true → Digits k (p * 256 + b) bytes (at + 1) v next) → Digits (suc k) p (b ∷ bytes) at v next
      by true t more =
          let d = more t in
          record { read = b ∷ d.read; rest = d.rest; stands = ap (λ (l : List ℕ). b ∷ l) d.stands; counted = omega (arith, d.counted); worthy = d.worthy; low = d.low; high = d.high; after = omega (arith, d.after); bytely = and_from _ _ (and_left (nat_lt b 256) _ a) d.bytely }
      by false t more = absurd (let r = digit_refused k p b bytes at t in cc)

  -- bytes of a number that may still come
  pub record Coming (k p : ℕ) : Type 0 where
    pub bytes : List ℕ
    pub counted : length bytes ≡ k
    pub bytely : AreBytes bytes
    pub low : lo ≤ worth p bytes
    pub high : worth p bytes ≤ hi

  some_come : (k p : ℕ) → lo ≤ hi → passes k lo hi p ≡ true → Coming k p
  some_come k p le s =
      let v = max lo (p * 256 ^ k) in
      let low = passed_low k p s in
      let high = passed_high k p s in
      let u = v - p * 256 ^ k in
      let fits : u < 256 ^ k = omega (arith, low, power_there k) in
      let is = worth_of_bytes p k u fits in
      record { bytes = number_bytes k u; counted = length-bytes_high_first k u; bytely = number_is_bytes k u; low = omega (arith, is); high = omega (arith, is, le, high) }

  -- the bytes of a number that agree with some bytes up to a place
  pub record Begun (k p : ℕ) (bytes : List ℕ) (at place : ℕ) : Type 0 where
    pub front : List ℕ
    pub missing : List ℕ
    pub rest : List ℕ
    pub stands : bytes ≡ front ++ rest
    pub counted : length (front ++ missing) ≡ k
    pub bytely : AreBytes (front ++ missing)
    pub low : lo ≤ worth p (front ++ missing)
    pub high : worth p (front ++ missing) ≤ hi
    pub after : place ≡ at + length front

  begun_here : (k p : ℕ) (bytes : List ℕ) (at place : ℕ) → lo ≤ hi → passes k lo hi p ≡ true → place ≡ at → Begun k p bytes at place
  begun_here k p bytes at place le s e =
      let c = some_come k p le s in
      record { front = []; missing = c.bytes; rest = bytes; stands = refl; counted = c.counted; bytely = c.bytely; low = c.low; high = c.high; after = omega (arith, e) }

  pub digits_begin : (k p : ℕ) (bytes : List ℕ) (at place : ℕ) → lo ≤ hi → passes k lo hi p ≡ true → AreBytes bytes → digits k lo hi p bytes at ≡ Err place → Begun k p bytes at place
  unfolding digits
  digits_begin zero p bytes at place le s a e = absurd cc
  digits_begin (suc k) p [] at place le s a e = begun_here (suc k) p [] at place le s (let same : at ≡ place = cc in sym same)
  digits_begin (suc k) p (b ∷ bytes) at place le s a e = by (passes k lo hi (p * 256 + b)) refl (λ t. digits_begin k (p * 256 + b) bytes (at + 1) place le t (and_right (nat_lt b 256) _ a) (sym (digit_taken k p b bytes at t) ∙ e))
    where
      by : (t : Bool) → passes k lo hi (p * 256 + b) ≡ t → (passes k lo hi (p * 256 + b) ≡ true → Begun k (p * 256 + b) bytes (at + 1) place) → Begun (suc k) p (b ∷ bytes) at place
      by true t more =
          let d = more t in
          record { front = b ∷ d.front; missing = d.missing; rest = d.rest; stands = ap (λ (l : List ℕ). b ∷ l) d.stands; counted = omega (arith, d.counted); bytely = and_from _ _ (and_left (nat_lt b 256) _ a) d.bytely; low = d.low; high = d.high; after = omega (arith, d.after) }
      by false t more = begun_here (suc k) p (b ∷ bytes) at place le s (let r = digit_refused k p b bytes at t in let same : at ≡ place = cc in sym same)

  digits_go_on : (k p : ℕ) (bytes : List ℕ) (at place : ℕ) → digits k lo hi p bytes at ≡ Err place → at ≤ place
  unfolding digits
  digits_go_on zero p bytes at place e = absurd cc
  digits_go_on (suc k) p [] at place e = let same : at ≡ place = cc in omega (arith, same)
  digits_go_on (suc k) p (b ∷ bytes) at place e = by (passes k lo hi (p * 256 + b)) refl (λ t. digits_go_on k (p * 256 + b) bytes (at + 1) place (sym (digit_taken k p b bytes at t) ∙ e))
    where
      by : (t : Bool) → passes k lo hi (p * 256 + b) ≡ t → (passes k lo hi (p * 256 + b) ≡ true → at + 1 ≤ place) → at ≤ place
      by true t more = let m = more t in omega (arith, m)
      by false t more = let r = digit_refused k p b bytes at t in let same : at ≡ place = cc in omega (arith, same)

  -- no number's bytes go on past a refusal's place
  pub digits_most : (k p : ℕ) (front missing rest : List ℕ) (at place : ℕ) → length (front ++ missing) ≡ k → AreBytes (front ++ missing) → lo ≤ worth p (front ++ missing) → worth p (front ++ missing) ≤ hi → digits k lo hi p (front ++ rest) at ≡ Err place → at + length front ≤ place
  digits_most k p [] missing rest at place n a l h e = let m = digits_go_on k p rest at place e in omega (arith, m)
  digits_most zero p (b ∷ front) missing rest at place n a l h e = absurd (omega (arith, n))
  digits_most (suc k) p (b ∷ front) missing rest at place n a l h e =
      let bytes = and_right (nat_lt b 256) _ a in
      let long : length (front ++ missing) ≡ k = omega (arith, n) in
      let t : passes k lo hi (p * 256 + b) ≡ true = ap (λ (x : ℕ). passes x lo hi (p * 256 + b)) (sym long) ∙ passes_before (p * 256 + b) (front ++ missing) bytes l h in
      let m = digits_most k (p * 256 + b) front missing rest (at + 1) place long bytes l h (sym (digit_taken k p b (front ++ rest) at t) ∙ e) in
      omega (arith, m)

-- ---- numbers are read exactly

pub is_number : (k lo hi : ℕ) → lo ≤ hi → hi < 256 ^ k → Exact (number k lo hi) (λ v. (lo ≤ v) × (v ≤ hi)) (number_bytes k)
is_number k lo hi le fits =
    let start : passes k lo hi 0 ≡ true = passes_at lo hi k 0 lo (omega arith) (omega (arith, le, fits)) (omega arith) le in
    record {
      back = λ v bytes rest at g h e. number_back v bytes rest at g e;
      spells = λ v bytes at next a h e. number_spells v bytes at next start a h e;
      begins = λ bytes at place a h e. number_begins bytes at place start a e;
      most = λ bytes at place n a h e f. number_most bytes at place n e f;
    }
  where
    long : (v : ℕ) → length (number_bytes k v) ≡ k
    long v = length-bytes_high_first k v

    worth_back : (v : ℕ) → v ≤ hi → worth 0 (number_bytes k v) ≡ v
    worth_back v h = let w = worth_of_bytes 0 k v (omega (arith, h, fits)) in omega (arith, w)

    number_back : (v : ℕ) (bytes rest : List ℕ) (at : ℕ) → (lo ≤ v) × (v ≤ hi) → drop at bytes ≡ number_bytes k v ++ rest → number k lo hi bytes at ≡ Ok (v, at + length (number_bytes k v))
    number_back v bytes rest at g e =
        let w = worth_back v g.1 in
        ap (λ (l : List ℕ). digits k lo hi 0 l at) e
        ∙ ap (λ (n : ℕ). digits n lo hi 0 (number_bytes k v ++ rest) at) (sym (long v))
        ∙ digits_back lo hi 0 (number_bytes k v) rest at (number_is_bytes k v) (omega (arith, w, g.0)) (omega (arith, w, g.1))
        ∙ ap (λ (x : ℕ). Ok (x, at + length (number_bytes k v))) w

    number_spells : (v : ℕ) (bytes : List ℕ) (at next : ℕ) → passes k lo hi 0 ≡ true → AreBytes bytes → at ≤ length bytes → number k lo hi bytes at ≡ Ok (v, next) → Stands (λ x. (lo ≤ x) × (x ≤ hi)) (number_bytes k) bytes at v next
    number_spells v bytes at next start a h e =
        let d = digits_spell lo hi k 0 (drop at bytes) at v next start (bytes_drop at bytes a) e in
        let same : number_bytes k v ≡ d.read = ap (λ (n : ℕ). number_bytes n v) (sym d.counted) ∙ ap (λ (x : ℕ). number_bytes (length d.read) x) (sym d.worthy) ∙ bytes_of_worth 0 d.read d.bytely in
        let sized = ap (λ (l : List ℕ). length l) d.stands ∙ length-append d.read d.rest in
        let left = length-drop at bytes in
        let later : drop next bytes ≡ d.rest =
        ap (λ (n : ℕ). drop n bytes) (d.after ∙ ap (λ (n : ℕ). at + n) (sym d.counted)) ∙ sym (drop-drop (length d.read) at bytes) ∙ ap (λ (l : List ℕ). drop (length d.read) l) d.stands ∙ drop_at d.read d.rest (length d.read) refl in
        record { good = (d.low, d.high); spelt = d.stands ∙ ap (λ (l : List ℕ). l ++ d.rest) (sym same) ∙ ap (λ (l : List ℕ). number_bytes k v ++ l) (sym later); after = omega (arith, d.after, long v); within = omega (arith, d.after, d.counted, sized, left, h) }

    number_begins : (bytes : List ℕ) (at place : ℕ) → passes k lo hi 0 ≡ true → AreBytes bytes → number k lo hi bytes at ≡ Err place → at ≤ place × Front (λ x. (lo ≤ x) × (x ≤ hi)) (number_bytes k) (drop at bytes) (place - at)
    number_begins bytes at place start a e =
        let d = digits_begin lo hi k 0 (drop at bytes) at place le start (bytes_drop at bytes a) e in
        let v = worth 0 (d.front ++ d.missing) in
        let same : number_bytes k v ≡ d.front ++ d.missing = ap (λ (n : ℕ). number_bytes n v) (sym d.counted) ∙ bytes_of_worth 0 (d.front ++ d.missing) d.bytely in
        (omega (arith, d.after), record { value = v; good = (d.low, d.high); front = d.front; missing = d.missing; rest = d.rest; begins = same; stands = d.stands; counted = omega (arith, d.after) })

    number_most : (bytes : List ℕ) (at place n : ℕ) → number k lo hi bytes at ≡ Err place → Front (λ x. (lo ≤ x) × (x ≤ hi)) (number_bytes k) (drop at bytes) n → at + n ≤ place
    number_most bytes at place n e f =
        let w = worth_back f.value f.good.1 in
        let whole : worth 0 (f.front ++ f.missing) ≡ f.value = ap (λ (l : List ℕ). worth 0 l) (sym f.begins) ∙ w in
        let sized : length (f.front ++ f.missing) ≡ k = ap (λ (l : List ℕ). length l) (sym f.begins) ∙ long f.value in
        let bytely : AreBytes (f.front ++ f.missing) = subst AreBytes f.begins (number_is_bytes k f.value) in
        let m = digits_most lo hi k 0 f.front f.missing f.rest at place sized bytely (omega (arith, whole, f.good.0)) (omega (arith, whole, f.good.1)) (ap (λ (l : List ℕ). digits k lo hi 0 l at) (sym f.stands) ∙ e) in
        omega (arith, m, f.counted)
