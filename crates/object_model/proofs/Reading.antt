-- The image of an object reads as it, and bytes that read as an object are its image.
use Rattle.std.proofs.Common.{◌≡◌, ◌≤◌, ◌<◌, ◌^◌, ℕ, zero, suc, ◌+◌, List, [], ◌∷◌, ◌++◌, Bool, true, Option, Some, None, Result, Ok, Err, IfSome, length, take, drop, get_or, refl, sym, ap, ◌∙◌, arith, append_assoc, leb-true, le-leb, ltb-true}
use Rattle.std.specs.Prelude.{◌&&◌, nat_lt, nat_le, IfOk}
use Rattle.std.specs.List.{list_all, flat_map}
use Rattle.std.specs.Int.{to_be_bytes, from_be_bytes, w16, w32}
use Rattle.std.specs.Ordering.{is_lt}
use Rattle.std.proofs.Math.Seq.{take-append_seam, drop-append_seam}
use Rattle.std.proofs.lemmas.List.{length-append, take-append-drop, length-take-le}
use Rattle.std.proofs.lemmas.List.Folds.{list_all-append}
use Rattle.std.proofs.lemmas.Nat.{from_be_bytes-to_be_bytes_2, from_be_bytes-to_be_bytes_4, be_bytes_2, be_bytes_4}
use Rattle.std.proofs.lemmas.Option.{IfSome_then}
use Rattle.std.proofs.lemmas.Bool.{and_parts, and_from, cond_both}
use Rattle.host_ids.specs.declared.proposal.TheConstants.{MOST_COMMAND}
use Rattle.object_model.specs.Words.{is_key, is_value}
use Rattle.object_model.specs.Object.{Pairs, key_order}
use Rattle.object_model.specs.declared.command.TheConstants.{MOST_KEYS}
use Rattle.object_model.specs.Image.{spelt, image, is_ascending, is_pair, is_object, part_of, text_beyond, text_in, is_next, is_stored, with_text, with_first, read_pairs, counted, read_image, AreBytes, ReadsBack, SpellsOne}
use Rattle.object_model.proofs.Ordered.{is_below, ascending_parts, ascending_from}
use Rattle.object_model.proofs.Spelling.{short_pair}
use Rattle.object_model.proofs.There.{ok_map}

abbrev spelt_pair : List ℕ × List ℕ → List ℕ
spelt_pair e = spelt e.0 ++ spelt e.1

-- the first of these keys, if there is one, is above the key before, if there is one
abbrev follows : Option (List ℕ) → Pairs → Bool
follows None pairs = true
follows (Some key) pairs = is_below key pairs

-- ---- an image reads back

-- as many bytes as stand in front are these
part_front : (a b : List ℕ) → part_of (length a) (a ++ b) ≡ Some (a, b)
part_front a b =
    let long = length-append a b in
    let fits : nat_le (length a) (length (a ++ b)) ≡ true = le-leb (length a) (length (a ++ b)) (omega arith) in
    rw (fits, take-append_seam a b, drop-append_seam a b) refl

-- a text that is spelt in front is read
text_front : (text more : List ℕ) → length text < 2 ^ 16 → text_in (spelt text ++ more) ≡ Some (text, more)
text_front text more h =
    let spelling : spelt text ++ more ≡ to_be_bytes w16 (length text) ++ (text ++ more) = append_assoc (to_be_bytes w16 (length text)) text more in
    let first : part_of 2 (spelt text ++ more) ≡ Some (to_be_bytes w16 (length text), text ++ more) = ap (part_of 2) spelling ∙ part_front (to_be_bytes w16 (length text)) (text ++ more) in
    ap text_beyond first ∙ ap (λ n. part_of n (text ++ more)) (from_be_bytes-to_be_bytes_2 (length text) h) ∙ part_front text more

-- a text that is there and passes is followed by what comes next
with_found : (at : ℕ) (o : Option (List ℕ × List ℕ)) (p : List ℕ × List ℕ) (test : List ℕ → Bool) (next : List ℕ → List ℕ → Result Pairs ℕ)
    → o ≡ Some p → test p.0 ≡ true → with_text at o test next ≡ next p.0 p.1
with_found at o p test next q t = rw (q, t) refl

-- a key that follows may come next
next_from : (before : Option (List ℕ)) (e : List ℕ × List ℕ) (rest : Pairs) → is_key e.0 ≡ true → follows before (e ∷ rest) ≡ true → is_next before e.0 ≡ true
next_from None e rest k h = k
next_from (Some key) e rest k h = and_from (is_key e.0) (is_lt (key_order key e.0)) k h

-- pairs of their forms that ascend after a key are read
pairs_back : (pairs : Pairs) (before : Option (List ℕ)) (at : ℕ) → list_all is_pair pairs ≡ true → is_ascending pairs ≡ true → follows before pairs ≡ true
    → read_pairs (length pairs) before at (flat_map spelt_pair pairs) ≡ Ok pairs
unfolding read_pairs
pairs_back [] before at f a l = refl
pairs_back (e ∷ rest) before at f a l =
    let forms = and_parts (is_pair e) (list_all is_pair rest) f in
    let parts = and_parts (is_key e.0 && is_value e.1) (nat_le (length e.1) MOST_COMMAND) forms.0 in
    let key_value = and_parts (is_key e.0) (is_value e.1) parts.0 in
    let short = short_pair e forms.0 in
    let order = ascending_parts e rest a in
    let tail : List ℕ = flat_map spelt_pair rest in
    let whole : spelt_pair e ++ tail ≡ spelt e.0 ++ (spelt e.1 ++ tail) = append_assoc (spelt e.0) (spelt e.1) tail in
    let key_read : text_in (spelt_pair e ++ tail) ≡ Some (e.0, spelt e.1 ++ tail) = ap text_in whole ∙ text_front e.0 (spelt e.1 ++ tail) short.key in
    let stored : is_stored e.1 ≡ true = and_from (is_value e.1) (nat_le (length e.1) MOST_COMMAND) key_value.1 parts.1 in
    with_found at (text_in (spelt_pair e ++ tail)) (e.0, spelt e.1 ++ tail) (is_next before) _ key_read (next_from before e rest key_value.0 l)
    ∙ with_found (at + 2 + length e.0) (text_in (spelt e.1 ++ tail)) (e.1, tail) is_stored _ (text_front e.1 tail short.value) stored
    ∙ ap (with_first e) (pairs_back rest (Some e.0) (at + 4 + length e.0 + length e.1) forms.1 order.1 order.0)

-- the image of an object reads as it
pub reads_back : ReadsBack
unfolding read_image
reads_back pairs h =
    let parts = and_parts (is_ascending pairs && list_all is_pair pairs) (nat_le (length pairs) MOST_KEYS) h in
    let front = and_parts (is_ascending pairs) (list_all is_pair pairs) parts.0 in
    let few : length pairs ≤ 1000000 = leb-true (length pairs) MOST_KEYS parts.1 in
    let first : part_of 4 (image pairs) ≡ Some (to_be_bytes w32 (length pairs), flat_map spelt_pair pairs) = part_front (to_be_bytes w32 (length pairs)) (flat_map spelt_pair pairs) in
    let count : from_be_bytes w32 (to_be_bytes w32 (length pairs)) ≡ length pairs = from_be_bytes-to_be_bytes_4 (length pairs) (omega arith) in
    ap counted first ∙ (rw (count, parts.1) (pairs_back pairs None 4 front.1 front.0 refl))

-- ---- bytes that read as an object are its image

-- each byte of bytes is below 256
byte_small : (bytes : List ℕ) → AreBytes bytes → (i : ℕ) → get_or bytes i 0 < 256
byte_small [] h i = omega arith
byte_small (b ∷ bytes) h zero = ltb-true b 256 (and_parts (nat_lt b 256) (list_all (λ b. nat_lt b 256) bytes) h).0
byte_small (b ∷ bytes) h (suc i) = byte_small bytes (and_parts (nat_lt b 256) (list_all (λ b. nat_lt b 256) bytes) h).1 i

-- both parts of bytes are bytes
bytes_parts : (a b : List ℕ) → AreBytes (a ++ b) → AreBytes a × AreBytes b
bytes_parts a b h = and_parts (list_all (λ b. nat_lt b 256) a) (list_all (λ b. nat_lt b 256) b) (sym (list_all-append (λ b. nat_lt b 256) a b) ∙ h)

-- n bytes and what stands after them are the whole
abbrev IsParted : ℕ → List ℕ → List ℕ × List ℕ → Type 0
IsParted n bytes p = (bytes ≡ p.0 ++ p.1) × (length p.0 ≡ n)

part_whole : (n : ℕ) (bytes : List ℕ) → IfSome (part_of n bytes) (IsParted n bytes)
part_whole n bytes =
    cond_both (nat_le n (length bytes)) (Some (take n bytes, drop n bytes)) None (λ (o : Option (List ℕ × List ℕ)). IfSome o (IsParted n bytes))
    (λ q. (sym (take-append-drop n bytes), length-take-le n bytes (leb-true n (length bytes) q)))
    (λ q. tt)

-- a text and what stands after it are the whole
abbrev IsSpelt : List ℕ → List ℕ × List ℕ → Type 0
IsSpelt bytes p = (bytes ≡ spelt p.0 ++ p.1) × AreBytes p.1

text_by : (bytes : List ℕ) (o : Option (List ℕ × List ℕ)) → AreBytes bytes → IfSome o (IsParted 2 bytes) → IfSome (text_beyond o) (IsSpelt bytes)
text_by bytes None b h = tt
text_by bytes (Some p) b h =
    let small = bytes_parts p.0 p.1 (ap (λ x. list_all (λ b. nat_lt b 256) x) (sym h.0) ∙ b) in
    IfSome_then (part_of (from_be_bytes w16 p.0) p.1) (part_whole (from_be_bytes w16 p.0) p.1)
    (λ (q : List ℕ × List ℕ) (k : IsParted (from_be_bytes w16 p.0) p.1 q).
    let count : to_be_bytes w16 (length q.0) ≡ p.0 = be_bytes_2 p.0 (length q.0) h.1 (byte_small p.0 small.0) k.1 in
    let beyond = bytes_parts q.0 q.1 (ap (λ x. list_all (λ b. nat_lt b 256) x) (sym k.0) ∙ small.1) in
    let joined : p.0 ++ p.1 ≡ to_be_bytes w16 (length q.0) ++ (q.0 ++ q.1) = (λ i. sym count i ++ k.0 i) in
    (h.0 ∙ joined ∙ sym (append_assoc (to_be_bytes w16 (length q.0)) q.0 q.1), beyond.1))

text_whole : (bytes : List ℕ) → AreBytes bytes → IfSome (text_in bytes) (IsSpelt bytes)
text_whole bytes b = text_by bytes (part_of 2 bytes) b (part_whole 2 bytes)

-- what holds after a text that passes holds of the whole
with_text_ok : (P : Pairs → Type 0) (F : List ℕ × List ℕ → Type 0) (at : ℕ) (o : Option (List ℕ × List ℕ)) (test : List ℕ → Bool) (next : List ℕ → List ℕ → Result Pairs ℕ)
    → IfSome o F → ((p : List ℕ × List ℕ) → F p → test p.0 ≡ true → IfOk (next p.0 p.1) P) → IfOk (with_text at o test next) P
with_text_ok P F at None test next f g = tt
with_text_ok P F at (Some p) test next f g = cond_both (test p.0) (next p.0 p.1) (Err at) (λ (r : Result Pairs ℕ). IfOk r P) (λ q. g p f q) (λ q. tt)

with_first_ok : (P Q : Pairs → Type 0) (e : List ℕ × List ℕ) (r : Result Pairs ℕ) → IfOk r P → ((es : Pairs) → P es → Q (e ∷ es)) → IfOk (with_first e r) Q
with_first_ok P Q e (Ok es) h f = f es h
with_first_ok P Q e (Err at) h f = tt

-- bytes are n pairs of their forms, that ascend after a key
record AreRead (n : ℕ) (before : Option (List ℕ)) (bytes : List ℕ) (pairs : Pairs) : Type 0 where
  spelling : bytes ≡ flat_map spelt_pair pairs
  count : length pairs ≡ n
  formed : list_all is_pair pairs ≡ true
  ascending : is_ascending pairs ≡ true
  beyond : follows before pairs ≡ true

-- a key that may come next has its form, and follows
next_parts : (before : Option (List ℕ)) (e : List ℕ × List ℕ) (rest : Pairs) → is_next before e.0 ≡ true → (is_key e.0 ≡ true) × (follows before (e ∷ rest) ≡ true)
next_parts None e rest h = (h, refl)
next_parts (Some key) e rest h = and_parts (is_key e.0) (is_lt (key_order key e.0)) h

-- a pair in front of others
front_read : (n : ℕ) (before : Option (List ℕ)) (bytes more rest : List ℕ) (e : List ℕ × List ℕ) (es : Pairs)
    → bytes ≡ spelt e.0 ++ more → more ≡ spelt e.1 ++ rest → is_next before e.0 ≡ true → is_stored e.1 ≡ true → AreRead n (Some e.0) rest es → AreRead (suc n) before bytes (e ∷ es)
front_read n before bytes more rest e es k v next stored read =
    let key = next_parts before e es next in
    let value = and_parts (is_value e.1) (nat_le (length e.1) MOST_COMMAND) stored in
    let count = read.count in
    let formed : is_pair e ≡ true = and_from (is_key e.0 && is_value e.1) (nat_le (length e.1) MOST_COMMAND) (and_from (is_key e.0) (is_value e.1) key.0 value.0) value.1 in
    record {
      spelling = k ∙ ap (λ x. spelt e.0 ++ x) v ∙ sym (append_assoc (spelt e.0) (spelt e.1) rest) ∙ ap (λ x. spelt_pair e ++ x) read.spelling;
      count = omega arith;
      formed = and_from (is_pair e) (list_all is_pair es) formed read.formed;
      ascending = ascending_from e es read.beyond read.ascending;
      beyond = key.1;
    }

none_read : (before : Option (List ℕ)) → AreRead 0 before [] []
none_read None = record { spelling = refl; count = refl; formed = refl; ascending = refl; beyond = refl }
none_read (Some key) = record { spelling = refl; count = refl; formed = refl; ascending = refl; beyond = refl }

pairs_whole : (n : ℕ) (before : Option (List ℕ)) (at : ℕ) (bytes : List ℕ) → AreBytes bytes → IfOk (read_pairs n before at bytes) (AreRead n before bytes)
unfolding read_pairs
pairs_whole zero before at [] b = none_read before
pairs_whole zero before at (x ∷ bytes) b = tt
pairs_whole (suc n) before at bytes b =
    with_text_ok (AreRead (suc n) before bytes) (IsSpelt bytes) at (text_in bytes) (is_next before) _ (text_whole bytes b)
    (λ (k : List ℕ × List ℕ) (key : IsSpelt bytes k) (next : is_next before k.0 ≡ true).
    with_text_ok (AreRead (suc n) before bytes) (IsSpelt k.1) (at + 2 + length k.0) (text_in k.1) is_stored _ (text_whole k.1 key.1)
    (λ (v : List ℕ × List ℕ) (value : IsSpelt k.1 v) (stored : is_stored v.0 ≡ true).
    let e : List ℕ × List ℕ = (k.0, v.0) in
    with_first_ok (AreRead n (Some k.0) v.1) (AreRead (suc n) before bytes) e (read_pairs n (Some k.0) (at + 4 + length k.0 + length v.0) v.1)
    (pairs_whole n (Some k.0) (at + 4 + length k.0 + length v.0) v.1 value.1)
    (λ (es : Pairs) (read : AreRead n (Some k.0) v.1 es). front_read n before bytes k.1 v.1 e es key.0 value.0 next stored read)))

-- an object, and the image of it
abbrev IsImaged : List ℕ → Pairs → Type 0
IsImaged bytes pairs = (is_object pairs ≡ true) × (bytes ≡ image pairs)

imaged_by : (bytes : List ℕ) (p : List ℕ × List ℕ) (pairs : Pairs) → IsParted 4 bytes p → AreBytes p.0 → nat_le (from_be_bytes w32 p.0) MOST_KEYS ≡ true → AreRead (from_be_bytes w32 p.0) None p.1 pairs → IsImaged bytes pairs
imaged_by bytes p pairs h b most read =
    let few : nat_le (length pairs) MOST_KEYS ≡ true = ap (λ n. nat_le n MOST_KEYS) read.count ∙ most in
    let count : to_be_bytes w32 (length pairs) ≡ p.0 = be_bytes_4 p.0 (length pairs) h.1 (byte_small p.0 b) read.count in
    let joined : p.0 ++ p.1 ≡ image pairs = (λ i. sym count i ++ read.spelling i) in
    (and_from (is_ascending pairs && list_all is_pair pairs) (nat_le (length pairs) MOST_KEYS) (and_from (is_ascending pairs) (list_all is_pair pairs) read.ascending read.formed) few, h.0 ∙ joined)

counted_whole : (bytes : List ℕ) (o : Option (List ℕ × List ℕ)) → AreBytes bytes → IfSome o (IsParted 4 bytes) → IfOk (counted o) (IsImaged bytes)
counted_whole bytes None b h = tt
counted_whole bytes (Some p) b h =
    let small = bytes_parts p.0 p.1 (ap (λ x. list_all (λ b. nat_lt b 256) x) (sym h.0) ∙ b) in
    cond_both (nat_le (from_be_bytes w32 p.0) MOST_KEYS) (read_pairs (from_be_bytes w32 p.0) None 4 p.1) (Err 0) (λ (r : Result Pairs ℕ). IfOk r (IsImaged bytes))
    (λ q. ok_map (AreRead (from_be_bytes w32 p.0) None p.1) (IsImaged bytes) (read_pairs (from_be_bytes w32 p.0) None 4 p.1) (pairs_whole (from_be_bytes w32 p.0) None 4 p.1 small.1) (λ pairs read. imaged_by bytes p pairs h small.0 q read))
    (λ q. tt)

-- bytes that read as an object are its image
pub spells_one : SpellsOne
unfolding read_image
spells_one bytes pairs b h =
    let whole : IfOk (read_image bytes) (IsImaged bytes) = counted_whole bytes (part_of 4 bytes) b (part_whole 4 bytes) in
    rw h at whole
