-- An object stays one, whatever text it is given.
use Rattle.std.proofs.Common.{◌≡◌, ◌≤◌, ◌<◌, ◌^◌, ℕ, ◌+◌, ◌%◌, List, [], ◌∷◌, Bool, true, cond, Option, Some, None, IfSome, length, refl, ⊎_elim, arith, zero, suc, leb-true, le-leb, lt-ltb, ltb-true, ltb-false, ◌==◌}
use Rattle.std.specs.Prelude.{◌&&◌, ◌||◌, nat_lt, nat_le, is_some, codes, decimal, slice_index_or}
use Rattle.std.specs.List.{list_all, slice_split, onto_first}
use Rattle.std.specs.BTreeMap.{insert_entry, is_at}
use Rattle.std.specs.Map.{lookup, remove_entry}
use Rattle.std.proofs.lemmas.Bool.{and_parts, and_from, or_cases, cond_both}
use Rattle.std.proofs.lemmas.Bool.Decides.{nat_tests}
use Rattle.std.proofs.lemmas.List.Folds.{list_all-append}
use Rattle.std.proofs.lemmas.Fmt.{decimal_by_steps, decimal_nonempty, length-decimal-le}
use Rattle.host_ids.specs.declared.proposal.TheConstants.{MOST_COMMAND}
use Rattle.object_model.specs.declared.command.Command.{Command}
use Rattle.object_model.specs.declared.command.Command.TheVariants as commands
use Rattle.object_model.specs.declared.command.Change.{Change}
use Rattle.object_model.specs.declared.command.Change.TheVariants as changes
use Rattle.object_model.specs.Words.{words_of, word, begins, is_key, is_value, is_value_byte, number_of}
use Rattle.object_model.specs.Command.{most_number, put_of, del_of, add_by, add_of, command_in, command_of}
use Rattle.object_model.specs.Object.{Pairs, key_order, value_at, shown, fitting, sum_by, sum_of, refuses, stores, adds, key_of, change_of, changed, after_any, after}
use Rattle.object_model.specs.declared.command.TheConstants.{MOST_KEYS}
use Rattle.object_model.specs.Image.{is_ascending, is_pair, is_object, StaysObject, FirstIsObject}
use Rattle.object_model.proofs.Ordered.{inserted_ascending, inserted_pairs, inserted_count, inserted_there, removed_ascending, removed_pairs, removed_count}

-- ---- words of a text

-- each part has at most n bytes
abbrev EachWithin : ℕ → List (List ℕ) → Type 0
EachWithin n [] = Unit {0}
EachWithin n (part ∷ parts) = (length part ≤ n) × EachWithin n parts

-- what has at most n bytes has at most n + 1
within_more : (n : ℕ) (parts : List (List ℕ)) → EachWithin n parts → EachWithin (suc n) parts
within_more n [] h = tt
within_more n (part ∷ parts) h = let first = h.0 in (omega arith, within_more n parts h.1)

-- a byte in front of the first part is one byte more
within_onto : (n x : ℕ) (parts : List (List ℕ)) → EachWithin n parts → EachWithin (suc n) (onto_first x parts)
within_onto n x [] h = (omega arith, tt)
within_onto n x (part ∷ parts) h = let first = h.0 in (omega arith, within_more n parts h.1)

-- a part is at most as long as the whole
split_within : (p : ℕ → Bool) (xs : List ℕ) → EachWithin (length xs) (slice_split p xs)
split_within p [] = (omega arith, tt)
split_within p (x ∷ xs) =
    let rest = split_within p xs in
    cond_both (p x) ([] ∷ slice_split p xs) (onto_first x (slice_split p xs)) (λ (parts : List (List ℕ)). EachWithin (suc (length xs)) parts)
    (λ q. (omega arith, within_more (length xs) (slice_split p xs) rest))
    (λ q. within_onto (length xs) x (slice_split p xs) rest)

-- the part at a place, or nothing past the end, has at most n bytes too
within_at : (n : ℕ) (parts : List (List ℕ)) (place : ℕ) → EachWithin n parts → length (slice_index_or parts place []) ≤ n
within_at n [] place h = omega arith
within_at n (part ∷ parts) zero h = h.0
within_at n (part ∷ parts) (suc place) h = within_at n parts place h.1

-- ---- commands

-- a command has the forms of its key and its value
abbrev IsFormed : Command → Type 0
IsFormed (commands.Put key value) = is_pair (key, value) ≡ true
IsFormed (commands.Del key) = Unit {0}
IsFormed (commands.Add key number) = is_key key ≡ true

-- a put with a value of at most 512 bytes has its forms
formed_put : (words : List (List ℕ)) → length (word words 2) ≤ MOST_COMMAND → IfSome (put_of words) IsFormed
formed_put words h =
    cond_both (is_key (word words 1) && is_value (word words 2)) (Some (commands.Put (word words 1) (word words 2))) None (λ (o : Option Command). IfSome o IsFormed)
    (λ q. and_from (is_key (word words 1) && is_value (word words 2)) (nat_le (length (word words 2)) MOST_COMMAND) q (le-leb (length (word words 2)) MOST_COMMAND h))
    (λ q. tt)

-- a del has its forms
formed_del : (words : List (List ℕ)) → IfSome (del_of words) IsFormed
formed_del words = cond_both (is_key (word words 1)) (Some (commands.Del (word words 1))) None (λ (o : Option Command). IfSome o IsFormed) (λ q. tt) (λ q. tt)

-- an add of a number has its forms
formed_add_by : (key : List ℕ) (number : Option ℕ) → is_key key ≡ true → IfSome (add_by key number) IsFormed
formed_add_by key None h = tt
formed_add_by key (Some number) h = h

-- an add has its forms
formed_add : (words : List (List ℕ)) → IfSome (add_of words) IsFormed
formed_add words =
    cond_both (is_key (word words 1)) (add_by (word words 1) (number_of most_number (word words 2))) None (λ (o : Option Command). IfSome o IsFormed)
    (λ q. formed_add_by (word words 1) (number_of most_number (word words 2)) q)
    (λ q. tt)

-- words, the third of at most 512 bytes, give a command that has its forms
formed_in : (words : List (List ℕ)) → length (word words 2) ≤ MOST_COMMAND → IfSome (command_in words) IsFormed
formed_in words h =
    cond_both (begins words 3 (codes "put")) (put_of words) _ (λ (o : Option Command). IfSome o IsFormed) (λ q. formed_put words h)
    (λ q. cond_both (begins words 2 (codes "del")) (del_of words) _ (λ (o : Option Command). IfSome o IsFormed) (λ p. formed_del words)
    (λ p. cond_both (begins words 3 (codes "add")) (add_of words) None (λ (o : Option Command). IfSome o IsFormed) (λ r. formed_add words) (λ r. tt)))

-- the command that a text of at most 512 bytes is has its forms
formed : (text : List ℕ) → length text ≤ MOST_COMMAND → IfSome (command_of text) IsFormed
unfolding command_of
formed text h =
    let third = within_at (length text) (words_of text) 2 (split_within (λ b. b == 32) text) in
    formed_in (words_of text) (omega arith)

-- ---- numbers

-- a digit is a byte of values
digit_value : (n : ℕ) → n < 10 → is_value_byte (48 + n) ≡ true
digit_value n h = grind (arith, nat_tests)

-- a number of 64 bits is written in bytes of values
decimal_bytes : (n : ℕ) → n < 2 ^ 64 → list_all is_value_byte (decimal n) ≡ true
decimal_bytes n h = decimal_by_steps (λ n ds. list_all is_value_byte ds ≡ true)
    (λ n k. and_from (is_value_byte (48 + n)) true (digit_value n k) refl)
    (λ n ds k all. rw (list_all-append is_value_byte ds ((48 + n % 10) ∷ [])) (and_from (list_all is_value_byte ds) _ all (and_from (is_value_byte (48 + n % 10)) true (digit_value (n % 10) (omega arith)) refl)))
    n h

-- and in at most 20
decimal_short : (n : ℕ) → n < 2 ^ 64 → length (decimal n) ≤ 20
decimal_short n h = length-decimal-le 20 n (omega arith) (omega arith) h

-- a number of 64 bits is a value
decimal_value : (n : ℕ) → n < 2 ^ 64 → is_value (decimal n) ≡ true
decimal_value n h = and_from (list_all is_value_byte (decimal n)) (nat_lt 0 (length (decimal n))) (decimal_bytes n h) (lt-ltb 0 (length (decimal n)) (decimal_nonempty n h))

-- what fits is a number of 64 bits
fits : (n : ℕ) → IfSome (fitting n) (λ s. s < 2 ^ 64)
fits n = cond_both (nat_le n most_number) (Some n) None (λ (o : Option ℕ). IfSome o (λ s. s < 2 ^ 64)) (λ q. let most = leb-true n most_number q in omega arith) (λ q. tt)

-- a sum with a number is a number of 64 bits
sum_by_fits : (first : Option ℕ) (number : ℕ) → IfSome (sum_by first number) (λ s. s < 2 ^ 64)
sum_by_fits None number = tt
sum_by_fits (Some n) number = fits (n + number)

-- a sum with a value is a number of 64 bits
sum_fits : (found : Option (List ℕ)) (number : ℕ) → IfSome (sum_of found number) (λ s. s < 2 ^ 64)
sum_fits None number = fits number
sum_fits (Some value) number = sum_by_fits (number_of most_number value) number

-- ---- changes

-- the parts of an object
record IsObject (pairs : Pairs) : Type 0 where
  ascending : is_ascending pairs ≡ true
  formed : list_all is_pair pairs ≡ true
  few : length pairs ≤ MOST_KEYS

-- an object has these parts
object_parts : (pairs : Pairs) → is_object pairs ≡ true → IsObject pairs
object_parts pairs h =
    let parts = and_parts (is_ascending pairs && list_all is_pair pairs) (nat_le (length pairs) MOST_KEYS) h in
    let front = and_parts (is_ascending pairs) (list_all is_pair pairs) parts.0 in
    record { ascending = front.0; formed = front.1; few = leb-true (length pairs) MOST_KEYS parts.1 }

-- and these parts make an object
object_from : (pairs : Pairs) → is_ascending pairs ≡ true → list_all is_pair pairs ≡ true → length pairs ≤ MOST_KEYS → is_object pairs ≡ true
object_from pairs a f l = and_from (is_ascending pairs && list_all is_pair pairs) (nat_le (length pairs) MOST_KEYS) (and_from (is_ascending pairs) (list_all is_pair pairs) a f) (le-leb (length pairs) MOST_KEYS l)

-- a value that is found is short
found_within : (test : List ℕ → Bool) (pairs : Pairs) → list_all is_pair pairs ≡ true → IfSome (lookup test pairs) (λ v. length v ≤ MOST_COMMAND)
found_within test [] h = tt
found_within test (e ∷ rest) h =
    let parts = and_parts (is_pair e) (list_all is_pair rest) h in
    cond_both (test e.0) (Some e.1) (lookup test rest) (λ (o : Option (List ℕ)). IfSome o (λ v. length v ≤ MOST_COMMAND))
    (λ q. leb-true (length e.1) MOST_COMMAND (and_parts (is_key e.0 && is_value e.1) (nat_le (length e.1) MOST_COMMAND) parts.0).1)
    (λ q. found_within test rest parts.1)

-- a short value, or none, is shown in short
shown_by : (found : Option (List ℕ)) → IfSome found (λ v. length v ≤ MOST_COMMAND) → length (shown found) ≤ MOST_COMMAND
shown_by None h = omega arith
shown_by (Some value) h = h

-- a value of an object is shown in short
shown_short : (pairs : Pairs) (key : List ℕ) → IsObject pairs → length (shown (value_at pairs key)) ≤ MOST_COMMAND
shown_short pairs key object = shown_by (value_at pairs key) (found_within (is_at (key_order key)) pairs object.formed)

-- a change with a short reply that stores a key and a value of their forms, and few enough
abbrev IsGood : Pairs → List ℕ → Change → Type 0
IsGood pairs key (changes.Keeps reply) = length reply ≤ MOST_COMMAND
IsGood pairs key (changes.Stores value reply) = (is_pair (key, value) ≡ true) × (length reply ≤ MOST_COMMAND) × (length (insert_entry key_order pairs key value) ≤ MOST_KEYS)
IsGood pairs key (changes.Removes reply) = length reply ≤ MOST_COMMAND

-- a good change leaves an object, with a short reply
good_changed : (pairs : Pairs) (key : List ℕ) (change : Change) → is_object pairs ≡ true → IsGood pairs key change → (is_object (changed pairs key change).pairs ≡ true) × (length (changed pairs key change).reply ≤ MOST_COMMAND)
good_changed pairs key (changes.Keeps reply) h good = (h, good)
good_changed pairs key (changes.Stores value reply) h good =
    let object = object_parts pairs h in
    (object_from (insert_entry key_order pairs key value) (inserted_ascending key value pairs object.ascending) (inserted_pairs key value pairs good.0 object.formed) good.2, good.1)
good_changed pairs key (changes.Removes reply) h good =
    let object = object_parts pairs h in
    let test : List ℕ → Bool = is_at (key_order key) in
    let fewer = removed_count test pairs in
    let few = object.few in
    (object_from (remove_entry test pairs) (removed_ascending test pairs object.ascending) (removed_pairs test pairs object.formed) (omega arith), good)

-- a value is stored only where there is room
room : (pairs : Pairs) (key value : List ℕ) → IsObject pairs → (is_some (value_at pairs key) || nat_lt (length pairs) MOST_KEYS) ≡ true → length (insert_entry key_order pairs key value) ≤ MOST_KEYS
room pairs key value object h =
    let few = object.few in
    ⊎_elim (λ s. let same = inserted_there key value pairs object.ascending s in omega arith)
    (λ l. let less = ltb-true (length pairs) MOST_KEYS l in let more = inserted_count key value pairs in omega arith)
    (or_cases (is_some (value_at pairs key)) (nat_lt (length pairs) MOST_KEYS) h)

-- to store a value of its form is good
stores_good : (pairs : Pairs) (key value reply : List ℕ) → IsObject pairs → is_pair (key, value) ≡ true → length reply ≤ MOST_COMMAND → IsGood pairs key (stores (value_at pairs key) (length pairs) value reply)
stores_good pairs key value reply object pair short =
    cond_both (is_some (value_at pairs key) || nat_lt (length pairs) MOST_KEYS) (changes.Stores value reply) refuses (λ (change : Change). IsGood pairs key change)
    (λ q. (pair, short, room pairs key value object q))
    (λ q. omega arith)

-- to store a sum of 64 bits is good
adds_good : (pairs : Pairs) (key : List ℕ) (sum : Option ℕ) → IsObject pairs → is_key key ≡ true → IfSome sum (λ s. s < 2 ^ 64) → IsGood pairs key (adds (value_at pairs key) (length pairs) sum)
adds_good pairs key None object k h = omega arith
adds_good pairs key (Some sum) object k h =
    let short = decimal_short sum h in
    let few : length (decimal sum) ≤ MOST_COMMAND = omega arith in
    stores_good pairs key (decimal sum) (decimal sum) object (and_from (is_key key && is_value (decimal sum)) (nat_le (length (decimal sum)) MOST_COMMAND) (and_from (is_key key) (is_value (decimal sum)) k (decimal_value sum h)) (le-leb (length (decimal sum)) MOST_COMMAND few)) few

-- what a command with its forms changes is good
change_good : (pairs : Pairs) (command : Command) → IsObject pairs → IsFormed command → IsGood pairs (key_of command) (change_of command (value_at pairs (key_of command)) (length pairs))
change_good pairs (commands.Put key value) object h = stores_good pairs key value (shown (value_at pairs key)) object h (shown_short pairs key object)
change_good pairs (commands.Del key) object h = shown_short pairs key object
change_good pairs (commands.Add key number) object h = adds_good pairs key (sum_of (value_at pairs key) number) object h (sum_fits (value_at pairs key) number)

-- ---- texts

-- a command with its forms, or none, leaves an object
any_stays : (pairs : Pairs) (command : Option Command) → is_object pairs ≡ true → IfSome command IsFormed → (is_object (after_any pairs command).pairs ≡ true) × (length (after_any pairs command).reply ≤ MOST_COMMAND)
any_stays pairs None h formed = (h, omega arith)
any_stays pairs (Some command) h formed =
    good_changed pairs (key_of command) (change_of command (value_at pairs (key_of command)) (length pairs)) h (change_good pairs command (object_parts pairs h) formed)

-- the command of a text, which is none where that has more than 512 bytes, has its forms
short_formed : (text : List ℕ) → IfSome (cond (nat_lt MOST_COMMAND (length text)) None (command_of text)) IsFormed
short_formed text =
    cond_both (nat_lt MOST_COMMAND (length text)) None (command_of text) (λ (o : Option Command). IfSome o IsFormed) (λ q. tt) (λ q. formed text (ltb-false MOST_COMMAND (length text) q))

-- whatever text an object is given, it stays one, and the reply is short
pub stays_object : StaysObject
unfolding after
stays_object pairs text h = any_stays pairs (cond (nat_lt MOST_COMMAND (length text)) None (command_of text)) h (short_formed text)

-- no pairs are an object
pub first_is_object : FirstIsObject
first_is_object = refl
