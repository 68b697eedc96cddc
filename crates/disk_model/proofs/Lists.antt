-- Lists of bytes: what a write and a cut leave of them, and what undoes both.
use Rattle.std.proofs.Common.{◌≡◌, ℕ, ◌+◌, ◌-◌, List, ◌++◌, length, take, drop, replicate, min, max, sym, arith, rules}
use Rattle.std.proofs.lemmas.List.{same_lists, places, take_at}
use Rattle.disk_model.specs.Bytes.{padded, written, cut_to}

pub padded_is : (end : ℕ) (old : List ℕ) → take (max end (length old)) old ++ replicate (max end (length old) - length old) 0 ≡ padded end old
padded_is end old = same_lists _ _ (search (rules, places)) (λ k d h. grind (arith, places))

pub laid : (at : ℕ) (bytes old : List ℕ) → take at (padded (at + length bytes) old) ++ bytes ++ drop (at + length bytes) (padded (at + length bytes) old) ≡ written at bytes old
laid at bytes old = same_lists _ _ (search (rules, places)) (λ k d h. grind (arith, places))

pub undone_write : (at : ℕ) (bytes old : List ℕ) → take (length old) (written (min at (length old)) (take (min (at + length bytes) (length old) - min at (length old)) (drop (min at (length old)) old)) (written at bytes old)) ≡ old
undone_write at bytes old = same_lists _ _ (search (rules, places)) (λ k d h. grind (arith, places))

pub undone_cut : (size : ℕ) (old : List ℕ) → take (length old) (written (min size (length old)) (drop (min size (length old)) old) (cut_to size old)) ≡ old
undone_cut size old = same_lists _ _ (search (rules, places)) (λ k d h. grind (arith, places))

pub laid_ones : (at n : ℕ) (old : List ℕ) → take at (padded (at + n) old) ++ replicate n 255 ++ drop (at + n) (padded (at + n) old) ≡ written at (replicate n 255) old
laid_ones at n old = same_lists _ _ (search (rules, places)) (λ k d h. grind (arith, places))

-- a slice of the whole list that was written back
pub all_of : (n : ℕ) (xs ys : List ℕ) → n ≡ length xs → take n (xs ++ drop (length xs) ys) ≡ xs
all_of n xs ys is = take_at xs (drop (length xs) ys) n (sym is)
