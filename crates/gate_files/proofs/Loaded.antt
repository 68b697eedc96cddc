-- A file that is read in pieces.
use Rattle.std.proofs.Common.{◌≡◌, ℕ, zero, suc, ◌+◌, ◌≤◌, List, [], ◌∷◌, ◌++◌, length, take, drop, min, sym, ap, ◌∙◌, arith, length-append}
use Rattle.std.proofs.lemmas.List.{length-drop, length-take, take_all, take_at, take-take, take-append-le}
use Rattle.disk_model.specs.State.{DiskState, IsDisk}
use Rattle.disk_model.specs.Calls.{GoesOn, Keeps, IsSure, Reads}
use Rattle.gate_files.specs.Moments.{LeavesOnly}
use Rattle.gate_files.proofs.Times.{goes_on}

-- what holds while a file is read: its size is known, nothing is changed, and what was read is the file's front
pub record IsLoading (old now : DiskState) (file size : ℕ) (piece bytes : List ℕ) : Type 0 where
  pub sized : old.tells → size ≡ length (old.seen file)
  pub some : length piece ≡ min 65536 size
  pub read : old.tells → bytes ≡ take (length bytes) (old.seen file)
  pub keeps : Keeps old now
  pub sure : old.honest → IsSure file now
  pub moments : old.honest → LeavesOnly old now old.may_leave
  pub tells : old.tells → now.tells
  pub honest : old.honest → now.honest
  pub later : old.faults ≤ now.faults

-- the front of a list goes on by the next n of it
front_goes_on : (at n : ℕ) (seen : List ℕ) → take at seen ++ take n (drop at seen) ≡ take (at + n) seen
front_goes_on zero n seen = let same : zero + n ≡ n = omega arith in ap (λ (k : ℕ). take k seen) (sym same)
front_goes_on (suc at) n [] = let same : suc at + n ≡ suc (at + n) = omega arith in take_all n [] (omega arith) ∙ ap (λ (k : ℕ). take k []) (sym same)
front_goes_on (suc at) n (x ∷ seen) = let same : suc at + n ≡ suc (at + n) = omega arith in ap (λ (l : List ℕ). x ∷ l) (front_goes_on at n seen) ∙ ap (λ (k : ℕ). take k (x ∷ seen)) (sym same)

module _ (old mid new : DiskState) (mid_is : IsDisk mid) (file size : ℕ) (piece bytes : List ℕ) (l : IsLoading old mid file size piece bytes) (into got : List ℕ) (is : into ≡ piece) (n : ℕ) (reads : mid.tells → Reads (mid.seen file) (length bytes) n into got) where
  -- the piece, with what was read over its front
  abbrev pub over : List ℕ
  over = take (length piece) (got ++ drop (length got) piece)

  abbrev pub taken : List ℕ
  taken = take (min n (length piece)) over

  over_long : length over ≡ length piece
  over_long = let a = length-take (length piece) (got ++ drop (length got) piece) in let b = length-append got (drop (length got) piece) in let d = length-drop (length got) piece in omega (arith, a, b, d)

  module _ (tells : old.tells) where
    seen_is : mid.seen file ≡ old.seen file
    seen_is = l.keeps.seen tells file

    r : Reads (mid.seen file) (length bytes) n into got
    r = reads (l.tells tells)

    few : n ≤ length piece
    few = let e = ap (λ (x : List ℕ). length x) is in omega (arith, r.count, e)

    part_long : length (take n (drop (length bytes) (mid.seen file))) ≡ n
    part_long = let a = length-take n (drop (length bytes) (mid.seen file)) in let b = length-drop (length bytes) (mid.seen file) in omega (arith, a, b, r.count)

    whole_front : take n got ≡ take n (drop (length bytes) (old.seen file))
    whole_front =
        ap (λ (x : List ℕ). take n x) r.moved ∙ take_at (take n (drop (length bytes) (mid.seen file))) (drop n into) n part_long ∙ ap (λ (s : List ℕ). take n (drop (length bytes) s)) seen_is

    got_long : n ≤ length got
    got_long = let a = ap (λ (x : List ℕ). length x) r.moved in let b = length-append (take n (drop (length bytes) (mid.seen file))) (drop n into) in omega (arith, a, b, part_long)

    taken_is : taken ≡ take n (drop (length bytes) (old.seen file))
    taken_is =
        let least : min n (length piece) ≡ n = omega (arith, few) in
        ap (λ (k : ℕ). take k over) least ∙ take-take n (length piece) (got ++ drop (length got) piece) few ∙ take-append-le n got (drop (length got) piece) got_long ∙ whole_front

    taken_long : length taken ≡ n
    taken_long = ap (λ (x : List ℕ). length x) taken_is ∙ ap (λ (s : List ℕ). length (take n (drop (length bytes) s))) (sym seen_is) ∙ part_long

    read_on : bytes ++ taken ≡ take (length (bytes ++ taken)) (old.seen file)
    read_on =
        let whole : length (bytes ++ taken) ≡ length bytes + n = (let a = length-append bytes taken in omega (arith, a, taken_long)) in
        ap (λ (x : List ℕ). x ++ taken) (l.read tells) ∙ ap (λ (x : List ℕ). take (length bytes) (old.seen file) ++ x) taken_is ∙ front_goes_on (length bytes) n (old.seen file) ∙ ap (λ (k : ℕ). take k (old.seen file)) (sym whole)

  honest_tells : old.honest → mid.tells
  honest_tells h = mid_is.tells (l.honest h)

  -- one piece more was read
  pub goes_on_loading : Keeps mid new → GoesOn mid new → mid.faults ≤ new.faults → IsLoading old new file size over (bytes ++ taken)
  goes_on_loading keeps on later =
      record {
        sized = l.sized;
        some = over_long ∙ l.some;
        read = read_on;
        keeps = record { seen = λ t f. keeps.seen (l.tells t) f ∙ l.keeps.seen t f; listed = λ t f. keeps.listed (l.tells t) f ∙ l.keeps.listed t f; crash = λ h c m. l.keeps.crash h c (keeps.crash (l.honest h) c m) };
        sure = λ h. record { bytes = λ c m. (l.sure h).bytes c (keeps.crash (l.honest h) c m) ∙ sym (keeps.seen (honest_tells h) file); unlisted = λ c f m u. (l.sure h).unlisted c f (keeps.crash (l.honest h) c m) (sym (keeps.listed (honest_tells h) f) ∙ u) };
        moments = λ h. goes_on old mid new old.may_leave (l.moments h) (l.honest h) on (λ c m. l.keeps.crash h c (keeps.crash (l.honest h) c m));
        tells = λ t. on.tells (l.tells t);
        honest = λ h. on.honest (l.honest h);
        later = omega (arith, l.later, later);
      }
