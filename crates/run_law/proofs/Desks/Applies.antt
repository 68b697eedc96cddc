-- Entries after what is applied are given to the cell of a host, and the reads that are due then are answered: the desk moves with it.
use Rattle.std.proofs.Common.{◌≡◌, ℕ, ◌+◌, ◌-◌, ◌≤◌, ◌<◌, List, [], ◌++◌, length, take, drop, map, refl, sym, ap, ◌∙◌, append_assoc, length-append, take-append-drop, arith, ◌⊎◌, inl, inr}
use Rattle.std.specs.Prelude.{slice_set}
use Rattle.std.specs.List.{AllByRecursion}
use Rattle.std.proofs.lemmas.Bool.{cases_lt}
use Rattle.std.proofs.lemmas.List.{length-take, drop-take, take-take}
use Rattle.host_ids.specs.declared.entry.Entry.{Entry}
use Rattle.object_model.specs.Object.{answer}
use Rattle.object_model.specs.Sequence.{answer_at}
use Rattle.object_model.specs.Desk.{Request, Desk, Moves, MovesJoin}
use Rattle.run_model.specs.World.{Node, new_node}
use Rattle.host_ids.specs.declared.proposal.TheConstants.{MOST_SESSIONS}
use Rattle.run_model.specs.Run.{Applied, applied, due, keys_with, answers_due, fed}
use Rattle.run_model.specs.Marks.{marks_of}
use Rattle.run_law.specs.Lawful.{placed}
use Rattle.run_law.proofs.Basics.Lists.{all_take, all_drop, take_front}
use Rattle.run_law.proofs.Basics.Tables.{keys_all, due_all, not_due_all}
use Rattle.run_law.proofs.Requests.Serials.{Waits, Reading, reading_later}
use Rattle.run_law.proofs.Cells.Judging.{Follows}
use Rattle.run_law.proofs.Basics.Moves.{marks_of-append}
use Rattle.run_law.proofs.Cells.Standing.{Fed, answer_stands}
use Rattle.run_law.proofs.Requests.Book.{Book, asked_at, Named, requests_in, opens_before, opens_beyond, opens_around, contexts_there}
use Rattle.run_law.proofs.Desks.Fits.{NodeFits, at_host, Fits, set_fits}
use Rattle.run_law.proofs.Desks.Endings.{with_open, Serves, all_given, all_answered, applied_ordered, answered_ordered}

-- what is given of the decided list
pub fed_list : (u limit : ℕ) (mine : List Request) (decided : List Entry) (n : Node) → NodeFits u limit mine decided n → Fed limit (take n.cell.applied decided) n.cell
fed_list u limit mine decided n f = record {
  count = rw length-take (omega (arith, f.applied));
  limit_is = f.limit_is;
  judges = f.judges;
}

-- a host's node after some entries more
abbrev pub given : ℕ → List Entry → List (List (List ℕ)) → Node → Applied
given k decided contexts n = applied contexts (take k (drop n.cell.applied decided)) n.cell n.requests.wants

-- a host's node that fits with the open requests that the host has
pub record IsNext (h limit : ℕ) (book : Book) (decided : List Entry) (nodes : List Node) (node : Node) : Type 0 where
  pub fits : NodeFits h limit (asked_at book h) decided node
  pub same : requests_in book node.requests.wants ≡ requests_in book (at_host nodes h).requests.wants

-- a desk to which the lines of an apply at a host's node move, and which fits the nodes with the node after the apply
pub record Feeds (h limit : ℕ) (book : Book) (decided : List Entry) (nodes : List Node) (contexts : List (List (List ℕ))) (d : Desk) (node : Node) (a : Applied) : Type 0 where
  pub desk : Desk
  pub fits : Fits limit book decided (slice_set nodes h (fed contexts node a)) contexts desk
  pub moves : Moves limit d (marks_of 1 (a.told ++ (answers_due contexts node a).told)) desk

-- some entries after what is applied, and no more than are decided, are given to a host's node with the open requests that the host has
pub feeds : (laws : Follows) (h limit k : ℕ) (book : Book) (decided : List Entry) (nodes : List Node) (contexts : List (List (List ℕ))) (d : Desk) (node : Node) → MovesJoin → h < length nodes
    → IsNext h limit book decided nodes node → Fits limit book decided nodes contexts d
    → Feeds h limit book decided nodes contexts d node (given k decided contexts node)
feeds laws h limit k book decided nodes contexts d node join room next f =
    let n = node.cell.applied in
    let fits = next.fits in
    let mine = asked_at book h in
    let before = opens_before book h nodes in
    let beyond = opens_beyond book h nodes in
    let front = take n decided in
    let es = take k (drop n decided) in
    let rest = drop k (drop n decided) in
    let whole : decided ≡ front ++ (es ++ rest) = sym (take-append-drop n decided) ∙ ap (λ (l : List Entry). front ++ l) (sym (take-append-drop k (drop n decided))) in
    let serves : Serves h book before beyond limit contexts d front (es ++ rest) node.cell node.requests.wants = record {
      list = f.decided ∙ ap (λ (l : List Entry). map (placed contexts) l) whole;
      contexts_are = contexts_there book contexts h f.contexts;
      fed = fed_list h limit mine decided node fits;
      open_ones = f.open_ones ∙ opens_around book h nodes (new_node MOST_SESSIONS) room ∙ ap (λ (l : List Request). before ++ (l ++ beyond)) (sym next.same);
      wanted = fits.wants;
    } in
    let named : AllByRecursion (Named book) es = all_take (Named book) k (drop n decided) (all_drop (Named book) n decided f.named) in
    let first = given k decided contexts node in
    let m = first.cell.applied in
    let d1 = with_open d book before beyond first.wants in
    let g = all_given h book before beyond laws limit contexts d front es rest node.cell node.requests.wants join serves named in
    let keys = keys_with [] (due m node.requests.waiting) in
    let reading : AllByRecursion (Reading h mine m) keys = keys_all (Reading h mine m) [] (due m node.requests.waiting) tt
    (due_all (Waits h mine) (λ r. Reading h mine m r.key) m node.requests.waiting (λ r p l. reading_later h mine r.front m r.key p l) fits.waiting) in
    let after = answers_due contexts node first in
    let q = all_answered h book before beyond limit contexts d1 (front ++ es) rest first.cell first.wants keys join g.serves reading in
    let count : m ≡ length (front ++ es) = g.serves.fed.count in
    let taken : take m decided ≡ front ++ es = take_front (front ++ es) rest decided m (whole ∙ sym (append_assoc front es rest)) count in
    let long : length decided ≡ length (front ++ es) + length rest = ap (λ (l : List Entry). length l) (whole ∙ sym (append_assoc front es rest)) ∙ length-append (front ++ es) rest in
    let d2 = with_open d book before beyond after.wants in
    let becomes : NodeFits h limit mine decided (fed contexts node first) = record {
      wants = q.1;
      ordered = answered_ordered h book before beyond contexts first.cell keys first.wants (applied_ordered h book before beyond contexts es node.cell node.requests.wants fits.ordered);
      waiting = not_due_all (Waits h mine) m node.requests.waiting fits.waiting;
      applied = omega (arith, count, long);
      limit_is = g.serves.fed.limit_is;
      judges = rw taken g.serves.fed.judges;
    } in
    record {
      desk = d2;
      fits = set_fits h limit (fed contexts node first) book decided nodes contexts d room becomes f;
      moves = rw marks_of-append (join limit d (marks_of 1 first.told) (marks_of 1 after.told) d1 d2 g.moves q.0);
    }

-- ---- stale answers

-- an answer from what a host has applied is the answer at that front of the list
pub stale_stands : (limit h : ℕ) (book : Book) (decided : List Entry) (nodes : List Node) (contexts : List (List (List ℕ))) (d : Desk) (query : List ℕ) → h < length nodes
    → Fits limit book decided nodes contexts d
    → ((at_host nodes h).cell.applied ≤ length d.decided) × (answer (at_host nodes h).cell.pairs query ≡ answer_at limit d.decided (at_host nodes h).cell.applied query)
stale_stands limit h book decided nodes contexts d query room f =
    let node = at_host nodes h in
    let n = node.cell.applied in
    let list : d.decided ≡ map (placed contexts) (take n decided ++ drop n decided) = f.decided ∙ ap (λ (l : List Entry). map (placed contexts) l) (sym (take-append-drop n decided)) in
    answer_stands limit contexts d (take n decided) (drop n decided) node.cell query list (fed_list h limit (asked_at book h) decided node (f.nodes h room))

-- ---- what a replica's log has of the list

-- the same first places hold the same entries after some of them
pub next_same : (log decided : List Entry) (commit n k : ℕ) → take commit log ≡ take commit decided → k ≤ commit - n → take k (drop n log) ≡ take k (drop n decided)
next_same log decided commit n k e few = by_size (cases_lt commit (n + k)) where
  part : (xs : List Entry) → n + k ≤ commit → take k (drop n xs) ≡ drop n (take (n + k) (take commit xs))
  part xs l = sym (drop-take n k xs) ∙ ap (λ (l : List Entry). drop n l) (sym (take-take (n + k) commit xs l))

  by_size : (commit < n + k) ⊎ (n + k ≤ commit) → take k (drop n log) ≡ take k (drop n decided)
  by_size (inr l) = part log l ∙ ap (λ (l : List Entry). drop n (take (n + k) l)) e ∙ sym (part decided l)
  by_size (inl l) = let none : k ≡ 0 = omega (arith, l, few) in rw none refl
