-- The reads that notes confirm wait for their indexes: the open requests are the same, and each waiting read was asked no later than at its index.
use Rattle.std.proofs.Common.{◌≡◌, ℕ, ◌≤◌, List, [], ◌∷◌, Option, Some, None, refl, ap, ◌∙◌, subst, arith}
use Rattle.std.specs.List.{AllByRecursion}
use Rattle.host_ids.specs.declared.entry.Key.{Key}
use Rattle.object_model.specs.Desk.{Request}
use Rattle.raft_model.specs.declared.note.Note.{Note}
use Rattle.raft_model.specs.declared.note.Note.TheVariants as notes
use Rattle.raft_safety.specs.ReadFront.{AreFronted}
use Rattle.run_model.specs.declared.told.Want.{Want}
use Rattle.run_model.specs.declared.told.Want.TheVariants as wants
use Rattle.run_model.specs.World.{Open, waiting_order}
use Rattle.run_model.specs.Run.{confirmed, confirmed_by, want_of}
use Rattle.run_law.proofs.Basics.Tables.{found_has, insert_all, insert_each, AreOrdered, written_again}
use Rattle.run_law.proofs.Requests.Serials.{request_at, Wanted, Waits}
use Rattle.run_law.proofs.Requests.Book.{Book, asked_at, request_in, requests_in, IsAsked, AreAsked}

module _ (me : ℕ) (book : Book) where
  -- the requests of this host
  abbrev mine : List Request
  mine = asked_at book me

  -- open requests of this host, in the order of their keys, and the reads among them that wait
  pub record Stands (o : Open) : Type 0 where
    pub wants : AllByRecursion (Wanted me mine) o.wants
    pub ordered : AreOrdered o.wants
    pub waiting : AllByRecursion (Waits me mine) o.waiting

  -- the same requests are open after, and they stand so
  pub record Hears (o after : Open) : Type 0 where
    pub stands : Stands after
    pub same : requests_in book after.wants ≡ requests_in book o.wants

  -- where nothing changes
  as_before : (o : Open) → Stands o → Hears o o
  as_before o s = record { stands = s; same = refl }

  -- a read that is confirmed with an index waits for it, where it is open and has none yet
  one_hears : (key : Key) (index : ℕ) (o : Open) (want : Option Want) → Stands o → IsAsked book key index → want_of key o.wants ≡ want → Hears o (confirmed_by want key index o)
  one_hears key index o None s a l = as_before o s
  one_hears key index o (Some wants.Proposal) s a l = as_before o s
  one_hears key index o (Some (wants.Read query (Some front))) s a l = as_before o s
  one_hears key index o (Some (wants.Read query None)) s a l =
      let own : Wanted me mine (key, wants.Read query None) = found_has (Wanted me mine) key (wants.Read query None) o.wants l s.wants in
      let new : Wanted me mine (key, wants.Read query (Some index)) = record { within = own.within; want = own.want } in
      let is : request_in book key ≡ request_at mine key = ap (λ (u : ℕ). request_at (asked_at book u) key) own.within.host in
      let late : (request_at mine key).since ≤ index = subst (λ (r : Request). r.since ≤ index) is a.late in
      let waits : Waits me mine (record { front = index; key = key }) = record { within = own.within; query = query; what = own.want; late = late } in
      let again = written_again (request_in book) key (wants.Read query None) (wants.Read query (Some index)) o.wants s.ordered l in
      record {
        stands = record {
          wants = insert_each (Wanted me mine) key (wants.Read query (Some index)) o.wants new s.wants;
          ordered = again.0;
          waiting = insert_all (Waits me mine) waiting_order (record { front = index; key = key }) o.waiting waits s.waiting;
        };
        same = again.1;
      }

  -- the open requests after notes that confirm reads only with their fronts
  pub all_hear : (asks : List (Key × ℕ)) (ns : List Note) (o : Open) → AreAsked book asks → AreFronted asks ns → Stands o → Hears o (confirmed ns o)
  unfolding confirmed
  all_hear asks [] o all f s = as_before o s
  all_hear asks (notes.Leader host term ∷ ns) o all f s = all_hear asks ns o all f.1 s
  all_hear asks (notes.Pending host id ∷ ns) o all f s = all_hear asks ns o all f.1 s
  all_hear asks (notes.Idle ∷ ns) o all f s = all_hear asks ns o all f.1 s
  all_hear asks (notes.Dropped key ∷ ns) o all f s = all_hear asks ns o all f.1 s
  all_hear asks (notes.Confirmed host key index ∷ ns) o all f s =
      let asked : IsAsked book key f.0.first = found_has (λ x. IsAsked book x.0 x.1) key f.0.first asks f.0.asked all in
      let within : IsAsked book key index = record { within = asked.within; late = omega (arith, asked.late, f.0.within) } in
      let first = confirmed_by (want_of key o.wants) key index o in
      let k = one_hears key index o (want_of key o.wants) s within refl in
      let more = all_hear asks ns first all f.1 k.stands in
      record { stands = more.stands; same = more.same ∙ k.same }
