-- A cell stands for the entries that it was given.
use Rattle.std.proofs.Common.{◌≡◌, ℕ, ◌≤◌, List, [], ◌∷◌, ◌++◌, Option, Some, None, length, map, refl, ◌∙◌, subst, length-append, arith}
use Rattle.std.proofs.lemmas.List.{length-map}
use Rattle.host_ids.specs.declared.entry.Key.{Key}
use Rattle.host_ids.specs.declared.entry.Entry.{Entry}
use Rattle.host_ids.specs.declared.proposal.Proposal.{Proposal}
use Rattle.object_model.specs.declared.mark.What.TheVariants as whats
use Rattle.object_model.specs.declared.mark.Ending.{Ending}
use Rattle.object_model.specs.Object.{answer}
use Rattle.object_model.specs.Sequence.{answer_at, state, verdict, effect_of, ending_by}
use Rattle.object_model.specs.Desk.{Desk, EndMove, ReadMove}
use Rattle.run_model.specs.declared.told.Want.{Want}
use Rattle.run_model.specs.World.{Cell}
use Rattle.run_model.specs.Run
use Rattle.run_model.specs.Run.{given, ending_of}
use Rattle.run_law.specs.Lawful.{placed}
use Rattle.run_law.proofs.Cells.Judging.{Follows, Judges, limit_stays, given_judges, ending_is}
use Rattle.run_law.proofs.Cells.History.{past, past_front, past_last}

-- a cell that was given these entries
pub record Fed (limit : ℕ) (front : List Entry) (c : Cell) : Type 0 where
  pub count : c.applied ≡ length front
  pub limit_is : c.sessions.limit ≡ limit
  pub judges : Judges (past front) c.sessions c.pairs

-- the object is what the definitions make of these entries
pub fed_object : (limit : ℕ) (front : List Entry) (c : Cell) → Fed limit front c → c.pairs ≡ state limit (past front)
fed_object limit front c f = subst (λ (n : ℕ). c.pairs ≡ state n (past front)) f.limit_is f.judges.object

-- the request of a proposal ends as it does at the next place
pub fed_ending : (laws : Follows) (limit : ℕ) (front : List Entry) (p : Proposal) (c : Cell) → Fed limit front c
    → ending_of p c ≡ ending_by (verdict limit (past front) p) p (state limit (past front))
fed_ending laws limit front p c f = subst (λ (n : ℕ). ending_of p c ≡ ending_by (verdict n (past front) p) p (state n (past front))) f.limit_is (ending_is laws (past front) p c f.judges)

-- a cell that was given these entries and is given one more was given all of them
pub fed_given : (laws : Follows) (limit : ℕ) (front : List Entry) (e : Entry) (c : Cell) → Fed limit front c → Fed limit (front ++ e ∷ []) (given e.proposal c)
fed_given laws limit front e c f = record {
  count = rw length-append (omega (arith, f.count));
  limit_is = limit_stays e.proposal (effect_of e.proposal c.pairs).reply c.sessions ∙ f.limit_is;
  judges = rw past_last (given_judges laws (past front) e.proposal c f.judges);
}

-- the cell after an entry, whether its request is open or not
pub cell_given : (contexts : List (List (List ℕ))) (key : Key) (c : Cell) (ws : List (Key × Want)) (o : Option Ending) → (Run.ended_with o contexts key c ws).cell ≡ c
cell_given contexts key c ws None = refl
cell_given contexts key c ws (Some ending) = refl

-- an answer from what is given is the answer at that front of the list
pub answer_stands : (limit : ℕ) (contexts : List (List (List ℕ))) (d : Desk) (front back : List Entry) (c : Cell) (query : List ℕ) → d.decided ≡ map (placed contexts) (front ++ back) → Fed limit front c
    → (c.applied ≤ length d.decided) × (answer c.pairs query ≡ answer_at limit d.decided c.applied query)
answer_stands limit contexts d front back c query list fed = (
  rw (list, length-map, length-append) (omega (arith, fed.count)),
  rw (list, fed.count, past_front, fed_object limit front c fed) refl,
)

-- a read is answered after what is given
pub answer_move : (limit : ℕ) (contexts : List (List (List ℕ))) (d e : Desk) (front back : List Entry) (c : Cell) (context query : List ℕ) (since : ℕ)
    → d.decided ≡ map (placed contexts) (front ++ back) → Fed limit front c → since ≤ c.applied
    → EndMove d context (whats.Queries query) since e → ReadMove limit d context c.applied (answer c.pairs query) e
answer_move limit contexts d e front back c context query since list fed late ends =
    let stands = answer_stands limit contexts d front back c query list fed in
    record { query = query; since = since; late = late; within = stands.0; gives = stands.1; ends = ends }
