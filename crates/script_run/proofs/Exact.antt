-- What was written is what the whole input says.
use Rattle.std.proofs.Common.{◌≡◌, inl, inr, ℕ, List, [], ◌∷◌, ◌++◌, Option, Some, None, refl, sym, ap, ◌∙◌, subst, arith, append_assoc}
use Rattle.std.specs.Prelude.{codes}
use Rattle.std.specs.Io.KnownBytes.{Appends, IsAtEnd}
use Rattle.std.proofs.lemmas.List.{append-nil}
use Rattle.fault_io.specs.Faults.{WritesFront}
use Rattle.fault_io.proofs.Known.{Appends-append}
use Rattle.run_model.specs.declared.told.Stop.{Stop}
use Rattle.run_model.specs.declared.told.Stop.TheVariants.{Ended, Bad, Full, Spent}
use Rattle.run_model.specs.World.{World}
use Rattle.run_model.specs.Run.{outcome_of, output_of, text_of, ending}
use Rattle.script_text.specs.Print.{print_line}
use Rattle.run_law.specs.Lawful.{RunsAreLegal, RunsAreLegalSoFar}
use Rattle.run_law.specs.Complete.{EndsOrIsFull, ScriptsEnd}
use Rattle.script_run.specs.Reach.{ComesTo, Stopped, IsCut, GivenUp, IsSpent, Taken}
use Rattle.script_run.specs.Top.{Ran, IsLegalRun, IsWithinLimits, StopsWith, IsExactly, input_of, usage, IsInstead, HasStopped, IsBroken, HasPut, status_of, Finished}
use Rattle.script_run.proofs.Runs.{text_of-append}
use Rattle.script_run.proofs.Streams.{prompt_more}

-- ---- numbers of statuses

is_ended : (s : Stop) → status_of s ≡ 0 → s ≡ Ended
is_ended Ended e = refl
is_ended (Bad n) e = absurd (omega (arith, e))
is_ended (Full l) e = absurd (omega (arith, e))
is_ended (Spent n) e = absurd (omega (arith, e))

-- no stop has the status of a fault
pub not_instead : (s : Stop) → IsInstead (status_of s) → ⊥
not_instead Ended (inl e) = omega (arith, e)
not_instead Ended (inr (inl e)) = omega (arith, e)
not_instead Ended (inr (inr e)) = omega (arith, e)
not_instead (Bad n) (inl e) = omega (arith, e)
not_instead (Bad n) (inr (inl e)) = omega (arith, e)
not_instead (Bad n) (inr (inr e)) = omega (arith, e)
not_instead (Full l) (inl e) = omega (arith, e)
not_instead (Full l) (inr (inl e)) = omega (arith, e)
not_instead (Full l) (inr (inr e)) = omega (arith, e)
not_instead (Spent n) (inl e) = omega (arith, e)
not_instead (Spent n) (inr (inl e)) = omega (arith, e)
not_instead (Spent n) (inr (inr e)) = omega (arith, e)

no_answer : (n : ℕ) → IsInstead n → HasStopped n → ⊥
no_answer n (inl a) (inl e) = omega (arith, a, e)
no_answer n (inl a) (inr (inl e)) = omega (arith, a, e)
no_answer n (inl a) (inr (inr e)) = omega (arith, a, e)
no_answer n (inr (inl a)) (inl e) = omega (arith, a, e)
no_answer n (inr (inl a)) (inr (inl e)) = omega (arith, a, e)
no_answer n (inr (inl a)) (inr (inr e)) = omega (arith, a, e)
no_answer n (inr (inr a)) (inl e) = omega (arith, a, e)
no_answer n (inr (inr a)) (inr (inl e)) = omega (arith, a, e)
no_answer n (inr (inr a)) (inr (inr e)) = omega (arith, a, e)

unbroken_four : (n : ℕ) → n ≡ 4 → IsBroken n → ⊥
unbroken_four n e (inl b) = omega (arith, e, b)
unbroken_four n e (inr b) = omega (arith, e, b)

-- ---- a run that came to a stop

written : (input done unput : List ℕ) (old mid new : Option (List ℕ)) (stop : Stop) (world : World) → Appends old mid done → ComesTo (done ++ unput) (outcome_of input) stop world
    → Appends mid new (unput ++ text_of (ending stop world)) → Appends old new (output_of input)
unfolding output_of
written input done unput old mid new stop world w r h =
    rw (text_of-append (outcome_of input).told (ending (outcome_of input).stop (outcome_of input).world), ← r.told, ← r.stop_is, ← r.world_is, append_assoc done unput (text_of (ending stop world)))
    (Appends-append old mid new done (unput ++ text_of (ending stop world)) w h)

fronted : (input done unput : List ℕ) (old mid new : Option (List ℕ)) (stop : Stop) (world : World) → Appends old mid done → ComesTo (done ++ unput) (outcome_of input) stop world
    → WritesFront mid new (unput ++ text_of (ending stop world)) → WritesFront old new (output_of input)
unfolding output_of
fronted input done unput old mid new stop world w r f = (
  done ++ f.0,
  f.1,
  text_of-append (outcome_of input).told (ending (outcome_of input).stop (outcome_of input).world)
      ∙ (rw (← r.told, ← r.stop_is, ← r.world_is, append_assoc done unput (text_of (ending stop world)), append_assoc done f.0 f.1) (ap (λ (l : List ℕ). done ++ l) f.2)),
  Appends-append old mid new done f.0 w f.3,
)

-- a script of the grammar within the limits comes to its end
ends_well : (input : List ℕ) → EndsOrIsFull (outcome_of input).stop → IsWithinLimits input → (outcome_of input).stop ≡ Ended
ends_well input (inl e) within = e
ends_well input (inr full) within = absurd (within full.0 full.1)

-- the answer is that of a stop, exactly
exact : (input : List ℕ) (status number : ℕ) → number ≡ status_of (outcome_of input).stop → IsExactly (StopsWith input status) status number
exact input status number e = inr ((λ (n : number ≡ status). sym e ∙ n), (λ (s : StopsWith input status). e ∙ s))

-- the run over what the source had has this stop, and so has the run over what was taken
pub record Ends (left_old left_new old mid : Option (List ℕ)) (taken done unput : List ℕ) (stop : Stop) (world : World) : Type 0 where
  pub moves : Taken left_old left_new old mid taken
  pub put : Appends old mid done
  pub over : ComesTo (done ++ unput) (outcome_of (input_of taken left_new)) stop world
  pub here : ComesTo (done ++ unput) (outcome_of taken) stop world
  pub at_end : IsSpent stop → IsAtEnd left_new

finished : RunsAreLegalSoFar → ScriptsEnd → (left_old left_new old mid new : Option (List ℕ)) (taken done unput : List ℕ) (stop : Stop) (world : World) (number : ℕ)
    → Ends left_old left_new old mid taken done unput stop world → Finished mid new unput stop world number → Ran left_old left_new old new number
finished so_far ends left_old left_new old mid new taken done unput stop world number k (inl h) =
    let input = input_of taken left_new in
    let e : number ≡ status_of (outcome_of input).stop = h.0 ∙ ap status_of k.over.stop_is in
    let plain : IsInstead number → ⊥ = λ b. not_instead stop (subst IsInstead h.0 b) in
    record {
      taken = taken;
      moves = k.moves.taken;
      done = exact input 0 number e;
      bad_line = exact input 3 number e;
      limit = exact input 7 number e;
      complete = λ script within. inr (e ∙ ap status_of (ends_well input (ends input script) within));
      written = λ _. written input done unput old mid new stop world k.put k.over h.1;
      cut = λ n. absurd (plain (inl n));
      front = λ b. absurd (plain (inr b));
      prompt = prompt_more taken (unput ++ text_of (ending stop world)) old mid new k.moves.prompt h.1;
      legal = λ g. so_far taken g;
    }
finished so_far ends left_old left_new old mid new taken done unput stop world number k (inr h) =
    let b : IsInstead number = inr h.0 in
    record {
      taken = taken;
      moves = k.moves.taken;
      done = inl b;
      bad_line = inl b;
      limit = inl b;
      complete = λ script within. inl b;
      written = λ a. absurd (no_answer number b a);
      cut = λ n. absurd (unbroken_four number n h.0);
      front = λ _. inr ((λ spent. k.at_end (subst IsSpent (sym k.here.stop_is) spent)), fronted taken done unput old mid new stop world k.put k.here h.1);
      prompt = prompt_more taken h.1.0 old mid new k.moves.prompt h.1.3;
      legal = λ g. so_far taken g;
    }

-- status 0 comes at the end alone
headed : RunsAreLegal → (left_old left_new old mid new : Option (List ℕ)) (taken done unput : List ℕ) (stop : Stop) (world : World) (number : ℕ)
    → Ends left_old left_new old mid taken done unput stop world → Finished mid new unput stop world number → number ≡ 0 → IsLegalRun left_old left_new old new
headed whole left_old left_new old mid new taken done unput stop world number k (inl h) e = record {
  taken = taken;
  moves = k.moves.taken;
  written = written (input_of taken left_new) done unput old mid new stop world k.put k.over h.1;
  legal = λ g. whole (input_of taken left_new) g (sym k.over.stop_is ∙ is_ended stop (sym h.0 ∙ e));
}
headed whole left_old left_new old mid new taken done unput stop world number k (inr h) e = absurd (no_answer number (inr h.0) (inl e))

-- ---- the input is what was taken, and what is left

stopped_ends : (left_old left_new old mid : Option (List ℕ)) (stop : Stop) (world : World) (unput : List ℕ) → (s : Stopped left_old left_new old mid stop world unput) → Ends left_old left_new old mid s.script s.done unput stop world
stopped_ends left_old None old mid stop world unput s =
    let here = rw append-nil at (s.reached []) in
    record { moves = s.taken; put = s.written; over = here; here = here; at_end = λ spent. absurd (s.own spent) }
stopped_ends left_old (Some rest) old mid stop world unput s = record { moves = s.taken; put = s.written; over = s.reached rest; here = rw append-nil at (s.reached []); at_end = λ spent. absurd (s.own spent) }

cut_ends : (left_old left_new old mid : Option (List ℕ)) (line : ℕ) (world : World) → IsAtEnd left_new → (s : IsCut left_old left_new old mid line world) → Ends left_old left_new old mid s.script s.done [] (Spent line) world
cut_ends left_old None old mid line world z s =
    let here : ComesTo (s.done ++ []) (outcome_of s.script) (Spent line) world = rw (append-nil s.done) s.reached in
    record { moves = s.taken; put = s.written; over = here; here = here; at_end = λ _. tt }
cut_ends left_old (Some rest) old mid line world z s =
    let here : ComesTo (s.done ++ []) (outcome_of s.script) (Spent line) world = rw (append-nil s.done) s.reached in
    let all : s.script ++ rest ≡ s.script = ap (λ (l : List ℕ). s.script ++ l) z ∙ append-nil s.script in
    let over : ComesTo (s.done ++ []) (outcome_of (s.script ++ rest)) (Spent line) world = rw all here in
    record { moves = s.taken; put = s.written; over = over; here = here; at_end = λ _. z }

pub stopped_runs : RunsAreLegalSoFar → ScriptsEnd → (left_old left_new old mid new : Option (List ℕ)) (stop : Stop) (world : World) (unput : List ℕ) (number : ℕ) → Stopped left_old left_new old mid stop world unput
    → Finished mid new unput stop world number → Ran left_old left_new old new number
stopped_runs so_far ends left_old left_new old mid new stop world unput number s f = finished so_far ends left_old left_new old mid new s.script s.done unput stop world number (stopped_ends left_old left_new old mid stop world unput s) f

pub stopped_headed : RunsAreLegal → (left_old left_new old mid new : Option (List ℕ)) (stop : Stop) (world : World) (unput : List ℕ) (number : ℕ) → Stopped left_old left_new old mid stop world unput
    → Finished mid new unput stop world number → number ≡ 0 → IsLegalRun left_old left_new old new
stopped_headed whole left_old left_new old mid new stop world unput number s f e = headed whole left_old left_new old mid new s.script s.done unput stop world number (stopped_ends left_old left_new old mid stop world unput s) f e

pub cut_runs : RunsAreLegalSoFar → ScriptsEnd → (left_old left_new old mid new : Option (List ℕ)) (line : ℕ) (world : World) (number : ℕ) → IsCut left_old left_new old mid line world → IsAtEnd left_new
    → Finished mid new [] (Spent line) world number → Ran left_old left_new old new number
cut_runs so_far ends left_old left_new old mid new line world number s z f = finished so_far ends left_old left_new old mid new s.script s.done [] (Spent line) world number (cut_ends left_old left_new old mid line world z s) f

-- a run that is cut doesn't answer 0
pub cut_headed : (left_old left_new old mid new : Option (List ℕ)) (bytes : List ℕ) (number : ℕ) → HasPut mid new bytes 3 number → number ≡ 0 → IsLegalRun left_old left_new old new
cut_headed left_old left_new old mid new bytes number (inl h) e = absurd (omega (arith, h.0, e))
cut_headed left_old left_new old mid new bytes number (inr h) e = absurd (no_answer number (inr h.0) (inl e))

-- ---- a run that is given up

-- the source failed
pub faulted_runs : RunsAreLegalSoFar → (left_old left_new old new : Option (List ℕ)) (line : ℕ) (world : World) (number : ℕ) → number ≡ 4 → IsCut left_old left_new old new line world → Ran left_old left_new old new number
faulted_runs so_far left_old left_new old new line world number n s =
    let b : IsInstead number = inl n in
    record {
      taken = s.script;
      moves = s.taken.taken;
      done = inl b;
      bad_line = inl b;
      limit = inl b;
      complete = λ script within. inl b;
      written = λ a. absurd (no_answer number b a);
      cut = λ _. record { open_end = subst IsSpent s.reached.stop_is tt; written = rw (← s.reached.told) s.written };
      front = λ k. absurd (unbroken_four number n k);
      prompt = s.taken.prompt;
      legal = λ g. so_far s.script g;
    }

-- the sink failed, or memory ran out, in the midst of its lines
pub given_up_runs : RunsAreLegalSoFar → (left_old left_new old new : Option (List ℕ)) (number : ℕ) → IsBroken number → GivenUp left_old left_new old new → Ran left_old left_new old new number
given_up_runs so_far left_old left_new old new number n s =
    let b : IsInstead number = inr n in
    record {
      taken = s.script;
      moves = s.taken.taken;
      done = inl b;
      bad_line = inl b;
      limit = inl b;
      complete = λ script within. inl b;
      written = λ a. absurd (no_answer number b a);
      cut = λ e. absurd (unbroken_four number e n);
      front = λ _. inl s.front;
      prompt = s.taken.prompt;
      legal = λ g. so_far s.script g;
    }

-- ---- the line of a usage

pub usage_is : usage ≡ codes "usage" ++ 10 ∷ []
unfolding print_line
usage_is = refl
