use Rattle.std.proofs.Common.{◌≡◌, ℕ, ◌+◌, ◌<◌, List, ◌++◌, length, drop, get_or, sym, ap, ◌∙◌, append_assoc, refl, add-one}
use Rattle.std.proofs.Math.Seq.{drop-cons}
use Rattle.host_ids.specs.declared.entry.Key.{Key}
use Rattle.script_text.specs.declared.told.Told.{Told}
use Rattle.run_model.specs.declared.told.Want.{Want}
use Rattle.run_model.specs.World.{Cell}
use Rattle.run_model.specs.Run.{Answered, answered, answer_told, want_of, without}
use Rattle.script_parts.specs.Cell.{cell_of}
use Rattle.script_parts.proofs.cell.answer_all.Goals as goal

abbrev no_key : Key
no_key = record { host = 0; start = 0; serial = 0 }

-- one read more is answered
turn : (contexts : List (List (List ℕ))) (c : Cell) (keys : List Key) (i : ℕ) (wants : List (Key × Want)) → i < length keys
    → answered contexts c (drop i keys) wants ≡ record {
      wants = (answered contexts c (drop (i + 1) keys) (without (get_or keys i no_key) wants)).wants;
      told = answer_told contexts c (get_or keys i no_key) (want_of (get_or keys i no_key) wants) ++ (answered contexts c (drop (i + 1) keys) (without (get_or keys i no_key) wants)).told;
    }
unfolding answered
turn contexts c keys i wants h = rw (add-one, drop-cons keys i no_key) refl

pub loop-key-preserved : goal.loop-key-preserved
loop-key-preserved c =
    let h = c.in_ok-answer_one.ensures.requests in
    let k = c.in_ok-answer_one.ensures.told in
    let t = turn c.args.contexts.now (cell_of c.args.cell.now) c.args.keys.now c.loop-key.key-index c.loop-key.requests.wants c.loop-key-test.true in
    record {
      wants = rw h (sym (ap (λ (a : Answered). a.wants) t) ∙ c.loop-key.invariant.wants);
      waiting = rw h c.loop-key.invariant.waiting;
      told = rw (h, k, append_assoc) (ap (λ (l : List Told). c.loop-key.out ++ l) (sym (ap (λ (a : Answered). a.told) t)) ∙ c.loop-key.invariant.told);
    }
