-- What is legal of the worked output and of the spoiled ones, by computation.
use Rattle.std.proofs.Common.{◌≡◌, List, refl, sym, ◌∙◌}
use Rattle.std.specs.Prelude.{true, false}
use Rattle.std.specs.Fmt.{digits}
use Rattle.object_model.specs.declared.mark.Mark.{Mark}
use Rattle.object_model.specs.Words.{number_on}
use Rattle.object_model.specs.Command.{command_of, query_of}
use Rattle.object_model.specs.Object.{after, answer}
use Rattle.object_model.specs.Sequence.{standing, raised, after_all}
use Rattle.object_model.specs.Mark.{entries}
use Rattle.object_model.specs.Legal.{IsLegalOutput}
use Rattle.object_model.specs.Decision.{legal, each_good}
use Rattle.object_model.specs.Laws.{DecidesLegal}
use Rattle.legal_rows.specs.Outputs.{worked, second_ending, unasked_ending, other_reply, unasked_entry, read_below_told, skipped_number, late_number, repeated_number}

-- what the test lets through is legal
pub passes : DecidesLegal → (ms : List Mark) → legal 4096 (entries ms) ms ≡ true → IsLegalOutput 4096 ms
passes decides ms e = (decides 4096 (entries ms) ms).0 e

-- what the test refuses isn't
pub refused : DecidesLegal → (ms : List Mark) → legal 4096 (entries ms) ms ≡ false → ¬ IsLegalOutput 4096 ms
refused decides ms e l = let q : true ≡ false = sym ((decides 4096 (entries ms) ms).1 l) ∙ e in cc

pub worked_passes : legal 4096 (entries worked) worked ≡ true
unfolding digits number_on command_of query_of after answer standing raised after_all each_good
worked_passes = refl

pub second_ending_refused : legal 4096 (entries second_ending) second_ending ≡ false
unfolding digits number_on command_of query_of after answer standing raised after_all each_good
second_ending_refused = refl

pub unasked_ending_refused : legal 4096 (entries unasked_ending) unasked_ending ≡ false
unfolding digits number_on command_of query_of after answer standing raised after_all each_good
unasked_ending_refused = refl

pub other_reply_refused : legal 4096 (entries other_reply) other_reply ≡ false
unfolding digits number_on command_of query_of after answer standing raised after_all each_good
other_reply_refused = refl

pub unasked_entry_refused : legal 4096 (entries unasked_entry) unasked_entry ≡ false
unfolding digits number_on command_of query_of after answer standing raised after_all each_good
unasked_entry_refused = refl

pub read_below_told_refused : legal 4096 (entries read_below_told) read_below_told ≡ false
unfolding digits number_on command_of query_of after answer standing raised after_all each_good
read_below_told_refused = refl

pub skipped_number_refused : legal 4096 (entries skipped_number) skipped_number ≡ false
unfolding digits number_on command_of query_of after answer standing raised after_all each_good
skipped_number_refused = refl

pub late_number_refused : legal 4096 (entries late_number) late_number ≡ false
unfolding digits number_on command_of query_of after answer standing raised after_all each_good
late_number_refused = refl

pub repeated_number_refused : legal 4096 (entries repeated_number) repeated_number ≡ false
unfolding digits number_on command_of query_of after answer standing raised after_all each_good
repeated_number_refused = refl
