use Rattle.legal_rows.specs.Outputs.{second_ending, unasked_ending, other_reply, unasked_entry, read_below_told, skipped_number, late_number, repeated_number}
use Rattle.legal_rows.proofs.Computed.{refused, second_ending_refused, unasked_ending_refused, other_reply_refused, unasked_entry_refused, read_below_told_refused, skipped_number_refused, late_number_refused, repeated_number_refused}
use Rattle.legal_rows.proofs.spoiled_outputs.Goals as goal

pub returns : goal.returns
returns c = record {
  second_ending = refused c.decides_legal.ensures second_ending second_ending_refused;
  unasked_ending = refused c.decides_legal.ensures unasked_ending unasked_ending_refused;
  other_reply = refused c.decides_legal.ensures other_reply other_reply_refused;
  unasked_entry = refused c.decides_legal.ensures unasked_entry unasked_entry_refused;
  read_below_told = refused c.decides_legal.ensures read_below_told read_below_told_refused;
  skipped_number = refused c.decides_legal.ensures skipped_number skipped_number_refused;
  late_number = refused c.decides_legal.ensures late_number late_number_refused;
  repeated_number = refused c.decides_legal.ensures repeated_number repeated_number_refused;
}
