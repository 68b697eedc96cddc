use Rattle.std.proofs.Common.{◌∙◌, sym}
use Rattle.log_record.proofs.Sizes.{not_ordered, small_by_size}
use Rattle.log_record.proofs.batch.is_small_batch.Goals as goal

pub returns-then-are_entries : goal.returns-then-are_entries
returns-then-are_entries c =
    c.fit_in.ensures ∙ small_by_size c.args.batch.now c.requires c.items-entries.result.now c.items-entries.ensures (sym c.has_room.ensures ∙ c.if-not-has_room.false) (sym c.are_entries.ensures ∙ c.if-are_entries.true)

pub returns-else-are_entries : goal.returns-else-are_entries
returns-else-are_entries c =
    c.if-are_entries.false ∙ sym (not_ordered c.args.batch.now c.requires c.items-entries.result.now c.items-entries.ensures (sym c.has_room.ensures ∙ c.if-not-has_room.false) (sym c.are_entries.ensures ∙ c.if-are_entries.false))
