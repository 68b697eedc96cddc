use Rattle.std.proofs.Common.{length}
use Rattle.std.specs.List.{flat_map}
use Rattle.std.specs.Int.{to_be_bytes, w32, w64}
use Rattle.session_lru.specs.Section.{reply_bytes}
use Rattle.session_lru.proofs.Exits.{on_ok}
use Rattle.session_lru.proofs.Parts.{session_parts}
use Rattle.session_lru.proofs.Sublists.{all_short, in_a_row}
use Rattle.session_lru.proofs.session.Session.spell.Goals as goal

pub spell-requires : goal.spell-requires
spell-requires c = all_short c.args.self.now.responded c.args.self.now.replies (session_parts (c.args.client, c.args.self.now) c.requires).replies

pub returns : goal.returns
returns c = on_ok c.spell.result c.spell.ensures (λ e. rw (e, c.in_ok-put_32.ensures, c.in_ok-put_64-2.ensures, c.in_ok-put_64.ensures, c.len.ensures) (in_a_row c.args.out.now.items (to_be_bytes w64 c.args.client) (to_be_bytes w64 c.args.self.now.responded) (to_be_bytes w32 (length c.args.self.now.replies)) (flat_map reply_bytes c.args.self.now.replies)))
