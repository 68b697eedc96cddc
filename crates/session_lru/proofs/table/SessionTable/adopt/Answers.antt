use Rattle.std.proofs.Common.{◌≡◌, ◌<◌, length, refl, sym, subst, false}
use Rattle.session_lru.specs.Table.{Table}
use Rattle.session_lru.specs.Section.{has_client}
use Rattle.session_lru.proofs.Putting.{put_new}
use Rattle.session_lru.proofs.Tables.{adopted_table, none_among, take_whole}
use Rattle.session_lru.proofs.table.SessionTable.adopt.Goals as goal

pub invariant_of-self-2 : goal.invariant_of-self-2
invariant_of-self-2 c =
    let es = c.self.inside.cache.entries in
    let cap = c.self.inside.cache.cap in
    let new : has_client c.args.client es ≡ false = subst (λ (t : Table). has_client c.args.client t.sessions ≡ false) (sym c.self.view_is) c.requires.new in
    let room : length es < cap = subst (λ (t : Table). length t.sessions < t.limit) (sym c.self.view_is) c.requires.room in
    let absent = none_among c.args.client es new in
    rw (c.in_ok-put.ensures.entries, put_new c.args.client es cap _ absent, take_whole es cap room)
    (adopted_table c.args.client c.args.state (record { limit = cap; sessions = es }) c.self.invariant c.requires.state new room)

pub returns : goal.returns
returns c =
    let es = c.self.inside.cache.entries in
    let cap = c.self.inside.cache.cap in
    let new : has_client c.args.client es ≡ false = subst (λ (t : Table). has_client c.args.client t.sessions ≡ false) (sym c.self.view_is) c.requires.new in
    let room : length es < cap = subst (λ (t : Table). length t.sessions < t.limit) (sym c.self.view_is) c.requires.room in
    let absent = none_among c.args.client es new in
    record { ok = rw (← c.self.view_is, c.in_ok-put.ensures.entries, put_new c.args.client es cap _ absent, take_whole es cap room) refl }
