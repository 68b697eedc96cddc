use Rattle.std.proofs.lemmas.Result.{on_ok_weaker}
use Rattle.gate_files.proofs.Saved.{wrote, wrote_on, ready, readied, unlocked, unlocked_on, saved}
use Rattle.gate_files.proofs.saving.save.Goals as goal

pub returns-in_err-write_at-clause-any_moment : goal.returns-in_err-write_at-clause-any_moment
returns-in_err-write_at-clause-any_moment g c =
    λ rs r honest spelt is.
    let disk = g.met.D.Disk.sound c.args.disk.now in
    (wrote rs r _ _ _ _ spelt is _ disk honest c.write_at.ensures.alters c.write_at.ensures.goes_on).moments

pub returns-in_err-sync-clause-any_moment : goal.returns-in_err-sync-clause-any_moment
returns-in_err-sync-clause-any_moment g c =
    λ rs r honest spelt is.
    let disk = g.met.D.Disk.sound c.args.disk.now in
    let now1 = wrote rs r _ _ _ _ spelt is _ disk honest c.write_at.ensures.alters c.write_at.ensures.goes_on in
    (wrote_on rs r _ _ _ _ spelt is _ _ now1 c.sync.ensures.keeps c.sync.ensures.goes_on).moments

pub returns-in_err-write_at-2-clause-any_moment : goal.returns-in_err-write_at-2-clause-any_moment
returns-in_err-write_at-2-clause-any_moment g c =
    λ rs r honest spelt is.
    let disk = g.met.D.Disk.sound c.args.disk.now in
    let tells = disk.tells honest in
    let now1 = wrote rs r _ _ _ _ spelt is _ disk honest c.write_at.ensures.alters c.write_at.ensures.goes_on in
    let now2 = wrote_on rs r _ _ _ _ spelt is _ _ now1 c.sync.ensures.keeps c.sync.ensures.goes_on in
    let seen2 = ready rs r _ _ _ _ spelt is _ _ (c.write_at.ensures.goes_on.tells tells) (c.in_ok-write_at.ensures.written tells) c.sync.ensures.keeps in
    let sure2 = readied rs r _ _ _ _ spelt is _ now2 (c.in_ok-sync.ensures.sure now1.honest) seen2 in
    (unlocked rs r _ _ _ _ spelt is _ _ sure2 c.write_at-2.ensures.alters c.write_at-2.ensures.goes_on).moments

pub returns-clause-any_moment : goal.returns-clause-any_moment
returns-clause-any_moment g c =
    λ rs r honest spelt is.
    let disk = g.met.D.Disk.sound c.args.disk.now in
    let tells = disk.tells honest in
    let now1 = wrote rs r _ _ _ _ spelt is _ disk honest c.write_at.ensures.alters c.write_at.ensures.goes_on in
    let now2 = wrote_on rs r _ _ _ _ spelt is _ _ now1 c.sync.ensures.keeps c.sync.ensures.goes_on in
    let seen2 = ready rs r _ _ _ _ spelt is _ _ (c.write_at.ensures.goes_on.tells tells) (c.in_ok-write_at.ensures.written tells) c.sync.ensures.keeps in
    let sure2 = readied rs r _ _ _ _ spelt is _ now2 (c.in_ok-sync.ensures.sure now1.honest) seen2 in
    let now3 = unlocked rs r _ _ _ _ spelt is _ _ sure2 c.write_at-2.ensures.alters c.write_at-2.ensures.goes_on in
    (unlocked_on rs r _ _ _ _ spelt is _ _ now3 c.sync-2.ensures.keeps c.sync-2.ensures.goes_on).moments

pub returns-clause-saved : goal.returns-clause-saved
returns-clause-saved g c =
    λ rs r honest spelt is.
    let d = g.D.Disk.state in
    let tells0 = (g.met.D.Disk.sound c.args.disk.now).tells honest in
    let tells1 = c.write_at.ensures.goes_on.tells tells0 in
    let tells2 = c.sync.ensures.goes_on.tells tells1 in
    let tells3 = c.write_at-2.ensures.goes_on.tells tells2 in
    let honest3 = c.write_at-2.ensures.goes_on.honest (c.sync.ensures.goes_on.honest (c.write_at.ensures.goes_on.honest honest)) in
    let seen2 = ready rs r _ _ _ _ spelt is _ _ tells1 (c.in_ok-write_at.ensures.written tells0) c.sync.ensures.keeps in
    on_ok_weaker c.sync-2.result (λ sure. saved rs r _ _ _ _ spelt is (d c.sync.new.self) (d c.write_at-2.new.self) (d c.sync-2.new.self) tells3 seen2 (c.in_ok-write_at-2.ensures.written tells2) c.sync-2.ensures.keeps sure) (c.sync-2.ensures.sure honest3)
