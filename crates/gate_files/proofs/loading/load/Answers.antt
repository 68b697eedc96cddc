use Rattle.std.proofs.Common.{rules, ◌≡◌, length, min, ap, subst, ◌∙◌}
use Rattle.disk_model.specs.Calls.{Reads}
use Rattle.gate_files.proofs.Loaded.{goes_on_loading}
use Rattle.gate_files.proofs.loading.load.Goals as goal

pub loop-disk-preserved : goal.loop-disk-preserved
loop-disk-preserved g c =
    let long : c.loop-disk.piece.len ≡ length c.loop-disk.piece.items = search rules in
    let place : c.len-in-loop-disk.result ≡ length c.loop-disk.bytes.items = search rules in
    let size : c.len-in-loop-disk-2.result ≡ length c.loop-disk.piece.items = search rules in
    let least : c.min-read.result ≡ min c.in_ok-read.field-0 (length c.loop-disk.piece.items) = c.min-read.ensures ∙ ap (λ k. min c.in_ok-read.field-0 k) size in
    let on = goes_on_loading (g.D.Disk.state c.args.disk.now) (g.D.Disk.state c.loop-disk.disk) (g.D.Disk.state c.read.new.self) (g.met.D.Disk.sound c.loop-disk.disk) c.args.file c.in_ok-size.size c.loop-disk.piece.items c.loop-disk.bytes.items c.loop-disk.invariant
    c.deref_mut.result.now c.read.new.into c.deref_mut.ensures.value c.in_ok-read.field-0
    (λ t. subst (λ k. Reads ((g.D.Disk.state c.loop-disk.disk).seen c.args.file) k c.in_ok-read.field-0 c.deref_mut.result.now c.read.new.into) place (c.in_ok-read.ensures.bytes t))
    c.in_ok-read.ensures.keeps c.in_ok-read.ensures.goes_on c.in_ok-read.ensures.cause.later in
    rw (c.in_ok-extend_from_slice.ensures.items, c.deref.ensures.value, long, least) on
