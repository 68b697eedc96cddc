use Rattle.std.proofs.Common.{◌∙◌}
use Rattle.log_record.proofs.Files.{at_gate}
use Rattle.log_record.proofs.gate_file.GateFile.open.Goals as goal

pub returns-clause-store : goal.returns-clause-store
returns-clause-store g c = λ honest.
    (let tells = (g.met.D.Disk.sound c.args.disk.now).tells honest in
    let whole = c.in_ok-opened.ensures.whole in
    record {
      at_gate = at_gate (g.D.Disk.state c.args.disk.now) (g.D.Disk.state c.load.new.disk) c.args.file c.in_ok-opened.opened.gate c.deref.result.now c.in_ok-opened.opened.records.items c.in_ok-opened.opened.reached tells (c.deref.ensures.value ∙ c.in_ok-bytes.ensures.bytes tells) whole c.in_ok-bytes.ensures.keeps (c.in_ok-bytes.ensures.sure honest);
      small = whole.small;
      reaches = whole.reaches;
    })
