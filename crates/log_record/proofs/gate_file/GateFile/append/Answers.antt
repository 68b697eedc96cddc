use Rattle.std.proofs.Common.{◌∙◌, ◌+◌, ap, length, map, refl, sym, ℕ}
use Rattle.log_record.specs.Record.{record_bytes}
use Rattle.log_record.proofs.Files.{appended, left_by_records, untouched}
use Rattle.log_record.proofs.gate_file.GateFile.append.Goals as goal

pub returns-in_err-framed-clause-any_moment : goal.returns-in_err-framed-clause-any_moment
returns-in_err-framed-clause-any_moment g c = λ rs honest is. untouched (g.D.Disk.state c.args.disk.now) c.args.self.now rs c.args.record.now (g.met.D.Disk.sound c.args.disk.now) honest is

pub returns-then-self-len-clause-any_moment : goal.returns-then-self-len-clause-any_moment
returns-then-self-len-clause-any_moment g c = λ rs honest is. untouched (g.D.Disk.state c.args.disk.now) c.args.self.now rs c.args.record.now (g.met.D.Disk.sound c.args.disk.now) honest is

pub returns-in_err-save-clause-any_moment : goal.returns-in_err-save-clause-any_moment
returns-in_err-save-clause-any_moment g c = λ rs honest is.
    left_by_records c.args.self.now.file rs c.args.record.now c.args.self.now.reached is.small (record { good = record { well_formed = c.requires.formed; fitting = c.in_ok-framed.ensures.fits }; few = c.requires.few }) is.reaches c.requires.follows
    (g.D.Disk.state c.args.disk.now) (g.D.Disk.state c.save.new.disk)
    (c.in_err-save.ensures.any_moment (map record_bytes rs) (record_bytes c.args.record.now) honest (c.deref.ensures.value ∙ c.in_ok-framed.ensures.bytes) is.at_gate)

pub returns-clause-any_moment : goal.returns-clause-any_moment
returns-clause-any_moment g c = λ rs honest is.
    left_by_records c.args.self.now.file rs c.args.record.now c.args.self.now.reached is.small (record { good = record { well_formed = c.requires.formed; fitting = c.in_ok-framed.ensures.fits }; few = c.requires.few }) is.reaches c.requires.follows
    (g.D.Disk.state c.args.disk.now) (g.D.Disk.state c.save.new.disk)
    (c.in_ok-save.ensures.any_moment (map record_bytes rs) (record_bytes c.args.record.now) honest (c.deref.ensures.value ∙ c.in_ok-framed.ensures.bytes) is.at_gate)

pub returns-clause-saved : goal.returns-clause-saved
returns-clause-saved g c = λ rs honest is.
    appended c.args.self.now.file rs c.args.record.now c.args.self.now.reached is.small (record { good = record { well_formed = c.requires.formed; fitting = c.in_ok-framed.ensures.fits }; few = c.requires.few }) is.reaches c.requires.follows
    (g.D.Disk.state c.save.new.disk) (record { alloc = c.args.self.now.alloc; file = c.args.self.now.file; gate = c.args.self.now.gate + c.len-2.result; reached = c.take.new.self }) (c.args.self.now.gate + length c.deref.result.now)
    refl (ap (λ (n : ℕ). c.args.self.now.gate + n) (c.len-2.ensures ∙ sym c.deref.ensures.len)) c.take.ensures
    (c.in_ok-save.ensures.saved (map record_bytes rs) (record_bytes c.args.record.now) honest (c.deref.ensures.value ∙ c.in_ok-framed.ensures.bytes) is.at_gate)
